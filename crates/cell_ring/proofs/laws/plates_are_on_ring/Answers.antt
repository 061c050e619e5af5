use Rattle.cell_ring.proofs.OnRing as ring
use Rattle.cell_ring.proofs.laws.plates_are_on_ring.Goals as goal

pub returns : goal.returns
returns c = ring.on_ring c.args.state.now c.states_are_sound.ensures.sound
