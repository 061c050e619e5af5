use Rattle.cell_ring.proofs.Followed.{plates_are_followed}
use Rattle.cell_ring.proofs.lemmas.Together.{in_each_stretch}
use Rattle.cell_ring.proofs.laws.plates_are_followed.Goals as goal

pub returns : goal.returns
returns c = in_each_stretch _ plates_are_followed c.args.opening.now c.args.history.now c.states_are_sound.ensures.sound c.requires
