use Rattle.cell_ring.proofs.lemmas.Together.{each_plate_arrives}
use Rattle.cell_ring.proofs.lemmas.Together.{in_each_stretch}
use Rattle.cell_ring.proofs.laws.each_plate_arrives.Goals as goal

pub returns : goal.returns
returns c = in_each_stretch _ each_plate_arrives c.args.opening.now c.args.history.now c.states_are_sound.ensures.sound c.requires
