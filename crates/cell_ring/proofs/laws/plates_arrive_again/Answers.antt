use Rattle.cell_ring.proofs.lemmas.Together.{arrive_again}
use Rattle.cell_ring.proofs.laws.plates_arrive_again.Goals as goal

pub returns : goal.returns
returns c = arrive_again c.args.opening.now c.args.history.now c.states_are_sound.ensures.sound c.requires.start c.requires.legal c.each_plate_arrives.ensures
