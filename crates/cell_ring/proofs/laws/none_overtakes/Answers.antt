use Rattle.cell_ring.proofs.Followed.{none_overtakes}
use Rattle.cell_ring.proofs.lemmas.Together.{in_each_stretch}
use Rattle.cell_ring.proofs.laws.none_overtakes.Goals as goal

pub returns : goal.returns
returns c = in_each_stretch _ none_overtakes c.args.opening.now c.args.history.now c.states_are_sound.ensures.sound c.requires
