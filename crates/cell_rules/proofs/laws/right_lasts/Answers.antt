use Rattle.cell_rules.proofs.Names.{IsSound, subst}
use Rattle.cell_rules.proofs.lemmas.Keepers.{right_lasts}
use Rattle.cell_rules.proofs.laws.right_lasts.Goals as goal

pub returns : goal.returns
returns c = right_lasts c.args.opening.now _ _ (subst IsSound c.opening.view_is c.opening.invariant) c.requires
