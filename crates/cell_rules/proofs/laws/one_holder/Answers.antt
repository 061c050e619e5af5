use Rattle.cell_rules.proofs.Names.{subst}
use Rattle.cell_rules.specs.Sound.{IsSound}
use Rattle.cell_rules.proofs.lemmas.Assembly.{lawful_at}
use Rattle.cell_rules.proofs.laws.one_holder.Goals as goal

pub returns : goal.returns
returns c before more split = (lawful_at _ _ before more (subst IsSound c.opening.view_is c.opening.invariant) c.requires split).one_holder
