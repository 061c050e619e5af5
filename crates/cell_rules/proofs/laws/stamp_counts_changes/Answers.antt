use Rattle.cell_rules.proofs.Names.{subst}
use Rattle.cell_rules.specs.History.{IsLegal}
use Rattle.cell_rules.proofs.lemmas.Stamps.{stamp-after}
use Rattle.cell_rules.proofs.lemmas.Histories.{legal-left}
use Rattle.cell_rules.proofs.laws.stamp_counts_changes.Goals as goal

pub returns : goal.returns
returns c before more split = stamp-after c.args.opening.now before (legal-left c.args.opening.now before more (subst (IsLegal c.args.opening.now) split c.requires))
