use Rattle.plan_compiled.proofs.Walking.{bits_of_both}
use Rattle.plan_compiled.proofs.covering.with_match.Goals as goal

pub returns-clause-kept : goal.returns-clause-kept
returns-clause-kept c = λ k e. (bits_of_both c.args.set c.others.result k e).0

pub returns-clause-met : goal.returns-clause-met
returns-clause-met c = λ e. absurd (c.others.ensures (bits_of_both c.args.set c.others.result c.args.at e).1)
