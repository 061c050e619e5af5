use Rattle.plan_words.proofs.CutPlates.{gives_are_the_plans}
use Rattle.plan_words.proofs.laws.gives_are_the_plans.Goals as goal

pub returns : goal.returns
returns g = λ c count words is large out. gives_are_the_plans c count words (record { is = is; large = large; laid_out = out })
