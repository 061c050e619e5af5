use Rattle.plan_words.proofs.Routes.{calls_are_routed as routed}
use Rattle.plan_words.proofs.laws.calls_are_routed.Goals as goal

pub returns : goal.returns
returns c = routed
