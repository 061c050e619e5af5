use Rattle.plan_words.proofs.Engine.{calls_are_allowed}
use Rattle.plan_words.proofs.laws.calls_are_allowed_steps.Goals as goal

pub returns : goal.returns
returns c = calls_are_allowed (Unit {0})
