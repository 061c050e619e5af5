use Rattle.plan_words.proofs.Motors.{parts_are_motors as parts}
use Rattle.plan_words.proofs.laws.parts_are_motors.Goals as goal

pub returns : goal.returns
returns c = parts
