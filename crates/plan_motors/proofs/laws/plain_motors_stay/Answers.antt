use Rattle.plan_motors.proofs.PlainMotors.{plain_motors}
use Rattle.plan_motors.proofs.laws.plain_motors_stay.Goals as goal

pub returns : goal.returns
returns c = plain_motors c.plain_plans_stay.ensures
