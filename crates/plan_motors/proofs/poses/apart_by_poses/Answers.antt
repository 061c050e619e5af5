use Rattle.std.proofs.Common.{ℕ, Option, Some, None, IsSome, IfSome}
use Rattle.plan_types.specs.Table.{PlanTable}
use Rattle.plan_rules.specs.declared.state.State.{State}
use Rattle.plan_motors.specs.declared.motor.Motor.{Motor}
use Rattle.plan_motors.specs.Poses.{IsApartByPoses, NeverFromPostures}
use Rattle.plan_motors.proofs.Posing.{never_from}
use Rattle.plan_motors.proofs.poses.apart_by_poses.Goals as goal

never : (t : PlanTable) (a b : Motor) (s : State) (o : Option ℕ) → IfSome o (λ m. IsApartByPoses t a b s m) → IsSome o → NeverFromPostures t s a b
never t a b s None k some = cc
never t a b s (Some m) k some = never_from t a b s m k

pub returns-clause-never : goal.returns-clause-never
returns-clause-never c = never c.args.plan.now c.args.first.now c.args.second.now c.args.opening.now _ c.first_apart.ensures.shown
