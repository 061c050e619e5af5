-- Laws of motors, for every plan and every legal history from a sound opening.
use Rattle.std.specs.Prelude.{◌≡◌, ℕ, List, [], ◌∷◌, ◌++◌, ⊤}
use Rattle.plan_types.specs.declared.call.Call.{Call}
use Rattle.plan_types.specs.declared.answer.Event.{Event}
use Rattle.plan_types.specs.Table.{PlanTable}
use Rattle.plan_rules.specs.declared.state.State.{State}
use Rattle.plan_rules.specs.Reply.{next}
use Rattle.plan_rules.specs.History.{after}
use Rattle.plan_motors.specs.declared.motor.Motor.{Motor}
use Rattle.plan_motors.specs.Motor.{Permits}

-- a call of a motor's own machine loses the motor's permission: the state before it permits the motor, the one after it
-- doesn't
pub record LosesPermission (t : PlanTable) (s : State) (n : ℕ) (c : Call) (m : Motor) : Type 0 where
  pub own : n ≡ m.machine
  pub before : Permits t s m
  pub lost : ¬ Permits t (next t s n c) m

-- none of these events does
abbrev pub KeepsPermission : PlanTable → State → List Event → Motor → Type 0
KeepsPermission t s [] m = ⊤
KeepsPermission t s (e ∷ more) m =
    (¬ LosesPermission t s e.machine e.call m) × KeepsPermission t (next t s e.machine e.call) more m

-- a machine may still go by a permission that it read after the events `read`, once the events `since` have come too:
-- the motor was permitted then, and no call of its own machine has lost the permission since. Others may have made any
-- calls
pub record MayStillRun (t : PlanTable) (s : State) (read since : List Event) (m : Motor) : Type 0 where
  pub permitted : Permits t (after t s read) m
  pub kept : KeepsPermission t (after t s read) since m

-- after a history a machine may run a motor by a permission that it read at some moment of the history
pub record MayRun (t : PlanTable) (s : State) (h : List Event) (m : Motor) : Type 0 where
  pub read : List Event
  pub since : List Event
  pub split : h ≡ read ++ since
  pub still : MayStillRun t s read since m
