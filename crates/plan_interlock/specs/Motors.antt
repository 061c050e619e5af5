-- What loads say about motors.
use Rattle.std.specs.Prelude.{◌≡◌, ◌↔◌, ℕ, ◌/◌, ◌%◌, ◌^◌, List, IsTrue}
use Rattle.plan_types.specs.declared.answer.Event.{Event}
use Rattle.plan_types.specs.Table.{PlanTable}
use Rattle.plan_rules.specs.declared.state.State.{State}
use Rattle.plan_rules.specs.History.{after}
use Rattle.plan_motors.specs.declared.motor.Motor.{Motor}
use Rattle.plan_motors.specs.declared.mask.MotorMask.{MotorMask}
use Rattle.plan_motors.specs.Motor.{Permits}
use Rattle.plan_motors.specs.Mask.{IsMaskOf, allows}
use Rattle.plan_motors.specs.OfPlan.{IsMotorOf}
use Rattle.word_interlock.specs.History.{after as after_by, IsLawful, Waits}
use Rattle.plan_interlock.specs.Book.{plan_book}

-- a bit of a number is set
abbrev pub HasBit : ℕ → ℕ → Type 0
HasBit bits k = bits / 2 ^ k % 2 ≡ 1

-- a survey shows a state, and a load at the same moment finds a word: the word allows a motor exactly if the state
-- permits it
abbrev pub SurveysPermitTheSame : PlanTable → Type 0
SurveysPermitTheSame t =
    (opening shown : State) (seen : List Event) (word : ℕ) (m : Motor) (x : MotorMask)
    → IsLawful (plan_book t) opening seen → shown ≡ after_by (plan_book t) opening seen
    → word ≡ (plan_book t).packed (after_by (plan_book t) opening seen) → IsMaskOf t m x
    → (IsTrue (allows x word) ↔ Permits t shown m)

-- what was permitted to a machine after all that it has seen is permitted still at the point of its next call, whatever
-- others have done between
abbrev pub PermissionsLast : PlanTable → Type 0
PermissionsLast t =
    (opening : State) (m : Motor) (seen point : List Event) → IsMotorOf t m → IsLawful (plan_book t) opening point
    → Waits (plan_book t) m.machine seen point → Permits t (after t opening seen) m
    → Permits t (after t opening point) m
