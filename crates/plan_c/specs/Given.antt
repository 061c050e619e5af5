-- What C gives: a plan that it has opened, the word of a state, and the mask and the pattern of a motor.
use Rattle.std.specs.Prelude.{◌≡◌, ℕ, true, false, []}
use Rattle.plan_types.specs.Table.{PlanTable, plan_table}
use Rattle.plan_rules.specs.declared.state.State.{State}
use Rattle.plan_word.specs.OfPlan.{IsOfPlan}
use Rattle.plan_word.specs.Packed.{packed}
use Rattle.plan_motors.specs.declared.mask.MotorMask.{MotorMask}
use Rattle.plan_c.specs.declared.opened.Opened.{Opened}

-- what C keeps of a plan that was opened, and of bytes that are no plan's
pub record IsOpened (t : PlanTable) (o : Opened) : Type 0 where
  pub is_plan : o.is_plan ≡ true
  pub table : o.compiled.table ≡ t

pub record IsNotOpened (o : Opened) : Type 0 where
  pub is_no_plan : o.is_plan ≡ false
  pub table : o.compiled.table ≡ plan_table 0 [] [] []

-- the word is that of this state of the plan
pub record IsWordOf (t : PlanTable) (word : ℕ) (s : State) : Type 0 where
  pub state : IsOfPlan t s
  pub word_is : packed t s ≡ word

abbrev pub NoState : PlanTable → ℕ → Type 0
NoState t word = (s : State) → ¬ IsWordOf t word s

abbrev pub motor_mask : ℕ → ℕ → MotorMask
motor_mask mask pattern = record { mask = mask; pattern = pattern }
