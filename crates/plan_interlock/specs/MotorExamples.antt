-- Which bits are set, and the words of two moments at the press: while its ram may run, and while the loader's arm may
-- be in it.
use Rattle.std.specs.Prelude.{◌≡◌, ◌++◌}
use Rattle.plan_types.specs.Examples.{press_table}
use Rattle.plan_rules.specs.Examples.{press_start}
use Rattle.plan_motors.specs.RunExamples.{moves, others_ask, opens}
use Rattle.plan_motors.specs.Examples.{ram}
use Rattle.plan_motors.specs.Motor.{Permits}
use Rattle.plan_motors.specs.OfPlan.{IsMotorOf}
use Rattle.plan_rules.specs.History.{after as plan_after}
use Rattle.word_interlock.specs.History.{after, IsLawful}
use Rattle.plan_interlock.specs.Book.{plan_book}
use Rattle.plan_interlock.specs.Motors.{HasBit, PermissionsLast}

pub record MotorExamples : Type 0 where
  pub second_bit : HasBit 2 1
  pub no_first_bit : ¬ HasBit 2 0
  pub no_third_bit : ¬ HasBit 2 2
  pub last_bit : HasBit 0x8000000000000000 63
  pub while_it_moves : (plan_book press_table).packed (after (plan_book press_table) press_start moves) ≡ 0x129
  pub while_it_loads : (plan_book press_table).packed (after (plan_book press_table) press_start (moves ++ opens))
      ≡ 0x232
  -- what others ask takes the ram's permission from no pass that has loaded it
  pub lasts : PermissionsLast press_table → IsMotorOf press_table ram
      → IsLawful (plan_book press_table) press_start (moves ++ others_ask)
      → Permits press_table (plan_after press_table press_start moves) ram
      → Permits press_table (plan_after press_table press_start (moves ++ others_ask)) ram
