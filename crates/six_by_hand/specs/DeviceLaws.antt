-- How an axis and a belt move in a turn, and when a switch is on, of all numbers.
use Rattle.std.specs.Prelude.{◌≡◌, ◌↔◌, ℕ, ◌+◌, ◌<◌, ◌≤◌, true, false}
use Rattle.cell_devices.specs.declared.motor.Motor.{Motor}
use Rattle.cell_devices.specs.declared.motor.Motor.TheVariants.{Off, Plus, Minus}
use Rattle.six_by_hand.specs.declared.axis.Axis.{Axis}
use Rattle.six_by_hand.specs.Devices.{carried, crane_sense, deposit_sense, driven, feed_sense, press_sense, table_sense}
use Rattle.six_by_hand.specs.DeviceExamples.{belt, table, press, crane}

-- an axis goes a step of 20, and stops at its ends
pub record AxisGoes (a : Axis) : Type 0 where
  pub off : driven Off a ≡ a
  pub same_end : (m : Motor) → (driven m a).end ≡ a.end
  pub plus : a.at + 20 ≤ a.end → (driven Plus a).at ≡ a.at + 20
  pub to_end : a.end ≤ a.at + 20 → (driven Plus a).at ≡ a.end
  pub minus : 20 ≤ a.at → (driven Minus a).at + 20 ≡ a.at
  pub to_beginning : a.at ≤ 20 → (driven Minus a).at ≡ 0

-- a belt goes a step of 20; when it stops after the barrier its plate has left; the barrier is from 900 to 999
pub record BeltGoes (n : ℕ) : Type 0 where
  pub runs : n + 20 ≤ 65535 → carried true (belt n) ≡ belt (n + 20)
  pub runs_to_end : 65535 ≤ n + 20 → carried true (belt n) ≡ belt 65535
  pub stays : n ≤ 999 → carried false (belt n) ≡ belt n
  pub has_left : 999 < n → carried false (belt n) ≡ belt 0
  pub feed_barrier : ((feed_sense (belt n)).barrier ≡ true) ↔ ((900 ≤ n) × (n ≤ 999))
  pub deposit_barrier : ((deposit_sense (belt n)).barrier ≡ true) ↔ ((900 ≤ n) × (n ≤ 999))

-- a switch is on from one position to another
pub record SwitchesAt (n other : ℕ) : Type 0 where
  pub table_bottom : ((table_sense (table n other)).bottom ≡ true) ↔ (n ≤ 10)
  pub table_top : ((table_sense (table n other)).top ≡ true) ↔ ((590 ≤ n) × (n ≤ 600))
  pub table_turn : (table_sense (table n other)).turn ≡ other
  pub press_bottom : ((press_sense (press n)).bottom ≡ true) ↔ (n ≤ 10)
  pub press_middle : ((press_sense (press n)).middle ≡ true) ↔ ((490 ≤ n) × (n ≤ 510))
  pub press_top : ((press_sense (press n)).top ≡ true) ↔ ((990 ≤ n) × (n ≤ 1000))
  pub crane_deposit : ((crane_sense (crane n other)).deposit ≡ true) ↔ (n ≤ 10)
  pub crane_feed : ((crane_sense (crane n other)).feed ≡ true) ↔ ((1990 ≤ n) × (n ≤ 2000))
  pub crane_gripper : (crane_sense (crane n other)).gripper ≡ other

pub record DevicesByNumber : Type 0 where
  pub axes : (a : Axis) → AxisGoes a
  pub belts : (n : ℕ) → BeltGoes n
  pub switches : (n other : ℕ) → SwitchesAt n other
