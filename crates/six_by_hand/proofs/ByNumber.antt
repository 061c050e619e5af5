-- How an axis and a belt move in a turn, and when a switch is on, of all numbers.
use Rattle.std.proofs.Common.{◌≡◌, ℕ, ◌<◌, ◌≤◌, Bool, true, false, ◌&&◌, nat_le, nat_lt, if◌then◌else◌, refl, ap, arith, ltb-true}
use Rattle.std.proofs.Math.Nat.{min-eq_left, min-eq_right}
use Rattle.std.proofs.lemmas.Bool.{leb-true, le-leb, lt-ltb}
use Rattle.std.specs.Cmp.{first_so, second_so}
use Rattle.cell_devices.specs.declared.motor.Motor.{Motor}
use Rattle.cell_devices.specs.declared.motor.Motor.TheVariants.{Off, Plus, Minus}
use Rattle.six_by_hand.specs.declared.axis.Axis.{Axis}
use Rattle.six_by_hand.specs.Devices.{driven}
use Rattle.six_by_hand.specs.DeviceExamples.{belt}
use Rattle.six_by_hand.specs.DeviceLaws.{AxisGoes, BeltGoes, SwitchesAt, DevicesByNumber}

same_end : (a : Axis) (m : Motor) → (driven m a).end ≡ a.end
same_end a Off = refl
same_end a Plus = refl
same_end a Minus = refl

axes : (a : Axis) → AxisGoes a
axes a = record {
  off = refl;
  same_end = same_end a;
  plus = λ l. min-eq_left l;
  to_end = λ l. min-eq_right l;
  minus = λ l. omega (arith, l);
  to_beginning = λ l. omega (arith, l);
}

-- a number from one to another
between : (first last n : ℕ) → (nat_le first n && nat_le n last) ≡ true → (first ≤ n) × (n ≤ last)
between first last n e =
    (leb-true first n (first_so (nat_le first n) (nat_le n last) e), leb-true n last (second_so (nat_le first n) (nat_le n last) e))

is_between : (first last n : ℕ) → (first ≤ n) × (n ≤ last) → (nat_le first n && nat_le n last) ≡ true
is_between first last n k = rw (le-leb first n k.0, le-leb n last k.1) refl

at_most : (last n : ℕ) → n ≤ last → (nat_le 0 n && nat_le n last) ≡ true
at_most last n l = is_between 0 last n (omega arith, l)

not_past : (n : ℕ) → n ≤ 999 → (b : Bool) → nat_lt 999 n ≡ b → b ≡ false
not_past n l false e = refl
not_past n l true e = let past : 999 < n = ltb-true 999 n e in absurd (omega (arith, l, past))

stops_at : (n : ℕ) (b : Bool) → nat_lt 999 n ≡ b → (if nat_lt 999 n then belt 0 else belt n) ≡ (if b then belt 0 else belt n)
stops_at n b e = ap (λ x. if x then belt 0 else belt n) e

belts : (n : ℕ) → BeltGoes n
belts n = record {
  runs = λ l. ap belt (min-eq_left l);
  runs_to_end = λ l. ap belt (min-eq_right l);
  stays = λ l. stops_at n false (not_past n l (nat_lt 999 n) refl);
  has_left = λ l. stops_at n true (lt-ltb 999 n l);
  feed_barrier = (between 900 999 n, is_between 900 999 n);
  deposit_barrier = (between 900 999 n, is_between 900 999 n);
}

switches : (n other : ℕ) → SwitchesAt n other
switches n other = record {
  table_bottom = (λ e. (between 0 10 n e).1, at_most 10 n);
  table_top = (between 590 600 n, is_between 590 600 n);
  table_turn = refl;
  press_bottom = (λ e. (between 0 10 n e).1, at_most 10 n);
  press_middle = (between 490 510 n, is_between 490 510 n);
  press_top = (between 990 1000 n, is_between 990 1000 n);
  crane_deposit = (λ e. (between 0 10 n e).1, at_most 10 n);
  crane_feed = (between 1990 2000 n, is_between 1990 2000 n);
  crane_gripper = refl;
}

pub devices_by_number : DevicesByNumber
devices_by_number = record { axes = axes; belts = belts; switches = switches }
