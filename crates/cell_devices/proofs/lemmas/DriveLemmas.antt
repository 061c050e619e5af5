-- From a motor's window around a stop to where the exact line is.
use Rattle.std.proofs.Common.{◌≡◌, ◌↔◌, ℕ, ℤ, pos, ◌+ℤ◌, ◌-ℤ◌, ◌*ℤ◌, ◌≤ℤ◌, ◌<ℤ◌, Option, Some, None, refl, sym, ◌∙◌, arith}
use Rattle.std.proofs.lemmas.Int.{ints}
use Rattle.cell_sensors.specs.Names.{Scale, IsNear, IsLineAtMost, IsLineAtLeast, IsLineNear}
use Rattle.cell_sensors.proofs.lemmas.LineLemmas.{line_in_window_lem, line_at_most, line_at_least, line_below, line_above}
use Rattle.cell_devices.specs.Names.{StopsAt, DrivesTo}
use Rattle.cell_devices.specs.declared.motor.Motor.{Motor}
use Rattle.cell_devices.specs.declared.motor.Motor.TheVariants.{Off, Plus, Minus}
use Rattle.cell_devices.specs.declared.stops.Stop.{Stop}
use Rattle.cell_devices.specs.Drives.{ReadsLine, MovesLine}

stops_near : (target half tol read : ℤ) (s : Scale) (raw : ℕ) → ReadsLine s raw tol read → IsNear read target (half -ℤ tol) → IsLineNear s raw target half
stops_near target half tol read s raw r near = line_in_window_lem s raw read target half r.scale r.near (rw r.tolerance near)

-- a drive by how far the reading is above the target, and by the window around it
pub stops_by : (stop : Stop) (tol read above window : ℤ) (m : Motor) → (m ≡ Off ↔ IsNear above (pos 0) window) → (m ≡ Plus ↔ ((above +ℤ window) <ℤ pos 0)) → (m ≡ Minus ↔ (window <ℤ above))
    → above ≡ (read -ℤ stop.target) → window ≡ (pos stop.half -ℤ tol) → StopsAt stop tol read m
stops_by stop tol read above window m off plus minus a w = record {
  off = (
    λ e. let near = off.0 e in let first = near.not_below in let last = near.not_above in record { not_below = omega (arith, ints); not_above = omega (arith, ints) },
    λ near. let first = near.not_below in let last = near.not_above in off.1 (record { not_below = omega (arith, ints); not_above = omega (arith, ints) }),
  );
  plus = (λ e. let below = plus.0 e in omega (arith, ints), λ below. plus.1 (omega (arith, ints)));
  minus = (λ e. let over = minus.0 e in omega (arith, ints), λ over. minus.1 (omega (arith, ints)));
}

-- where the exact line is, by the motor of a drive
pub moves_line : (target half tol read : ℤ) (motor : Motor) → (pos 2 *ℤ tol) ≤ℤ half → (motor ≡ Off ↔ IsNear read target (half -ℤ tol)) → (motor ≡ Plus ↔ (read <ℤ (target -ℤ (half -ℤ tol)))) → (motor ≡ Minus ↔ ((target +ℤ (half -ℤ tol)) <ℤ read)) → MovesLine target half tol read motor
moves_line target half tol read motor room off plus minus = record {
  off = λ e s raw r. stops_near target half tol read s raw r (off.0 e);
  plus = λ e s raw r. let below = plus.0 e in line_below s raw read target r.scale r.near (rw r.tolerance (omega (arith, ints)));
  minus = λ e s raw r. let above = minus.0 e in line_above s raw read target r.scale r.near (rw r.tolerance (omega (arith, ints)));
}

pub retracted_line : (limit tol read : ℤ) (s : Scale) (raw : ℕ) → read ≤ℤ (limit -ℤ tol) → ReadsLine s raw tol read → IsLineAtMost s raw limit
retracted_line limit tol read s raw h r = line_at_most s raw read limit r.scale r.near (rw r.tolerance (omega (arith, ints)))

pub high_line : (limit tol read : ℤ) (s : Scale) (raw : ℕ) → (limit +ℤ tol) ≤ℤ read → ReadsLine s raw tol read → IsLineAtLeast s raw limit
high_line limit tol read s raw h r = line_at_least s raw read limit r.scale r.near (rw r.tolerance h)

-- the motor at a stop, below it and above it
pub stops_there : (stop : Stop) (tol read : ℤ) → IsNear read stop.target (pos stop.half -ℤ tol) → StopsAt stop tol read Off
stops_there stop tol read near =
    let first = near.not_below in
    let last = near.not_above in
    record { off = (λ e. near, λ n. refl); plus = (λ e. cc, λ below. absurd (omega (arith, ints))); minus = (λ e. cc, λ above. absurd (omega (arith, ints))) }

pub goes_plus : (stop : Stop) (tol read : ℤ) → pos 0 ≤ℤ (pos stop.half -ℤ tol) → read <ℤ (stop.target -ℤ (pos stop.half -ℤ tol)) → StopsAt stop tol read Plus
goes_plus stop tol read room below =
    record { off = (λ e. cc, λ near. let first = near.not_below in absurd (omega (arith, ints))); plus = (λ e. below, λ b. refl); minus = (λ e. cc, λ above. absurd (omega (arith, ints))) }

pub goes_minus : (stop : Stop) (tol read : ℤ) → pos 0 ≤ℤ (pos stop.half -ℤ tol) → (stop.target +ℤ (pos stop.half -ℤ tol)) <ℤ read → StopsAt stop tol read Minus
goes_minus stop tol read room above =
    record { off = (λ e. cc, λ near. let last = near.not_above in absurd (omega (arith, ints))); plus = (λ e. cc, λ below. absurd (omega (arith, ints))); minus = (λ e. above, λ a. refl) }

-- a reading determines the motor
stops_one : (stop : Stop) (tol read : ℤ) (a b : Motor) → StopsAt stop tol read a → StopsAt stop tol read b → b ≡ a
stops_one stop tol read Off b at_a at_b = at_b.off.1 (at_a.off.0 refl)
stops_one stop tol read Plus b at_a at_b = at_b.plus.1 (at_a.plus.0 refl)
stops_one stop tol read Minus b at_a at_b = at_b.minus.1 (at_a.minus.0 refl)

pub drives_one : (stop : Option Stop) (tol read : ℤ) (a b : Motor) → DrivesTo stop tol read a → DrivesTo stop tol read b → b ≡ a
drives_one None tol read a b at_a at_b = at_b ∙ sym at_a
drives_one (Some stop) tol read a b at_a at_b = stops_one stop tol read a b at_a at_b
