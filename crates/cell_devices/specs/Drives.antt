-- Drives to a stop by a reading: what the motor does, and where the exact line then is.
use Rattle.std.specs.Prelude.{◌≡◌, ◌↔◌, ℕ, ℤ, pos, ◌+ℤ◌, ◌-ℤ◌, ◌<ℤ◌, Option, Some, None}
use Rattle.cell_sensors.specs.Names.{Scale, IsScale, IsNear, IsWithinTolerance, IsLineNear, IsLineBelow, IsLineAbove}
use Rattle.cell_devices.specs.declared.motor.Motor.{Motor}
use Rattle.cell_devices.specs.declared.motor.Motor.TheVariants.{Off, Plus, Minus}
use Rattle.cell_devices.specs.declared.stops.Stop.{Stop}

-- the reading of a raw value, near the line of a scale with this tolerance
pub record ReadsLine (s : Scale) (raw : ℕ) (tol read : ℤ) : Type 0 where
  pub scale : IsScale s
  pub tolerance : s.tol ≡ tol
  pub near : IsWithinTolerance s raw read

-- where the exact line is, by the motor: off within half of the target, plus below it, minus above it
pub record MovesLine (target half tol read : ℤ) (motor : Motor) : Type 0 where
  pub off : motor ≡ Off → (s : Scale) (raw : ℕ) → ReadsLine s raw tol read → IsLineNear s raw target half
  pub plus : motor ≡ Plus → (s : Scale) (raw : ℕ) → ReadsLine s raw tol read → IsLineBelow s raw target
  pub minus : motor ≡ Minus → (s : Scale) (raw : ℕ) → ReadsLine s raw tol read → IsLineAbove s raw target

-- the least half of a stop, and the greatest tolerance of a calibration
abbrev pub narrowest_half : ℕ
narrowest_half = 20

abbrev pub coarsest_tol : ℤ
coarsest_tol = pos 10

-- a motor that drives to a stop by a reading: off within the stop's half less the tolerance, plus below, minus above
pub record StopsAt (stop : Stop) (tol read : ℤ) (motor : Motor) : Type 0 where
  pub off : (motor ≡ Off) ↔ IsNear read stop.target (pos stop.half -ℤ tol)
  pub plus : (motor ≡ Plus) ↔ (read <ℤ (stop.target -ℤ (pos stop.half -ℤ tol)))
  pub minus : (motor ≡ Minus) ↔ ((stop.target +ℤ (pos stop.half -ℤ tol)) <ℤ read)

-- a motor drives to the stop of its step, and is off if the step has none
abbrev pub DrivesTo : Option Stop → ℤ → ℤ → Motor → Type 0
DrivesTo None tol read motor = motor ≡ Off
DrivesTo (Some stop) tol read motor = StopsAt stop tol read motor
