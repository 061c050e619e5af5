-- The texts of the press's switches and motor.
use Rattle.std.specs.Prelude.{ℕ, Bool, true, false, List, [], ◌∷◌, codes}
use Rattle.cell_sensors.specs.declared.sense.PressSense.{PressSense}
use Rattle.cell_devices.specs.declared.motor.Motor.{Motor}
use Rattle.cell_devices.specs.declared.motor.Motor.TheVariants.{Off, Plus, Minus}

-- the digits 0 and 1
abbrev pub switch_digit : Bool → ℕ
switch_digit false = 48
switch_digit true = 49

abbrev pub switch_digits : PressSense → List ℕ
switch_digits s = switch_digit s.bottom ∷ switch_digit s.middle ∷ switch_digit s.top ∷ []

abbrev pub motor_word : Motor → List ℕ
motor_word Off = codes "off"
motor_word Plus = codes "up"
motor_word Minus = codes "down"
