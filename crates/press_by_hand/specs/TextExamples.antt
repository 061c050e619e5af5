-- The texts of literal switches and of each command.
use Rattle.std.specs.Prelude.{◌≡◌, true, false, codes}
use Rattle.cell_devices.specs.declared.motor.Motor.TheVariants.{Off, Plus, Minus}
use Rattle.press_by_hand.specs.Texts.{motor_word, switch_digits}

pub record TextsAreMet : Type 0 where
  pub bottom : switch_digits (record { bottom = true; middle = false; top = false }) ≡ codes "100"
  pub middle : switch_digits (record { bottom = false; middle = true; top = false }) ≡ codes "010"
  pub top : switch_digits (record { bottom = false; middle = false; top = true }) ≡ codes "001"
  -- between the switches, and where two or three are on at once, as no press shows them
  pub none : switch_digits (record { bottom = false; middle = false; top = false }) ≡ codes "000"
  pub clash : switch_digits (record { bottom = true; middle = false; top = true }) ≡ codes "101"
  pub all : switch_digits (record { bottom = true; middle = true; top = true }) ≡ codes "111"
  pub off : motor_word Off ≡ codes "off"
  pub up : motor_word Plus ≡ codes "up"
  pub down : motor_word Minus ≡ codes "down"
