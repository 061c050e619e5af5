-- What is impossible.
use Rattle.std.proofs.Common.{◌≡◌, ◌≢◌, true, false, ◌⊎◌, inl, inr}
use Rattle.cell_devices.specs.declared.motor.Motor.TheVariants.{Off, Plus, Minus}

-- neither of two
pub neither : {A B : Type 0} → ¬ A → ¬ B → ¬ (A ⊎ B)
neither not_a not_b (inl a) = not_a a
neither not_a not_b (inr b) = not_b b

pub plus_on : Plus ≢ Off
plus_on e = cc

pub minus_on : Minus ≢ Off
minus_on e = cc

pub false_true : ¬ (false ≡ true)
false_true e = cc

pub off_plus : ¬ (Off ≡ Plus)
off_plus e = cc

pub off_minus : ¬ (Off ≡ Minus)
off_minus e = cc
