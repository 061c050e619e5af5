-- What holds of the numbers below a number, computed.
use Rattle.std.specs.Prelude.{ℕ, zero, suc, ◌+◌, Bool, false, ◌||◌, Option, None}
use Rattle.std.specs.Option.{option_or}

-- the first of the values that there are
abbrev pub first_below : {A : Type 0} → (ℕ → Option A) → ℕ → Option A
first_below f zero = None
first_below f (suc n) = option_or (first_below f n) (f n)

-- whether one of them passes a test
abbrev pub any_below : (ℕ → Bool) → ℕ → Bool
any_below test zero = false
any_below test (suc n) = any_below test n || test n

-- the sum of what they count for
abbrev pub sum_below : (ℕ → ℕ) → ℕ → ℕ
sum_below f zero = 0
sum_below f (suc n) = sum_below f n + f n
