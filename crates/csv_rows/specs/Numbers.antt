-- The number in a field.
use Rattle.std.specs.Prelude.{ℕ, ◌+◌, ◌-◌, ◌*◌, ◌&&◌, Bool, List, [], ◌∷◌, length, nat_lt, nat_le}
use Rattle.std.specs.Prelude.{Option, Some, None, if◌then◌else◌}
use Rattle.std.specs.Char.{is_ascii_digit}
use Rattle.std.specs.List.{list_all}

-- the number that more digits write, after those of a number
abbrev pub read_on : ℕ → List ℕ → ℕ
read_on number [] = number
read_on number (digit ∷ digits) = read_on (10 * number + (digit - 48)) digits

-- one to seven digits
abbrev pub is_number : List ℕ → Bool
is_number field = nat_lt 0 (length field) && nat_le (length field) 7 && list_all is_ascii_digit field

abbrev pub number_in : List ℕ → Option ℕ
number_in field = if is_number field then Some (read_on 0 field) else None
