-- A start as it is written: a digit for each place.
use Rattle.std.specs.Prelude.{ℕ, ◌==◌, ◌&&◌, ◌||◌, Bool, not, List, length, map, nat_le, Option, Some, None}
use Rattle.std.specs.Prelude.{if◌then◌else◌}
use Rattle.std.specs.List.{list_all}
use Rattle.cell_types.specs.declared.place.Place.TheVariants.{PressIn, PressOut}
use Rattle.cell_rules.specs.PlaceSet.{PlaceSet, has}
use Rattle.cell_rules.specs.ModelState.{size_of, last_stamp, max_plates}

-- ten digits, each 0 or 1: for each place in order whether it is full
abbrev pub is_flag : ℕ → Bool
is_flag digit = (digit == 48) || (digit == 49)

abbrev pub flag_in : ℕ → Option Bool
flag_in digit = if is_flag digit then Some (digit == 49) else None

abbrev pub places_in : List ℕ → Option (List Bool)
places_in field =
    if (length field == 10) && list_all is_flag field then Some (map (λ digit. digit == 49) field) else None

-- not too many plates, not both places of the press, and a stamp in range
abbrev pub is_start : PlaceSet → ℕ → Bool
is_start full stamp =
    nat_le (size_of full) max_plates && not (has full PressIn && has full PressOut) && nat_le stamp last_stamp
