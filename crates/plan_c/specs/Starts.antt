-- A start as text: a digit for each place, 1 where it is full.
use Rattle.std.specs.Prelude.{◌≡◌, ℕ, ◌≤◌, Bool, ◌||◌, nat_eq, List, length, map, slice_index}
use Rattle.std.specs.List.{AllPass, range_with_len}
use Rattle.plan_types.specs.Table.{PlanTable, place_count}
use Rattle.plan_rules.specs.State.{last_stamp}

abbrev pub is_digit : ℕ → Bool
is_digit d = nat_eq d 48 || nat_eq d 49

-- no place past the digits is full
abbrev pub is_full_in : List ℕ → ℕ → Bool
is_full_in digits p = nat_eq (slice_index digits p) 49

abbrev pub places_in : List ℕ → List Bool
places_in digits = map (is_full_in digits) (range_with_len 0 16)

-- the text and the stamp are those of a start
pub record IsStartText (t : PlanTable) (digits : List ℕ) (stamp : ℕ) : Type 0 where
  pub one_a_place : length digits ≡ place_count t
  pub all_digits : AllPass is_digit digits
  pub stamp_in_range : stamp ≤ last_stamp
