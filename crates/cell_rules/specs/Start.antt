-- A start: its places, its stamp, and the state with these.
use Rattle.std.specs.Prelude.{◌≡◌, ℕ, ◌≤◌, Bool, false, ◌&&◌, List, slice_index_or, IsFalse}
use Rattle.cell_types.specs.declared.place.Place.TheVariants.{PressIn, PressOut}
use Rattle.cell_rules.specs.ZoneMap.{free_zone, everywhere}
use Rattle.cell_rules.specs.PlaceSet.{PlaceSet, place_set, has}
use Rattle.cell_rules.specs.ModelState.{ModelState, model_state, size_of, last_stamp, max_plates}

-- the set that ten flags give, in the order of the places
abbrev pub places_of : List Bool → PlaceSet
places_of flags =
    place_set (slice_index_or flags 0 false) (slice_index_or flags 1 false) (slice_index_or flags 2 false)
    (slice_index_or flags 3 false) (slice_index_or flags 4 false) (slice_index_or flags 5 false)
    (slice_index_or flags 6 false) (slice_index_or flags 7 false) (slice_index_or flags 8 false)
    (slice_index_or flags 9 false)

-- not too many plates, not both places of the press, and a stamp in range
pub record IsStart (full : PlaceSet) (stamp : ℕ) : Type 0 where
  pub six_plates_at_most : size_of full ≤ max_plates
  pub one_in_press_at_most : IsFalse (has full PressIn && has full PressOut)
  pub stamp_in_range : stamp ≤ last_stamp

-- all zones free and Closed, with no plate in them, and not stopped
abbrev pub start_state : PlaceSet → ℕ → ModelState
start_state full stamp = model_state (everywhere free_zone) full stamp false

-- a state is the start with its own places and stamp
pub record IsStartState (s : ModelState) : Type 0 where
  pub start : IsStart s.full s.stamp
  pub same : s ≡ start_state s.full s.stamp
