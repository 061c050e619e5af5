-- A plate followed along a history. It is named by the position at which it was in the opening.
use Rattle.std.specs.Prelude.{◌≡◌, ◌≢◌, ℕ, ◌+◌, ◌≤◌, ◌<◌, Bool, ◌&&◌, List, [], ◌∷◌, ◌++◌, map, sum, count_by, IsTrue}
use Rattle.std.specs.Prelude.{if◌then◌else◌}
use Rattle.cell_rules.specs.Types.{Event}
use Rattle.cell_rules.specs.Names.{ModelState, one_if, after, is_done}
use Rattle.cell_ring.specs.Lap.{Position, next_position, same_position, distance, position_on}
use Rattle.cell_ring.specs.Plates.{has_plate, plates_in, moves_plate, takes_away}

-- a law holds of each stretch of a history, from the state in which the stretch begins
abbrev pub InEachStretch : (ModelState → List Event → Type 0) → ModelState → List Event → Type 0
InEachStretch Law s h =
    (before stretch rest : List Event) → h ≡ before ++ stretch ++ rest → Law (after s before) stretch

-- an event that moves a plate, and one that moves the plate at a position
abbrev pub is_plate_move : Event → Bool
is_plate_move e = is_done e && moves_plate e.call

abbrev pub is_move_from : Position → Event → Bool
is_move_from p e = is_done e && takes_away e.machine e.call p

-- where a plate is after one event
abbrev pub position_after_event : Position → Event → Position
position_after_event p e = if is_move_from p e then next_position p else p

-- where it is after a history
abbrev pub position_after : Position → List Event → Position
position_after p [] = p
position_after p (e ∷ history) = position_after (position_after_event p e) history

-- how many moves a history has, and how many of them are of one plate
abbrev pub plate_moves : List Event → ℕ
plate_moves history = count_by is_plate_move history

abbrev pub moves_of : Position → List Event → ℕ
moves_of p [] = 0
moves_of p (e ∷ history) = one_if (is_move_from p e) + moves_of (position_after_event p e) history

-- how often a plate comes to a position
abbrev pub is_arrival : Position → Event → Position → Bool
is_arrival p e q = is_move_from p e && same_position (next_position p) q

abbrev pub arrivals : Position → List Event → Position → ℕ
arrivals p [] q = 0
arrivals p (e ∷ history) q = one_if (is_arrival p e q) + arrivals (position_after_event p e) history q

-- each plate is as many positions on as it has made moves, no two are at one position, there are no others, and each
-- move is one plate's
pub record PlatesAreFollowed (s : ModelState) (h : List Event) : Type 0 where
  pub there : (p : Position) → IsTrue (has_plate s p) → IsTrue (has_plate (after s h) (position_after p h))
  pub apart : (p q : Position) → IsTrue (has_plate s p) → IsTrue (has_plate s q)
      → position_after p h ≡ position_after q h → p ≡ q
  pub no_other : (q : Position) → IsTrue (has_plate (after s h) q)
      → (p : Position) × IsTrue (has_plate s p) × (position_after p h ≡ q)
  pub walked : (p : Position) → position_after p h ≡ position_on (moves_of p h) p
  pub counted : plate_moves h ≡ sum (map (λ p. moves_of p h) (plates_in s))

-- none overtakes another: the distance from one plate to another changes by their moves alone. So plates keep their
-- order round the ring, and none ever makes 16 moves more than another
pub record NoneOvertakes (s : ModelState) (h : List Event) : Type 0 where
  pub gap : (p q : Position) → IsTrue (has_plate s p) → IsTrue (has_plate s q) → p ≢ q
      → distance (position_after p h) (position_after q h) + moves_of p h ≡ distance p q + moves_of q h
  pub order : (p q r : Position) → IsTrue (has_plate s p) → IsTrue (has_plate s q) → IsTrue (has_plate s r)
      → distance p q < distance p r
      → distance (position_after p h) (position_after q h) < distance (position_after p h) (position_after r h)
  pub lead : (p q : Position) → IsTrue (has_plate s p) → IsTrue (has_plate s q) → moves_of p h ≤ moves_of q h + 15
