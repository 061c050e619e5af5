-- The plates of a state on the ring, and how the rules of the interlock move them.
use Rattle.std.specs.Prelude.{◌≡◌, ◌≢◌, Bool, true, false, ◌&&◌, ◌||◌, IsTrue, count_by, List, filter}
use Rattle.cell_types.specs.declared.place.Place.TheVariants as place
use Rattle.cell_rules.specs.Types.{Machine, Zone, Z1, Z2, Z3, Z4, Z5, Z6, Posture, OpenIn, OpenOut, Call, Give, Take}
use Rattle.cell_rules.specs.Types.{Advance, Done, same_machine, same_zone, same_posture}
use Rattle.cell_rules.specs.Names.{ModelState, zone_at, is_full, posture_at, plates_of, one_if, IsSound, reply, next}
use Rattle.cell_ring.specs.Lap.{Position, FeedEntry, FeedEnd, BeltToTable, Table, TableToArm, Arm1, ArmToPress}
use Rattle.cell_ring.specs.Lap.{PressIn, PressOut, PressToArm, Arm2, ArmToBelt, DepEntry, DepEnd, BeltToCrane, Crane}
use Rattle.cell_ring.specs.Lap.{CraneToBelt, lap, next_position, all_positions, is_give, is_take, is_advance}

-- a plate is in a zone that has this posture, which says which way the plate goes
abbrev pub is_on_way : ModelState → Zone → Posture → Bool
is_on_way s z q = (zone_at s z).flag && same_posture (posture_at s z) q

-- a plate is at a position
abbrev pub has_plate : ModelState → Position → Bool
has_plate s FeedEntry = is_full s place.FeedEntry
has_plate s FeedEnd = is_full s place.FeedEnd
has_plate s BeltToTable = is_on_way s Z1 OpenIn
has_plate s Table = is_full s place.Table
has_plate s TableToArm = is_on_way s Z2 OpenOut
has_plate s Arm1 = is_full s place.Arm1
has_plate s ArmToPress = is_on_way s Z3 OpenIn
has_plate s PressIn = is_full s place.PressIn
has_plate s PressOut = is_full s place.PressOut
has_plate s PressToArm = is_on_way s Z3 OpenOut
has_plate s Arm2 = is_full s place.Arm2
has_plate s ArmToBelt = is_on_way s Z4 OpenIn
has_plate s DepEntry = is_full s place.DepEntry
has_plate s DepEnd = is_full s place.DepEnd
has_plate s BeltToCrane = is_on_way s Z5 OpenOut
has_plate s Crane = is_full s place.Crane
has_plate s CraneToBelt = is_on_way s Z6 OpenIn

-- the positions that have plates
abbrev pub plates_in : ModelState → List Position
plates_in s = filter (has_plate s) all_positions

-- each plate of a state is at one position, and the position after a zone is empty while the zone has a plate
pub record PlatesAreOnRing (s : ModelState) : Type 0 where
  pub counted : count_by (has_plate s) all_positions ≡ plates_of s
  pub room : (p : Position) → IsTrue (is_take (lap p).call) → IsTrue (has_plate s p)
      → has_plate s (next_position p) ≡ false

-- the calls that move plates
abbrev pub moves_plate : Call → Bool
moves_plate c = is_give c || is_take c || is_advance c

-- two calls that move plates are the same
abbrev pub is_same_move : Call → Call → Bool
is_same_move (Give y) (Give z) = same_zone y z
is_same_move (Take y) (Take z) = same_zone y z
is_same_move Advance Advance = true
is_same_move _ _ = false

-- a machine's call is the move that takes a plate away from a position
abbrev pub takes_away : Machine → Call → Position → Bool
takes_away m c p = is_same_move c (lap p).call && same_machine m (lap p).machine

-- from one state to another a plate goes to the next position, which was empty, and no other plate moves
pub record GoesOn (s t : ModelState) (p : Position) : Type 0 where
  pub there : has_plate s p ≡ true
  pub room : has_plate s (next_position p) ≡ false
  pub gone : has_plate t p ≡ false
  pub come : has_plate t (next_position p) ≡ true
  pub others : (q : Position) → q ≢ p → q ≢ next_position p → has_plate t q ≡ has_plate s q

-- a Done call in a sound state: a give, take or advance moves one plate, as the lap has it; any other call moves none.
-- So the plates change exactly where one moves
pub record CallsFollowLap (s : ModelState) (m : Machine) (c : Call) : Type 0 where
  pub one_plate : count_by (takes_away m c) all_positions ≡ one_if (moves_plate c)
  pub goes_on : (p : Position) → IsTrue (takes_away m c p) → GoesOn s (next s m c) p
  pub still : moves_plate c ≡ false → (p : Position) → has_plate (next s m c) p ≡ has_plate s p
  pub shows : ((p : Position) → has_plate (next s m c) p ≡ has_plate s p) → moves_plate c ≡ false

abbrev pub RulesFollowLap : Type 0
RulesFollowLap = (s : ModelState) (m : Machine) (c : Call) → IsSound s → reply s m c ≡ Done → CallsFollowLap s m c
