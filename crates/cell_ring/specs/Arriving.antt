-- Each plate arrives: while plates go on moving, each of them goes round the ring, through the press and onto the
-- deposit belt.
use Rattle.std.specs.Prelude.{◌≡◌, ℕ, ◌+◌, ◌-◌, ◌*◌, ◌≤◌, ◌<◌, Bool, true, false, List, ◌++◌, IsTrue}
use Rattle.cell_rules.specs.Types.{Event}
use Rattle.cell_rules.specs.Names.{ModelState, one_if, plates_of}
use Rattle.cell_ring.specs.Lap.{Position, PressOut, PressToArm, Arm2, ArmToBelt, DepEntry, lap_length}
use Rattle.cell_ring.specs.Plates.{has_plate}
use Rattle.cell_ring.specs.Following.{position_after, plate_moves, moves_of, arrivals}

-- how many moves of all plates suffice for k moves of each: k for each, and 14 more for each but one
abbrev pub moves_for_each : ℕ → ℕ → ℕ
moves_for_each k plates = k * plates + 14 * (plates - 1)

-- while one plate stays, each other makes at most 15 moves. So in more moves each plate has moved, and in more still
-- each has moved k times
pub record EachPlateMoves (s : ModelState) (h : List Event) : Type 0 where
  pub while_one_stays : (p : Position) → IsTrue (has_plate s p) → moves_of p h ≡ 0
      → plate_moves h ≤ 15 * (plates_of s - 1)
  pub has_moved : (p : Position) → IsTrue (has_plate s p) → 15 * (plates_of s - 1) < plate_moves h → 0 < moves_of p h
  pub often : (p : Position) (k : ℕ) → IsTrue (has_plate s p) → moves_for_each k (plates_of s) ≤ plate_moves h
      → k ≤ moves_of p h

-- a plate is forged when it comes to PressOut, and delivered when it comes to the deposit belt
abbrev pub where_forged : Position
where_forged = PressOut

abbrev pub where_delivered : Position
where_delivered = DepEntry

abbrev pub forgings : Position → List Event → ℕ
forgings p h = arrivals p h where_forged

abbrev pub deliveries : Position → List Event → ℕ
deliveries p h = arrivals p h where_delivered

-- a plate is on its way from the press to the deposit belt
abbrev pub is_undelivered : Position → Bool
is_undelivered PressOut = true
is_undelivered PressToArm = true
is_undelivered Arm2 = true
is_undelivered ArmToBelt = true
is_undelivered _ = false

-- after the moves of k laps each plate has come k times to every position: it was forged and delivered k times. A plate
-- is delivered once each time that it is forged
pub record EachPlateArrives (s : ModelState) (h : List Event) : Type 0 where
  pub everywhere : (p q : Position) (k : ℕ) → IsTrue (has_plate s p)
      → moves_for_each (k * lap_length) (plates_of s) ≤ plate_moves h → k ≤ arrivals p h q
  pub forged : (p : Position) (k : ℕ) → IsTrue (has_plate s p)
      → moves_for_each (k * lap_length) (plates_of s) ≤ plate_moves h → k ≤ forgings p h
  pub delivered : (p : Position) (k : ℕ) → IsTrue (has_plate s p)
      → moves_for_each (k * lap_length) (plates_of s) ≤ plate_moves h → k ≤ deliveries p h
  pub in_turn : (p : Position) → IsTrue (has_plate s p)
      → one_if (is_undelivered p) + forgings p h ≡ deliveries p h + one_if (is_undelivered (position_after p h))

-- whatever has gone before, in 172 more moves of up to six plates each of them is forged and delivered again
abbrev pub ArriveAgain : ModelState → List Event → Type 0
ArriveAgain s h =
    (before since : List Event) → h ≡ before ++ since → 172 ≤ plate_moves since
    → (p : Position) → IsTrue (has_plate s p)
    → (0 < forgings (position_after p before) since) × (0 < deliveries (position_after p before) since)
