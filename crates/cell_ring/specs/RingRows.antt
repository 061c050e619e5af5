-- The ring as literal rows: the moves of a lap, distances, where the plates of states are, and which events move them.
use Rattle.std.specs.Prelude.{◌≡◌, true, false, List, [], ◌∷◌, filter, length, map, Some}
use Rattle.cell_types.specs.declared.machine.Machine.TheVariants.{Table as TableMachine, Crane as CraneMachine}
use Rattle.cell_rules.specs.Types.{Feed, Robot, Press, Deposit, Watch, Z1, Z2, Z3, Z4, Z5, Z6, Posture, OpenIn}
use Rattle.cell_rules.specs.Types.{OpenOut, Moving, Middle, Claim, Give, Yield, Take, Release, SetPose}
use Rattle.cell_rules.specs.Types.{Advance, Inquire, Stop, Resume, Refused, Worn, Event}
use Rattle.cell_rules.specs.declared.zones.ZoneState.{ZoneState}
use Rattle.cell_rules.specs.Names.{ModelState, model_state, place_set, empty, start_state, event, done}
use Rattle.cell_ring.specs.Lap.{FeedEntry, FeedEnd, BeltToTable, Table, TableToArm, Arm1, ArmToPress, PressIn}
use Rattle.cell_ring.specs.Lap.{PressOut, PressToArm, Arm2, ArmToBelt, DepEntry, DepEnd, BeltToCrane, Crane}
use Rattle.cell_ring.specs.Lap.{CraneToBelt, all_positions, distance, lap, next_position, number_of, position_on}
use Rattle.cell_ring.specs.Lap.{same_position}
use Rattle.cell_ring.specs.Plates.{moves_plate, plates_in, takes_away}
use Rattle.cell_ring.specs.Following.{InEachStretch, arrivals, is_arrival, is_move_from, is_plate_move, moves_of}
use Rattle.cell_ring.specs.Following.{plate_moves, position_after}
use Rattle.cell_ring.specs.Arriving.{is_undelivered, moves_for_each}
use Rattle.cell_ring.specs.OneLap.{one_plate, onto_table}

pub record LapRows : Type 0 where
  pub numbers : map number_of all_positions
      ≡ 0 ∷ 1 ∷ 2 ∷ 3 ∷ 4 ∷ 5 ∷ 6 ∷ 7 ∷ 8 ∷ 9 ∷ 10 ∷ 11 ∷ 12 ∷ 13 ∷ 14 ∷ 15 ∷ 16 ∷ []
  pub next : map (λ p. number_of (next_position p)) all_positions
      ≡ 1 ∷ 2 ∷ 3 ∷ 4 ∷ 5 ∷ 6 ∷ 7 ∷ 8 ∷ 9 ∷ 10 ∷ 11 ∷ 12 ∷ 13 ∷ 14 ∷ 15 ∷ 16 ∷ 0 ∷ []
  pub machines : map (λ p. (lap p).machine) all_positions
      ≡ Feed ∷ Feed ∷ TableMachine ∷ TableMachine ∷ Robot ∷ Robot ∷ Press ∷ Press ∷ Press ∷ Robot ∷ Robot ∷ Deposit
      ∷ Deposit ∷ Deposit ∷ CraneMachine ∷ CraneMachine ∷ Feed ∷ []
  pub calls : map (λ p. (lap p).call) all_positions
      ≡ Advance ∷ Give Z1 ∷ Take Z1 ∷ Give Z2 ∷ Take Z2 ∷ Give Z3 ∷ Take Z3 ∷ Advance ∷ Give Z3 ∷ Take Z3 ∷ Give Z4
      ∷ Take Z4 ∷ Advance ∷ Give Z5 ∷ Take Z5 ∷ Give Z6 ∷ Take Z6 ∷ []
  pub ahead : map (distance FeedEnd) all_positions
      ≡ 16 ∷ 0 ∷ 1 ∷ 2 ∷ 3 ∷ 4 ∷ 5 ∷ 6 ∷ 7 ∷ 8 ∷ 9 ∷ 10 ∷ 11 ∷ 12 ∷ 13 ∷ 14 ∷ 15 ∷ []
  pub last_is_far : distance CraneToBelt Crane ≡ 16
  pub some_moves : map (λ n. position_on n DepEnd) (0 ∷ 1 ∷ 4 ∷ 5 ∷ [])
      ≡ DepEnd ∷ BeltToCrane ∷ FeedEntry ∷ FeedEnd ∷ []
  pub same : filter (same_position PressToArm) all_positions ≡ PressToArm ∷ []
  pub by_robot : filter (takes_away Robot (Give Z3)) all_positions ≡ Arm1 ∷ []
  pub by_press : filter (takes_away Press (Give Z3)) all_positions ≡ PressOut ∷ []
  pub to_robot : filter (takes_away Robot (Take Z3)) all_positions ≡ PressToArm ∷ []
  pub to_press : filter (takes_away Press (Take Z3)) all_positions ≡ ArmToPress ∷ []
  pub forging : filter (takes_away Press Advance) all_positions ≡ PressIn ∷ []
  pub along_deposit : filter (takes_away Deposit Advance) all_positions ≡ DepEntry ∷ []
  pub by_yield : filter (takes_away Robot (Yield Z3)) all_positions ≡ []
  pub by_stranger : filter (takes_away Feed (Give Z3)) all_positions ≡ []
  pub by_watch : filter (takes_away Watch Advance) all_positions ≡ []
  pub moving_calls :
      map moves_plate
      (Claim Z1 ∷ Give Z2 ∷ Yield Z3 ∷ Take Z4 ∷ Release Z5 ∷ SetPose Middle
      ∷ Advance ∷ Inquire Z6 ∷ Stop ∷ Resume ∷ [])
      ≡ false ∷ true ∷ false ∷ true ∷ false ∷ false ∷ true ∷ false ∷ false ∷ false ∷ []
  pub undelivered : filter is_undelivered all_positions ≡ PressOut ∷ PressToArm ∷ Arm2 ∷ ArmToBelt ∷ []
  pub three_moves_of_four : moves_for_each 3 4 ≡ 54
  pub ten_moves_of_one : moves_for_each 10 1 ≡ 10

-- a plate in each zone, in the posture in which it goes its way; in z3 in this one
abbrev pub plate_in : Posture → ZoneState
plate_in q = record { owner = Some Robot; flag = true; posture = q }

abbrev pub in_zones : Posture → ModelState
in_zones q = model_state (record {
  at_z1 = plate_in OpenIn;
  at_z2 = plate_in OpenOut;
  at_z3 = plate_in q;
  at_z4 = plate_in OpenIn;
  at_z5 = plate_in OpenOut;
  at_z6 = plate_in OpenIn;
}) empty 0 false

abbrev pub everywhere_full : ModelState
everywhere_full = start_state (place_set true true true true true true true true true true) 0

abbrev pub some_full : ModelState
some_full = start_state (place_set false true false true false true false true false true) 0

pub record PlateRows : Type 0 where
  pub at_places : plates_in everywhere_full
      ≡ FeedEntry ∷ FeedEnd ∷ Table ∷ Arm1 ∷ PressIn ∷ PressOut ∷ Arm2 ∷ DepEntry ∷ DepEnd ∷ Crane ∷ []
  pub at_some : plates_in some_full ≡ FeedEnd ∷ Arm1 ∷ PressOut ∷ DepEntry ∷ Crane ∷ []
  pub to_press : plates_in (in_zones OpenIn)
      ≡ BeltToTable ∷ TableToArm ∷ ArmToPress ∷ ArmToBelt ∷ BeltToCrane ∷ CraneToBelt ∷ []
  pub from_press : plates_in (in_zones OpenOut)
      ≡ BeltToTable ∷ TableToArm ∷ PressToArm ∷ ArmToBelt ∷ BeltToCrane ∷ CraneToBelt ∷ []
  pub no_way : plates_in (in_zones Moving) ≡ BeltToTable ∷ TableToArm ∷ ArmToBelt ∷ BeltToCrane ∷ CraneToBelt ∷ []

abbrev pub refused_give : Event
refused_give = event Feed (Give Z1) (Refused Worn)

-- a plate at the end of the feed belt goes onto the table; the crane gives another one
abbrev pub two_moves : List Event
two_moves = done Feed (Give Z1) ∷ done CraneMachine (Give Z6) ∷ refused_give ∷ done TableMachine (Take Z1) ∷ []

pub record EventRows : Type 0 where
  pub is_move : map is_plate_move two_moves ≡ true ∷ true ∷ false ∷ true ∷ []
  pub from_end : map (is_move_from FeedEnd) two_moves ≡ true ∷ false ∷ false ∷ false ∷ []
  pub refused_move : is_plate_move refused_give ≡ false
  pub moves : plate_moves two_moves ≡ 3
  pub own_moves : map (λ p. moves_of p two_moves) (FeedEnd ∷ Crane ∷ PressIn ∷ []) ≡ 2 ∷ 1 ∷ 0 ∷ []
  pub ends : map (λ p. position_after p two_moves) (FeedEnd ∷ Crane ∷ PressIn ∷ []) ≡ Table ∷ CraneToBelt ∷ PressIn ∷ []
  pub arrives : map (is_arrival FeedEnd (done Feed (Give Z1))) (FeedEnd ∷ BeltToTable ∷ Table ∷ [])
      ≡ false ∷ true ∷ false ∷ []
  pub arrivals : map (arrivals FeedEnd two_moves) (FeedEnd ∷ BeltToTable ∷ Table ∷ TableToArm ∷ [])
      ≡ 0 ∷ 1 ∷ 1 ∷ 0 ∷ []
  -- a stretch may lie in the middle of a history, and begins in the state there
  pub in_the_middle : ¬ InEachStretch (λ s h. ¬ ((length h ≡ 2) × (s.stamp ≡ 3))) one_plate onto_table

pub record RingRows : Type 0 where
  pub lap : LapRows
  pub plates : PlateRows
  pub events : EventRows
