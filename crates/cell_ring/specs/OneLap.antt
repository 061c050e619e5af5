-- One lap of one plate: forty-two Done calls of the six machines, seventeen of which move the plate.
use Rattle.std.specs.Prelude.{◌≡◌, true, false, List, [], ◌∷◌, ◌++◌, map, replicate}
use Rattle.cell_rules.specs.Types.{Feed, Robot, Press, Deposit, Z1, Z2, Z3, Z4, Z5, Z6, Event, Claim, Give, Yield}
use Rattle.cell_rules.specs.Types.{Take, SetPose, Advance, Turning, Loading, Unloading, Travelling, Middle, Low, Top}
use Rattle.cell_rules.specs.Types.{Running, Landing, Offering}
use Rattle.cell_types.specs.declared.machine.Machine.TheVariants.{Table as TableMachine, Crane as CraneMachine}
use Rattle.cell_rules.specs.Names.{ModelState, start_state, place_set, IsLegal, IsStartState, after, done}
use Rattle.cell_ring.specs.Lap.{FeedEntry, PressIn, Arm2, ArmToBelt, all_positions}
use Rattle.cell_ring.specs.Plates.{plates_in}
use Rattle.cell_ring.specs.Following.{position_after, plate_moves, moves_of, arrivals}
use Rattle.cell_ring.specs.Arriving.{forgings, deliveries}

-- a plate where the crane puts plates on the feed belt, and no other
abbrev pub one_plate : ModelState
one_plate = start_state (place_set true false false false false false false false false false) 0

-- along the feed belt, and onto the table
abbrev pub onto_table : List Event
onto_table =
    done Feed (Claim Z6) ∷ done Feed (SetPose Running) ∷ done Feed Advance ∷ done TableMachine (Claim Z1)
    ∷ done TableMachine (Claim Z2) ∷ done TableMachine (SetPose Turning) ∷ done TableMachine (SetPose Loading)
    ∷ done TableMachine (Yield Z1) ∷ done Feed (Give Z1) ∷ done TableMachine (Take Z1) ∷ []

-- by arm 1 into the press
abbrev pub into_press : List Event
into_press =
    done TableMachine (SetPose Turning) ∷ done TableMachine (SetPose Unloading) ∷ done TableMachine (Give Z2)
    ∷ done Robot (Take Z2) ∷ done Press (Claim Z3) ∷ done Press (SetPose Travelling) ∷ done Press (SetPose Middle)
    ∷ done Press (Yield Z3) ∷ done Robot (Give Z3) ∷ done Press (Take Z3) ∷ []

-- forged, and by arm 2 out of the press
abbrev pub out_of_press : List Event
out_of_press =
    done Press (SetPose Travelling) ∷ done Press (SetPose Top) ∷ done Press Advance ∷ done Press (SetPose Travelling)
    ∷ done Press (SetPose Low) ∷ done Press (Give Z3) ∷ done Robot (Take Z3) ∷ []

-- onto the deposit belt and along it
abbrev pub onto_deposit : List Event
onto_deposit =
    done Deposit (Claim Z4) ∷ done Deposit (Claim Z5) ∷ done Deposit (SetPose Landing) ∷ done Deposit (Yield Z4)
    ∷ done Robot (Give Z4) ∷ done Deposit (Take Z4) ∷ done Deposit (SetPose Running) ∷ done Deposit Advance ∷ []

-- by the crane back to the feed belt
abbrev pub back_to_feed : List Event
back_to_feed =
    done Deposit (SetPose Offering) ∷ done Deposit (Give Z5) ∷ done CraneMachine (Take Z5)
    ∷ done Feed (SetPose Landing) ∷ done Feed (Yield Z6) ∷ done CraneMachine (Give Z6) ∷ done Feed (Take Z6) ∷ []

abbrev pub one_lap : List Event
one_lap = onto_table ++ into_press ++ out_of_press ++ onto_deposit ++ back_to_feed

pub record OneLapOfOnePlate : Type 0 where
  pub start : IsStartState one_plate
  pub legal : IsLegal one_plate one_lap
  pub moves : plate_moves one_lap ≡ 17
  pub one : plates_in one_plate ≡ FeedEntry ∷ []
  pub home : plates_in (after one_plate one_lap) ≡ FeedEntry ∷ []
  pub on_way : plates_in (after one_plate (onto_table ++ into_press ++ out_of_press)) ≡ Arm2 ∷ []
  pub all_its : moves_of FeedEntry one_lap ≡ 17
  pub round : position_after FeedEntry one_lap ≡ FeedEntry
  pub everywhere : map (arrivals FeedEntry one_lap) all_positions ≡ replicate 17 1
  -- the press forges it by its advance, and the deposit belt's take delivers it
  pub unforged : forgings FeedEntry (onto_table ++ into_press) ≡ 0
  pub forged : forgings PressIn (done Press Advance ∷ []) ≡ 1
  pub undelivered : deliveries FeedEntry (onto_table ++ into_press ++ out_of_press) ≡ 0
  pub delivered : deliveries ArmToBelt (done Deposit (Take Z4) ∷ []) ≡ 1
