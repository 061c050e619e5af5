-- The moves that suffice for a lap of each of one to six plates; and two plates of which one stays while the other
-- makes 15 moves, so that no lower bound holds for two.
use Rattle.std.specs.Prelude.{◌≡◌, true, false, List, [], ◌∷◌, ◌++◌, map}
use Rattle.cell_rules.specs.Types.{Feed, Z1, Z2, Z6, Event, Claim, Give, Yield, Take, SetPose, Advance, Turning}
use Rattle.cell_rules.specs.Types.{Loading, Running}
use Rattle.cell_types.specs.declared.machine.Machine.TheVariants.{Table as TableMachine}
use Rattle.cell_rules.specs.Names.{ModelState, start_state, place_set, IsLegal, IsStartState, after, done}
use Rattle.cell_ring.specs.Lap.{FeedEnd, FeedEntry, BeltToTable, lap_length}
use Rattle.cell_ring.specs.Plates.{plates_in}
use Rattle.cell_ring.specs.Following.{plate_moves, moves_of}
use Rattle.cell_ring.specs.Arriving.{moves_for_each}
use Rattle.cell_ring.specs.OneLap.{into_press, out_of_press, onto_deposit, back_to_feed}

-- two plates on the feed belt; the one at its end goes into the zone to the table, and the other comes to the belt's
-- end
abbrev pub two_plates : ModelState
two_plates = start_state (place_set true true false false false false false false false false) 0

abbrev pub second_comes_to_end : List Event
second_comes_to_end =
    done TableMachine (Claim Z1) ∷ done TableMachine (Claim Z2) ∷ done TableMachine (SetPose Turning)
    ∷ done TableMachine (SetPose Loading) ∷ done TableMachine (Yield Z1) ∷ done Feed (Give Z1) ∷ done Feed (Claim Z6)
    ∷ done Feed (SetPose Running) ∷ done Feed Advance ∷ []

-- it stays there, while the first goes round and comes up after it
abbrev pub second_stays : List Event
second_stays = (done TableMachine (Take Z1) ∷ []) ++ into_press ++ out_of_press ++ onto_deposit ++ back_to_feed

pub record BoundsInFigures : Type 0 where
  pub figures : map (moves_for_each lap_length) (1 ∷ 2 ∷ 3 ∷ 4 ∷ 5 ∷ 6 ∷ []) ≡ 17 ∷ 48 ∷ 79 ∷ 110 ∷ 141 ∷ 172 ∷ []
  pub start : IsStartState two_plates
  pub legal : IsLegal two_plates (second_comes_to_end ++ second_stays)
  pub before : plates_in (after two_plates second_comes_to_end) ≡ FeedEnd ∷ BeltToTable ∷ []
  pub stays : moves_of FeedEnd second_stays ≡ 0
  pub goes : moves_of BeltToTable second_stays ≡ 15
  pub all : plate_moves second_stays ≡ 15
  pub up_after : plates_in (after two_plates (second_comes_to_end ++ second_stays)) ≡ FeedEntry ∷ FeedEnd ∷ []
