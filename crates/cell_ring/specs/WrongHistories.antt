-- Made-up histories and moves, which no rule allows: of each one law doesn't hold.
use Rattle.std.specs.Prelude.{ℕ, true, false, List, [], ◌∷◌, ◌++◌, replicate, Some}
use Rattle.cell_types.specs.declared.machine.Machine.TheVariants.{Table as TableMachine}
use Rattle.cell_types.specs.declared.place.Place.TheVariants as place
use Rattle.cell_rules.specs.Types.{Feed, Z1, Event, Give, Advance, Posture, Moving, OpenIn}
use Rattle.cell_rules.specs.Names.{ModelState, PlaceSet, empty, insert_place, put_zone, start_state, place_set, done}
use Rattle.cell_ring.specs.Lap.{FeedEntry}
use Rattle.cell_ring.specs.Plates.{GoesOn, PlatesAreOnRing}
use Rattle.cell_ring.specs.Following.{PlatesAreFollowed, NoneOvertakes}
use Rattle.cell_ring.specs.Arriving.{ArriveAgain, EachPlateArrives, EachPlateMoves}
use Rattle.cell_ring.specs.OneLap.{one_plate, onto_table, into_press, out_of_press, onto_deposit, one_lap}
use Rattle.cell_ring.specs.Figures.{two_plates}

-- no plate; one at the end of the feed belt, alone or with another; one that arm 2 has
abbrev pub no_plate : ModelState
no_plate = start_state (place_set false false false false false false false false false false) 0

abbrev pub at_end : ModelState
at_end = start_state (place_set false true false false false false false false false false) 0

abbrev pub at_end_and_table : ModelState
at_end_and_table = start_state (place_set false true true false false false false false false false) 0

abbrev pub on_arm2 : ModelState
on_arm2 = start_state (place_set false false false false false false true false false false) 0

-- a plate in the zone to the table, which has this posture and these places beside it
abbrev pub in_zone : Posture → PlaceSet → ModelState
in_zone posture full =
    let free = start_state full 0 in
    record free { zones = put_zone free.zones Z1 (record { owner = Some TableMachine; flag = true; posture = posture }) }

-- the feed belt moves its plate to its end, again and again
abbrev pub advances : ℕ → List Event
advances n = replicate n (done Feed Advance)

pub record WrongHistories : Type 0 where
  -- a plate is on its way to the table; it is on no way while its zone moves; another one is on the table
  pub on_way : PlatesAreOnRing (in_zone OpenIn empty)
  pub on_no_way : ¬ PlatesAreOnRing (in_zone Moving empty)
  pub table_is_full : ¬ PlatesAreOnRing (in_zone OpenIn (insert_place empty place.Table))
  -- in 172 more moves the plate isn't forged and delivered again, after a lap; it isn't delivered; it isn't forged
  pub not_again : ¬ ArriveAgain one_plate (one_lap ++ advances 172)
  pub undelivered : ¬ ArriveAgain one_plate (onto_table ++ into_press ++ out_of_press ++ advances 172)
  pub unforged : ¬ ArriveAgain on_arm2 (onto_deposit ++ advances 172)
  -- one of two plates stays while the other makes 16 moves; one makes one move, and both make 18
  pub stays : ¬ EachPlateMoves two_plates (advances 16)
  pub once : ¬ EachPlateMoves two_plates (done Feed (Give Z1) ∷ advances 17)
  -- a plate is forged and delivered in 17 moves, and doesn't come to where it was
  pub not_everywhere : ¬ EachPlateArrives one_plate
      (onto_table ++ into_press ++ out_of_press ++ onto_deposit ++ advances 4)
  -- a plate isn't where its move took it; a move is of no plate; a plate comes up to another that stays
  pub not_there : ¬ PlatesAreFollowed one_plate (done Feed Advance ∷ [])
  pub no_plate_moves : ¬ PlatesAreFollowed one_plate (done Feed (Give Z1) ∷ [])
  pub comes_up : ¬ NoneOvertakes two_plates (done Feed Advance ∷ [])
  -- a plate goes on along the feed belt; no plate does, the place is full, it stays, it is lost, or another comes up
  pub goes_on : GoesOn one_plate at_end FeedEntry
  pub none_goes : ¬ GoesOn no_plate at_end FeedEntry
  pub no_room : ¬ GoesOn two_plates at_end FeedEntry
  pub not_gone : ¬ GoesOn one_plate two_plates FeedEntry
  pub lost : ¬ GoesOn one_plate no_plate FeedEntry
  pub another : ¬ GoesOn one_plate at_end_and_table FeedEntry
