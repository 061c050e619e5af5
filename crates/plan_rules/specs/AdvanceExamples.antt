-- Sources and sinks by literal states and literal histories: a press whose loader fills its hand from outside and
-- empties its tray there, and one whose loader does both at its one place.
use Rattle.std.specs.Prelude.{◌≡◌, ℕ, Bool, true, false, List, [], ◌∷◌, map, replicate, IsTrue}
use Rattle.plan_types.specs.declared.call.Call.{Call}
use Rattle.plan_types.specs.declared.call.Call.TheVariants.{Claim, Give, Yield, Take, SetPose, Stop, Resume, Advance}
use Rattle.plan_types.specs.declared.answer.Refusal.{Refusal}
use Rattle.plan_types.specs.declared.answer.Refusal.TheVariants.{NotParty, NoPlate, PlaceFull, Worn, Stopped}
use Rattle.plan_types.specs.declared.answer.Answer.{Answer}
use Rattle.plan_types.specs.declared.answer.Answer.TheVariants.{Done, Refused}
use Rattle.plan_types.specs.declared.answer.Event.{Event}
use Rattle.plan_types.specs.Table.{watch}
use Rattle.plan_types.specs.Examples.{press_table, open_press_table, through_table}
use Rattle.plan_rules.specs.declared.state.State.{State}
use Rattle.plan_rules.specs.State.{free_zone, plates_of, start_state}
use Rattle.plan_rules.specs.Reply.{reply, next}
use Rattle.plan_rules.specs.Causes.{is_cause}
use Rattle.plan_rules.specs.Examples.{did, refused}
use Rattle.plan_rules.specs.OrderExamples.{press_state, free, given_back, with_stop, with_last_stamp}
use Rattle.plan_rules.specs.History.{IsLegal, after, come, gone}
use Rattle.plan_rules.specs.Laws.{PlatesAreCounted, AdvancesFit, done}

-- the zone is free: whether the hand, a source, the tray, a sink, and the press have a plate, and the stamp
abbrev pub at : Bool → Bool → Bool → ℕ → State
at hand tray press stamp = record {
  zones = replicate 10 free_zone;
  full = hand ∷ tray ∷ press ∷ replicate 13 false;
  stamp = stamp;
  stopped = false;
}

-- a plate is on its way back to the loader, whose hand is empty
abbrev pub coming_back : State
coming_back = given_back

abbrev pub answers : State → ℕ → Call → Answer
answers s m c = reply through_table s m c

-- the answers to an advance: of the loader, 0, at its hand, 0, and its tray, 1; of the press, 1, at its place, 2
pub record AdvancesAnswer : Type 0 where
  pub comes : answers (at false false false 7) 0 (Advance 0) ≡ Done
  pub goes : answers (at false true false 7) 0 (Advance 1) ≡ Done
  pub goes_beside : answers (at true true true 7) 0 (Advance 1) ≡ Done
  pub full_source : answers (at true false false 7) 0 (Advance 0) ≡ Refused PlaceFull
  pub empty_sink : answers (at true false true 7) 0 (Advance 1) ≡ Refused NoPlate
  pub neither : answers (at true true true 7) 1 (Advance 2) ≡ Refused NotParty
  pub anothers : answers (at false true false 7) 1 (Advance 0) ≡ Refused NotParty
  pub anothers_sink : answers (at false true false 7) 1 (Advance 1) ≡ Refused NotParty
  pub past_the_end : answers (at false false false 7) 0 (Advance 3) ≡ Refused NotParty
  pub by_watch : answers (at false false false 7) watch (Advance 0) ≡ Refused NotParty
  pub stopped : answers (with_stop (at false false false 7)) 0 (Advance 0) ≡ Refused Stopped
  pub worn : answers (at false true false 1048575) 0 (Advance 1) ≡ Refused Worn
  -- a source and sink: it is filled and emptied in turn, but while a plate comes to it, it isn't filled
  pub empty_both : reply open_press_table (press_state free_zone false true) 0 (Advance 0) ≡ Done
  pub full_both : reply open_press_table (press_state free_zone true true) 0 (Advance 0) ≡ Done
  pub coming_to_both : reply open_press_table coming_back 0 (Advance 0) ≡ Refused PlaceFull
  -- without sources and sinks nothing comes or goes
  pub none : reply press_table free 0 (Advance 0) ≡ Refused NotParty
  pub none_of_press : reply press_table free 1 (Advance 1) ≡ Refused NotParty

-- what an advance leaves: the one place, and the stamp
pub record AdvancesLeave : Type 0 where
  pub comes : next through_table (at false false true 7) 0 (Advance 0) ≡ at true false true 8
  pub goes : next through_table (at true true false 7) 0 (Advance 1) ≡ at true false false 8
  pub refused : next through_table (at true false false 7) 0 (Advance 0) ≡ at true false false 7
  pub filled : next open_press_table (press_state free_zone false true) 0 (Advance 0)
      ≡ record (press_state free_zone true true) { stamp = 8 }
  pub emptied : next open_press_table (press_state free_zone true true) 0 (Advance 0)
      ≡ record (press_state free_zone false true) { stamp = 8 }

-- the order of an advance's refusals: the answer, where another cause is there too
abbrev pub ComesFirst : State → ℕ → ℕ → Refusal → Refusal → Type 0
ComesFirst s m p first second =
    (reply through_table s m (Advance p) ≡ Refused first) × IsTrue (is_cause through_table s m (Advance p) second)

pub record AdvanceOrder : Type 0 where
  pub party : ComesFirst (with_stop (at false true false 7)) 1 0 NotParty Stopped
  pub stopped : ComesFirst (with_stop (at true false false 7)) 0 0 Stopped PlaceFull
  pub stopped_empty : ComesFirst (with_stop (at true false false 7)) 0 1 Stopped NoPlate
  pub full : ComesFirst (with_last_stamp (at true false false 7)) 0 0 PlaceFull Worn
  pub empty : ComesFirst (with_last_stamp (at true false false 7)) 0 1 NoPlate Worn

abbrev pub causes : State → ℕ → ℕ → List Bool
causes s m p =
    map (is_cause through_table s m (Advance p)) (NotParty ∷ Stopped ∷ PlaceFull ∷ NoPlate ∷ Worn ∷ [])

-- each cause by itself, and none
pub record AdvanceCauses : Type 0 where
  pub none : causes (at false true false 7) 0 0 ≡ false ∷ false ∷ false ∷ false ∷ false ∷ []
  pub none_of_sink : causes (at false true false 7) 0 1 ≡ false ∷ false ∷ false ∷ false ∷ false ∷ []
  pub party : causes (at false true false 7) 1 1 ≡ true ∷ false ∷ false ∷ false ∷ false ∷ []
  pub stopped : causes (with_stop (at false true false 7)) 0 0 ≡ false ∷ true ∷ false ∷ false ∷ false ∷ []
  pub full : causes (at true true false 7) 0 0 ≡ false ∷ false ∷ true ∷ false ∷ false ∷ []
  pub empty : causes (at true false false 7) 0 1 ≡ false ∷ false ∷ false ∷ true ∷ false ∷ []
  pub worn : causes (at false true false 1048575) 0 0 ≡ false ∷ false ∷ false ∷ false ∷ true ∷ []

-- a plate comes, goes through the press, and goes
abbrev pub first_half : List Event
first_half =
    did 0 (Advance 0) ∷ refused 0 (Advance 0) PlaceFull ∷ did 1 (Claim 0) ∷ did 1 (SetPose 3) ∷ did 1 (SetPose 0)
    ∷ did 1 (Yield 0) ∷ did 0 (Give 0) ∷ did 0 (Advance 0) ∷ did 1 (Take 0) ∷ []

abbrev pub second_half : List Event
second_half =
    did 1 (SetPose 3) ∷ did 1 (SetPose 1) ∷ did 1 (Give 0) ∷ refused 0 (Advance 1) NoPlate ∷ did 0 (Take 0)
    ∷ did 0 (Advance 1) ∷ did watch Stop ∷ refused 0 (Advance 0) Stopped ∷ did watch Resume ∷ []

abbrev pub empty_start : State
empty_start = start_state (replicate 16 false) 0

abbrev pub half_way : State
half_way = after through_table empty_start first_half

pub record PlatesCounted : Type 0 where
  pub first_legal : IsLegal through_table empty_start first_half
  pub second_legal : IsLegal through_table half_way second_half
  pub first_come : come through_table empty_start first_half ≡ 2
  pub first_gone : gone through_table empty_start first_half ≡ 0
  pub first_plates : plates_of through_table half_way ≡ 2
  pub second_come : come through_table half_way second_half ≡ 0
  pub second_gone : gone through_table half_way second_half ≡ 1
  pub second_plates : plates_of through_table (after through_table half_way second_half) ≡ 1
  -- refused advances don't count, nor those of a place that is neither
  pub refused : come through_table empty_start (refused 1 (Advance 0) NotParty ∷ []) ≡ 0
  pub starts_with_one : gone through_table (at false true false 7) (did 0 (Advance 1) ∷ []) ≡ 1

-- literal histories that break the laws: a plate comes to a full source, or to none; goes from an empty sink, or from a
-- place that is none; another machine's place is filled
pub record AdvancesBroken : Type 0 where
  pub counted : ¬ PlatesAreCounted through_table (at true false false 7) (done 0 (Advance 0) ∷ [])
  pub own : ¬ AdvancesFit through_table (at false false false 7) (done 1 (Advance 0) ∷ [])
  pub there : ¬ AdvancesFit through_table (at false false false 7) (done 0 (Advance 3) ∷ [])
  pub comes : ¬ AdvancesFit through_table (at false false false 7) (done 1 (Advance 2) ∷ [])
  pub goes : ¬ AdvancesFit through_table (at true false false 7) (done 0 (Advance 0) ∷ [])
  pub room : ¬ AdvancesFit open_press_table coming_back (done 0 (Advance 0) ∷ [])

pub record AdvancesAreMet : Type 0 where
  pub answer : AdvancesAnswer
  pub leave : AdvancesLeave
  pub order : AdvanceOrder
  pub causes : AdvanceCauses
  pub plates : PlatesCounted
  pub broken : AdvancesBroken
