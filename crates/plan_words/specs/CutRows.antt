-- Literal rows: a plate that goes through a place that is cut; what differs from the plan meanwhile; and what goes
-- wrong out of turn.
use Rattle.std.specs.Prelude.{◌≡◌, ℕ, Bool, true, false, nat_eq, List, [], ◌∷◌, ◌++◌, replicate, Some, None}
use Rattle.plan_types.specs.declared.posture.Posture.TheVariants.{OpenIn, OpenOut}
use Rattle.plan_types.specs.declared.call.Call.TheVariants.{Claim, Give, Yield, Take, SetPose, Advance}
use Rattle.plan_types.specs.declared.answer.Answer.TheVariants.{Done, Refused}
use Rattle.plan_types.specs.declared.answer.Refusal.TheVariants.{NoPlate, PlaceFull}
use Rattle.plan_types.specs.Table.{PlanTable, plan_table, whole_table, kept_by}
use Rattle.plan_types.specs.Examples.{way, zone, pose_at}
use Rattle.plan_rules.specs.declared.state.ZoneState.{ZoneState}
use Rattle.plan_rules.specs.declared.state.State.{State}
use Rattle.plan_rules.specs.State.{is_full, free_zone, plates_of}
use Rattle.plan_rules.specs.Reply.{reply}
use Rattle.plan_words.specs.Groups.{IsLargePlan, word_of}
use Rattle.plan_words.specs.Run.{Word, WordEvent, IsLaidOut, start_of, whole_start}
use Rattle.plan_words.specs.Rows.{owned}
use Rattle.plan_words.specs.Table.{word_event}
use Rattle.plan_words.specs.Cut.{Cut, IsInTurn}
use Rattle.plan_words.specs.CutRun.{Moment, last_moment, IsRun, come_in, cut_start}
use Rattle.plan_words.specs.CutTable.{cut_at}

-- a robot, 1, takes plates from a feeder, 0, and gives them to a press, 2; places: 0 the feeder's, a source, 1 the
-- robot's hand, 2 the press's. The robot hosts the zone between feeder and robot, and opens it by pose 0; the press the
-- other, by pose 1
abbrev pub through : PlanTable
through =
    whole_table 3 (zone 1 0 (way 0 1) None ∷ zone 2 1 (way 1 2) None ∷ [])
    (pose_at 1 0 OpenIn ∷ pose_at 2 1 OpenIn ∷ [])
    (record { keeper = 0; source = true; sink = false } ∷ kept_by 1 ∷ kept_by 2 ∷ [])

-- the hand is cut: its exit, 3, is on the press's word. On that word the press's place is 0, the exit 1
abbrev pub hand_cut : Cut
hand_cut = cut_at through (nat_eq 1)

abbrev pub through_words : ℕ → Word
through_words = word_of hand_cut.cut

abbrev pub no_plates : List Bool
no_plates = false ∷ false ∷ false ∷ []

abbrev pub at_start : Moment
at_start = record {
  states = λ n. start_of (cut_start hand_cut no_plates).full (through_words n).group;
  there = cut_start hand_cut no_plates;
  whole = whole_start through no_plates;
}

-- robot and press open their zones, and the press yields its one to the robot
abbrev pub opened : List WordEvent
opened =
    word_event 0 1 (Claim 0) Done ∷ word_event 0 1 (SetPose 0) Done ∷ word_event 1 2 (Claim 0) Done
    ∷ word_event 1 2 (SetPose 0) Done ∷ word_event 1 2 (Yield 0) Done ∷ []

-- a plate comes to the feeder, and goes to the robot's hand
abbrev pub brought : List WordEvent
brought =
    word_event 0 1 (Yield 0) Done ∷ word_event 0 0 (Advance 0) Done ∷ word_event 0 0 (Give 0) Done
    ∷ word_event 0 1 (Take 0) Done ∷ []

-- the robot lends it and gives it; and opens its hand again
abbrev pub given : List WordEvent
given = word_event 1 1 (Advance 1) Done ∷ word_event 1 1 (Give 0) Done ∷ []

abbrev pub opened_again : List WordEvent
opened_again = word_event 0 1 (Advance 1) Done ∷ []

-- the press takes it, and yields its zone again
abbrev pub passed : List WordEvent
passed = word_event 1 2 (Take 0) Done ∷ word_event 1 2 (Yield 0) Done ∷ []

abbrev pub whole_round : List WordEvent
whole_round = opened ++ (brought ++ (given ++ (opened_again ++ passed)))

-- the words are laid out, and such a round is a run: so the laws' premises can be met. One plate has come, and is there
pub record PlateGoesThrough : Type 0 where
  pub large : IsLargePlan hand_cut.cut
  pub laid_out : IsLaidOut hand_cut.cut 3 through_words
  pub run : IsRun hand_cut 3 through_words at_start whole_round
  pub come : come_in hand_cut through_words at_start whole_round ≡ 1
  pub plates : plates_of through (last_moment hand_cut through_words at_start whole_round).whole ≡ 1

-- ---- what differs from the plan, in turn

-- the robot holds the zone to the press, and may hold that to the feeder; the feeder has another plate, and holds the
-- zone to the robot
abbrev pub zones : ℕ → List ZoneState
zones m = owned m OpenIn ∷ owned 1 OpenIn ∷ replicate 8 free_zone

abbrev pub plant : List Bool → State
plant full = record { zones = zones 0; full = full; stamp = 0; stopped = false }

-- before it lends, the robot's give is refused, which the plan does; before it opens its hand, the feeder's is
pub record OnlyRefusalsDiffer : Type 0 where
  pub unlent : reply hand_cut.cut (plant (true ∷ true ∷ false ∷ false ∷ [])) 1 (Give 1) ≡ Refused NoPlate
  pub unlent_plan : reply through (plant (true ∷ true ∷ false ∷ [])) 1 (Give 1) ≡ Done
  pub shut : reply hand_cut.cut (plant (true ∷ true ∷ false ∷ false ∷ [])) 0 (Give 0) ≡ Refused PlaceFull
  pub shut_plan : reply through (plant (true ∷ false ∷ false ∷ [])) 0 (Give 0) ≡ Done

-- ---- out of turn

-- Each time the cut plan does a call that the plan refuses. The first state has the feeder's place, the hand, the
-- press's and the exit; the second one is the plan's
pub record OutOfTurn : Type 0 where
  -- the hand is opened before the plate is lent, or while it is: then the feeder gives another one onto it
  pub opens_first : reply hand_cut.cut (plant (true ∷ true ∷ false ∷ false ∷ [])) 1 (Advance 1) ≡ Done
  pub opens_while_lent : reply hand_cut.cut (plant (true ∷ true ∷ false ∷ true ∷ [])) 1 (Advance 1) ≡ Done
  pub given_onto : reply hand_cut.cut (plant (true ∷ false ∷ false ∷ false ∷ [])) 0 (Give 0) ≡ Done
  pub given_onto_plan : reply through (plant (true ∷ true ∷ false ∷ [])) 0 (Give 0) ≡ Refused PlaceFull
  pub opens_too_early : ¬ IsInTurn hand_cut (plant (true ∷ true ∷ false ∷ false ∷ []))
      (plant (true ∷ true ∷ false ∷ [])) (Advance 1)
  -- a plate that has left is lent again, and given again
  pub lends_again : reply hand_cut.cut (plant (true ∷ true ∷ false ∷ false ∷ [])) 1 (Advance 3) ≡ Done
  pub given_again : reply hand_cut.cut (plant (true ∷ true ∷ false ∷ true ∷ [])) 1 (Give 1) ≡ Done
  pub given_again_plan : reply through (plant (true ∷ false ∷ false ∷ [])) 1 (Give 1) ≡ Refused NoPlate
  pub lends_too_often : ¬ IsInTurn hand_cut (plant (true ∷ true ∷ false ∷ false ∷ []))
      (plant (true ∷ false ∷ false ∷ [])) (Advance 3)

-- ---- a hand that gives to either of two machines: two exits

abbrev pub two_takers : PlanTable
two_takers = plan_table 3 (zone 1 0 (way 0 1) None ∷ zone 2 0 (way 0 2) None ∷ []) [] (0 ∷ 1 ∷ 2 ∷ [])

abbrev pub hand_in_two : Cut
hand_in_two = cut_at two_takers (nat_eq 0)

-- the robot holds both zones; places: the hand, two machines, two exits
abbrev pub giving : List Bool → State
giving full = record {
  zones = owned 0 OpenIn ∷ owned 0 OpenIn ∷ replicate 8 free_zone;
  full = full;
  stamp = 0;
  stopped = false;
}

-- one plate is lent to both exits, and given twice
pub record LentToBoth : Type 0 where
  pub lends_both : reply hand_in_two.cut (giving (true ∷ false ∷ false ∷ true ∷ false ∷ [])) 0 (Advance 4) ≡ Done
  pub given_second : reply hand_in_two.cut (giving (true ∷ false ∷ false ∷ false ∷ true ∷ [])) 0 (Give 1) ≡ Done
  pub given_second_plan : reply two_takers (giving (false ∷ false ∷ false ∷ [])) 0 (Give 1) ≡ Refused NoPlate
  pub lends_to_both : ¬ IsInTurn hand_in_two (giving (true ∷ false ∷ false ∷ true ∷ false ∷ []))
      (giving (true ∷ false ∷ false ∷ [])) (Advance 4)

-- ---- a hand that takes from either of two machines: the first one's plates come to another entry

abbrev pub takes_from_two : PlanTable
takes_from_two = plan_table 3 (zone 1 0 None (way 1 0) ∷ zone 2 0 None (way 2 0) ∷ []) [] (0 ∷ 1 ∷ 2 ∷ [])

abbrev pub hand_of_two : Cut
hand_of_two = cut_at takes_from_two (nat_eq 0)

-- both machines hold their zones and have a plate; places: the hand, the machines, the entry
abbrev pub giving_both : List Bool → State
giving_both full = record {
  zones = owned 1 OpenOut ∷ owned 2 OpenOut ∷ replicate 8 free_zone;
  full = full;
  stamp = 0;
  stopped = false;
}

-- with both entries open two plates come to one hand
pub record OpenToBoth : Type 0 where
  pub numbers : hand_of_two.entries ≡ 0 ∷ []
  pub opens_second : reply hand_of_two.cut (giving_both (false ∷ true ∷ true ∷ true ∷ [])) 0 (Advance 3) ≡ Done
  pub first_gives : reply hand_of_two.cut (giving_both (false ∷ true ∷ true ∷ false ∷ [])) 1 (Give 0) ≡ Done
  pub second_gives : reply hand_of_two.cut (giving_both (false ∷ true ∷ true ∷ false ∷ [])) 2 (Give 1) ≡ Done
  pub second_gives_plan
      : reply takes_from_two (record (giving_both (false ∷ false ∷ true ∷ [])) {
        zones = record { owner = Some 0; flag = true; posture = OpenOut } ∷ owned 2 OpenOut ∷ replicate 8 free_zone;
      }) 2 (Give 1) ≡ Refused PlaceFull
  pub opens_both : ¬ IsInTurn hand_of_two (giving_both (false ∷ true ∷ true ∷ true ∷ []))
      (giving_both (false ∷ true ∷ true ∷ [])) (Advance 3)
  -- one entry is open: the other machine's give is refused, which the plan does
  pub shut : reply hand_of_two.cut (giving_both (false ∷ true ∷ true ∷ true ∷ [])) 1 (Give 0) ≡ Refused PlaceFull
  pub shut_plan : reply takes_from_two (giving_both (false ∷ true ∷ true ∷ [])) 1 (Give 0) ≡ Done

-- ---- the words don't tell whose turn it is

-- the robot's plate has gone to the press, and the hand isn't open; and: it was opened, and another plate has come to
-- it
abbrev pub after_give : Moment
after_give = last_moment hand_cut through_words at_start (opened ++ (brought ++ (given ++ passed)))

abbrev pub before_give : Moment
before_give = last_moment hand_cut through_words at_start (whole_round ++ brought)

-- all words have the same zones and places then, but in the one the hand has a plate, in the other it has none
pub record WordsDontTell : Type 0 where
  pub first_zones : (after_give.states 0).zones ≡ (before_give.states 0).zones
  pub first_places : (after_give.states 0).full ≡ (before_give.states 0).full
  pub second_zones : (after_give.states 1).zones ≡ (before_give.states 1).zones
  pub second_places : (after_give.states 1).full ≡ (before_give.states 1).full
  pub has_none : is_full after_give.whole 1 ≡ false
  pub has_one : is_full before_give.whole 1 ≡ true
