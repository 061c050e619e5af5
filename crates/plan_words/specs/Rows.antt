-- Literal rows: splits that are no groups, and what would go wrong; and what several words don't promise.
use Rattle.std.specs.Prelude.{◌≡◌, ℕ, ◌<◌, Bool, ◌&&◌, ◌||◌, true, false, List, [], ◌∷◌, replicate, Some, None}
use Rattle.plan_types.specs.declared.posture.Posture.{Posture}
use Rattle.plan_types.specs.declared.posture.Posture.TheVariants.{Closed, Moving, OpenIn}
use Rattle.plan_types.specs.declared.call.Call.{Call}
use Rattle.plan_types.specs.declared.call.Call.TheVariants.{Claim, Give, Release, SetPose, Inquire}
use Rattle.plan_types.specs.declared.answer.Refusal.TheVariants.{NotOwner, NoPlate}
use Rattle.plan_types.specs.declared.answer.Answer.{Answer}
use Rattle.plan_types.specs.declared.answer.Answer.TheVariants.{Done, Shown, Refused}
use Rattle.plan_types.specs.declared.answer.Event.{Event}
use Rattle.plan_types.specs.Table.{PlanTable, plan_table}
use Rattle.plan_types.specs.Examples.{way, zone, pose}
use Rattle.plan_rules.specs.declared.state.ZoneState.{ZoneState}
use Rattle.plan_rules.specs.declared.state.State.{State}
use Rattle.plan_rules.specs.State.{free_zone}
use Rattle.plan_rules.specs.Refusals.{owns}
use Rattle.plan_rules.specs.Reply.{reply, next}
use Rattle.plan_rules.specs.History.{IsLegal}
use Rattle.plan_words.specs.Group.{Group, IsGroup}

abbrev pub owned : ℕ → Posture → ZoneState
owned m q = record { owner = Some m; flag = false; posture = q }

abbrev pub state : List ZoneState → List Bool → State
state zones full = record { zones = zones; full = full; stamp = 0; stopped = false }

-- ---- two zones that one pose joins, on two words: the lift's, without their ways. Its pose 0 moves both

abbrev pub lift_doors : PlanTable
lift_doors =
    plan_table 3 (zone 0 1 None None ∷ zone 0 2 None None ∷ []) (pose 0 false (Some Moving) (Some Moving) ∷ []) []

abbrev pub lower_alone : Group
lower_alone = record { zones = 0 ∷ []; poses = 0 ∷ []; places = [] }

-- ---- a pose that moves one zone alone; its machine hosts the other zone too

abbrev pub half_moving : PlanTable
half_moving = plan_table 3 (zone 0 1 None None ∷ zone 0 2 None None ∷ []) (pose 0 false (Some Moving) None ∷ []) []

-- the lower zone's tables by themselves, for either
abbrev pub door_alone : PlanTable
door_alone = plan_table 3 (zone 0 1 None None ∷ []) (pose 0 false (Some Moving) None ∷ []) []

-- the lift holds the lower zone, and the upper floor stands in the upper one
abbrev pub upper_floor_inside : State
upper_floor_inside = state (owned 0 Closed ∷ owned 2 OpenIn ∷ replicate 8 free_zone) (replicate 16 false)

abbrev pub lower_word : State
lower_word = state (owned 0 Closed ∷ replicate 9 free_zone) (replicate 16 false)

-- ---- a robot with one hand, place 0, gives a plate to either of two machines

abbrev pub one_hand : PlanTable
one_hand = plan_table 3 (zone 1 0 (way 0 1) None ∷ zone 2 0 (way 0 2) None ∷ []) [] (0 ∷ 1 ∷ 2 ∷ [])

-- the first zone, with both ends of its way; the hand is on another word too
abbrev pub first_with_hand : Group
first_with_hand = record { zones = 0 ∷ []; poses = []; places = 0 ∷ 1 ∷ [] }

-- the first zone with one end of its way: the other one is on another word
abbrev pub first_without_hand : Group
first_without_hand = record { zones = 0 ∷ []; poses = []; places = 1 ∷ [] }

abbrev pub one_of_them : PlanTable
one_of_them = plan_table 3 (zone 2 0 (way 0 1) None ∷ []) [] (0 ∷ 2 ∷ [])

-- the robot holds both zones, and has given its plate by the first one
abbrev pub plate_given : State
plate_given =
    state (record { owner = Some 1; flag = true; posture = OpenIn } ∷ owned 0 OpenIn ∷ replicate 8 free_zone)
    (replicate 16 false)

-- on the second zone's word the hand is full still
abbrev pub second_word : State
second_word = state (owned 0 OpenIn ∷ replicate 9 free_zone) (true ∷ replicate 15 false)

-- splits that are no groups; where the plan refuses, a word of the split would do the call
pub record WrongSplits : Type 0 where
  pub one_pose_two_words : ¬ IsGroup lift_doors lower_alone
  pub moving_pose_two_words : ¬ IsGroup half_moving lower_alone
  pub one_hand_two_words : ¬ IsGroup one_hand first_with_hand
  pub one_plate_two_words : ¬ IsGroup one_hand first_without_hand
  -- the lift would move, with the upper floor inside
  pub lift_refused : reply lift_doors upper_floor_inside 0 (SetPose 0) ≡ Refused (NotOwner (Some 2))
  pub half_refused : reply half_moving upper_floor_inside 0 (SetPose 0) ≡ Refused (NotOwner (Some 2))
  pub lift_moves : reply door_alone lower_word 0 (SetPose 0) ≡ Done
  -- the robot would give one plate twice
  pub second_give_refused : reply one_hand plate_given 0 (Give 1) ≡ Refused NoPlate
  pub second_give : reply one_of_them second_word 0 (Give 0) ≡ Done

-- ---- what several words don't promise. Two zones, each on a word of its own; a robot, 0, hosts both, and claims first
-- the one, then the other. The watch, 30, looks at the second one first

abbrev pub one_zone : PlanTable
one_zone = plan_table 2 (zone 0 1 None None ∷ []) [] []

abbrev pub free : State
free = state (replicate 10 free_zone) (replicate 16 false)

abbrev pub event : ℕ → Call → Answer → Event
event m c a = record { machine = m; call = c; answer = a }

-- the first word's history: the watch finds the zone free, then the robot claims it
abbrev pub first_history : List Event
first_history = event 30 (Inquire 0) (Shown None false Closed) ∷ event 0 (Claim 0) Done ∷ []

-- the second word's: the robot claims its zone, then the watch finds it claimed
abbrev pub second_history : List Event
second_history = event 0 (Claim 0) Done ∷ event 30 (Inquire 0) (Shown (Some 0) false Closed) ∷ []

-- both are legal, and each caller's calls are in its order on each word; but no order of all four keeps both callers'
-- orders. Each contract of one word allows it: none excludes that the watch sees the second claim without the first.
-- (Machines whose loads and exchanges have one order don't show it; no clause says that of two words)
pub record NoOneOrder : Type 0 where
  pub first_is_legal : IsLegal one_zone free first_history
  pub second_is_legal : IsLegal one_zone free second_history
  -- when each call comes: the robot's first claim, its second one, the watch's first look, its second one
  pub no_order : (first_claim second_claim first_look second_look : ℕ) → first_claim < second_claim
      → first_look < second_look
      -- by the second word, and by the first one
      → second_claim < first_look → second_look < first_claim → ⊥

-- a look at all words isn't a moment of the whole: the robot holds the first zone, releases it, then claims the second
-- one. The watch looks at the first word before all that, and at the second one after it
abbrev pub held_first : State
held_first = state (owned 0 Closed ∷ replicate 9 free_zone) (replicate 16 false)

abbrev pub first_shown : List Event
first_shown = event 30 (Inquire 0) (Shown (Some 0) false Closed) ∷ event 0 (Release 0) Done ∷ []

-- one large plan of both zones, in the only order that keeps both callers' orders and both words'
abbrev pub two_zones : PlanTable
two_zones = plan_table 2 (zone 0 1 None None ∷ zone 0 1 None None ∷ []) [] []

abbrev pub in_order : List Event
in_order =
    event 30 (Inquire 0) (Shown (Some 0) false Closed) ∷ event 0 (Release 0) Done ∷ event 0 (Claim 1) Done
    ∷ event 30 (Inquire 1) (Shown (Some 0) false Closed) ∷ []

-- whether the robot holds both zones at some moment of a history
abbrev pub holds_both : State → List Event → Bool
holds_both s [] = owns s 0 0 && owns s 0 1
holds_both s (e ∷ h) = owns s 0 0 && owns s 0 1 || holds_both (next two_zones s e.machine e.call) h

-- the watch is shown both zones as the robot's, and at no moment are both
pub record LooksAreNoMoment : Type 0 where
  pub first_is_legal : IsLegal one_zone held_first first_shown
  pub second_is_legal : IsLegal one_zone free second_history
  pub whole_is_legal : IsLegal two_zones held_first in_order
  pub never_both : holds_both held_first in_order ≡ false
