-- A plan on several words: a state and a history for each word; and the one large plan, without limits, beside them.
use Rattle.std.specs.Prelude.{◌≡◌, ℕ, ◌+◌, ◌<◌, Bool, true, false, nat_eq, List, [], ◌∷◌, length, map, filter, get_or}
use Rattle.std.specs.Prelude.{Option, Some, None, replicate, if◌then◌else◌, ⊤}
use Rattle.std.specs.List.{range_with_len}
use Rattle.plan_types.specs.declared.call.Call.{Call}
use Rattle.plan_types.specs.declared.call.Call.TheVariants.{Claim, Give, Yield, Release, SetPose}
use Rattle.plan_types.specs.declared.answer.Answer.{Answer}
use Rattle.plan_types.specs.declared.answer.Answer.TheVariants.{Done, Shown, Refused}
use Rattle.plan_types.specs.declared.answer.Event.{Event}
use Rattle.plan_types.specs.Table.{PlanTable, zone_count, pose_count, place_count}
use Rattle.plan_types.specs.Plan.{IsPlan}
use Rattle.plan_rules.specs.declared.state.ZoneState.{ZoneState}
use Rattle.plan_rules.specs.declared.state.State.{State}
use Rattle.plan_types.specs.Kept.{filled}
use Rattle.plan_rules.specs.State.{free_zone, start_state}
use Rattle.plan_rules.specs.Sound.{IsSound}
use Rattle.plan_rules.specs.Reply.{reply, next, other_party, handed, posed, zones_after, places_after, stopped_after}
use Rattle.plan_rules.specs.History.{IsLegal}
use Rattle.plan_words.specs.Group.{Group, HasZone, HasPose, HasPlace, IsGroup, IsTableOf}
use Rattle.plan_words.specs.Words.{call_out, IsCallOf, answer_out, IsIn, seen_by}

-- the state after a call of the large plan, of any number of zones: as `next`, but a pose is taken in all zones, and a
-- space is handed over among all zones
abbrev pub owner_left : PlanTable → State → ℕ → Option ℕ → Bool → List ZoneState
owner_left t s z owner plate = map (handed t s z owner plate) (range_with_len 0 (length s.zones))

abbrev pub zones_left : PlanTable → State → ℕ → Call → List ZoneState
zones_left t s m (Claim z) = owner_left t s z (Some m) false
zones_left t s m (Give z) = owner_left t s z (Some (other_party t m z)) true
zones_left t s m (Yield z) = owner_left t s z (Some (other_party t m z)) false
zones_left t s m (Release z) = owner_left t s z None false
zones_left t s m (SetPose p) = map (posed t s p) (range_with_len 0 (length s.zones))
zones_left t s m c = zones_after t s m c

abbrev pub left_by : Answer → PlanTable → State → ℕ → Call → State
left_by Done t s m c = record {
  zones = zones_left t s m c;
  full = places_after t s m c;
  stamp = s.stamp + 1;
  stopped = stopped_after s c;
}
left_by (Refused _) t s m c = s
left_by (Shown _ _ _) t s m c = s

abbrev pub left : PlanTable → State → ℕ → Call → State
left t s m c = left_by (reply t s m c) t s m c

-- a word has a group, and tables of it; words are numbered
pub record Word : Type 0 where
  pub group : Group
  pub table : PlanTable

-- each word's tables are a plan of a group; each zone, pose and place is on one word
pub record IsLaidOut (t : PlanTable) (count : ℕ) (words : ℕ → Word) : Type 0 where
  pub group : (n : ℕ) → n < count → IsGroup t (words n).group
  pub table : (n : ℕ) → n < count → IsTableOf t (words n).group (words n).table
  pub plan : (n : ℕ) → n < count → IsPlan (words n).table
  pub zone_somewhere : (z : ℕ) → z < zone_count t → (n : ℕ) × (n < count) × HasZone (words n).group z
  pub pose_somewhere : (p : ℕ) → p < pose_count t → (n : ℕ) × (n < count) × HasPose (words n).group p
  pub place_somewhere : (p : ℕ) → p < place_count t → (n : ℕ) × (n < count) × HasPlace (words n).group p
  pub one_word_a_zone : (n k z : ℕ) → n < count → k < count → HasZone (words n).group z → HasZone (words k).group z
      → n ≡ k
  pub one_word_a_place : (n k p : ℕ) → n < count → k < count → HasPlace (words n).group p → HasPlace (words k).group p
      → n ≡ k

-- an event of a word, by the numbers of its group
pub record WordEvent : Type 0 where
  pub word : ℕ
  pub event : Event

-- each word's state, with another state of one word
abbrev pub put : (ℕ → State) → ℕ → State → ℕ → State
put states n s k = if nat_eq k n then s else states k

abbrev pub states_after : (ℕ → Word) → (ℕ → State) → WordEvent → ℕ → State
states_after words states x =
    put states x.word (next (words x.word).table (states x.word) x.event.machine x.event.call)

-- the events of one word, in order
abbrev pub events_of : List WordEvent → ℕ → List Event
events_of h n = map (λ (x : WordEvent). x.event) (filter (λ (x : WordEvent). nat_eq x.word n) h)

-- each event is of a word, and its call is of that word's group
abbrev pub AreCallsOf : ℕ → (ℕ → Word) → List WordEvent → Type 0
AreCallsOf count words [] = ⊤
AreCallsOf count words (x ∷ h) =
    ((x.word < count) × IsCallOf (words x.word).group x.event.call) × AreCallsOf count words h

-- a history of all words is one of the large plan: by the plan's numbers each answer is the large plan's in the state
-- that all calls before have left, of whatever words. Only the stamp and the stop are those of the call's own word
abbrev pub IsLegalAsOne : PlanTable → (ℕ → Word) → (ℕ → State) → State → List WordEvent → Type 0
IsLegalAsOne t words states whole [] = ⊤
IsLegalAsOne t words states whole (x ∷ h) =
    let g = (words x.word).group in
    let seen = seen_by (states x.word) whole in
    (answer_out g x.event.answer ≡ reply t seen x.event.machine (call_out g x.event.call))
    × IsLegalAsOne t words (states_after words states x) (left t seen x.event.machine (call_out g x.event.call)) h

-- the large plan's state has the zones and the places of each word's
pub record IsWhole (t : PlanTable) (count : ℕ) (words : ℕ → Word) (states : ℕ → State) (whole : State) : Type 0 where
  pub zones : length whole.zones ≡ zone_count t
  pub places : length whole.full ≡ place_count t
  pub is_in : (n : ℕ) → n < count → IsIn (words n).group (states n) whole
  pub sound : (n : ℕ) → n < count → IsSound (words n).table (states n)

-- each word has a history that is legal by its own plan: then all their events, in any order that keeps each word's,
-- are one legal history of the large plan
abbrev pub WordsAreOnePlan : PlanTable → ℕ → (ℕ → Word) → Type 0
WordsAreOnePlan t count words =
    (states : ℕ → State) (whole : State) (h : List WordEvent) → IsWhole t count words states whole
    → AreCallsOf count words h → ((n : ℕ) → n < count → IsLegal (words n).table (states n) (events_of h n))
    → IsLegalAsOne t words states whole h

-- a start: all zones free and Closed on each word, these places full, each on its word
abbrev pub start_of : List Bool → Group → State
start_of full g = start_state (filled (map (λ p. get_or full p false) g.places) false 16) 0

abbrev pub whole_start : PlanTable → List Bool → State
whole_start t full = record { zones = replicate (zone_count t) free_zone; full = full; stamp = 0; stopped = false }

abbrev pub StartsAreWhole : PlanTable → ℕ → (ℕ → Word) → Type 0
StartsAreWhole t count words =
    (full : List Bool) → length full ≡ place_count t
    → IsWhole t count words (λ n. start_of full (words n).group) (whole_start t full)

-- where a state has ten zones, as on one word of today, the large plan's calls leave what a plan's leave
abbrev pub LargeIsPlain : Type 0
LargeIsPlain = (t : PlanTable) (s : State) (m : ℕ) (c : Call) → length s.zones ≡ 10 → left t s m c ≡ next t s m c
