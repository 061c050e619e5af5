-- Histories of a plan with cut places on several words, and of the plan itself.
use Rattle.std.specs.Prelude.{◌≡◌, ℕ, ◌+◌, ◌<◌, Bool, true, false, ◌&&◌, not, nat_eq, List, [], ◌∷◌, ◌++◌, length}
use Rattle.std.specs.Prelude.{replicate}
use Rattle.std.specs.Prelude.{if◌then◌else◌, ⊤}
use Rattle.std.specs.List.{list_any}
use Rattle.plan_types.specs.declared.call.Call.{Call}
use Rattle.plan_types.specs.declared.call.Call.TheVariants.{Give, Advance}
use Rattle.plan_types.specs.declared.answer.Answer.TheVariants.{Done}
use Rattle.plan_types.specs.Below.{sum_below}
use Rattle.plan_types.specs.Table.{place_count, keeper_of}
use Rattle.plan_rules.specs.declared.state.State.{State}
use Rattle.plan_rules.specs.State.{is_full, one_if, plates_of, plates_for, last_stamp}
use Rattle.plan_rules.specs.Reply.{reply}
use Rattle.plan_rules.specs.DoneLaws.{HasGift}
use Rattle.plan_rules.specs.History.{IsLegal, after, is_done, fills, empties}
use Rattle.plan_words.specs.Group.{place_out}
use Rattle.plan_words.specs.Words.{call_out, answer_out, seen_by}
use Rattle.plan_words.specs.Run.{left, left_by, Word, WordEvent, states_after, events_of, AreCallsOf, IsWhole}
use Rattle.plan_words.specs.Run.{whole_start}
use Rattle.plan_words.specs.Cut.{Cut, is_cut, IsExit, IsEntry, StandsFor, MayLend, IsInTurn, is_inner}
use Rattle.plan_words.specs.Cut.{IsAnsweredFor, place_of}

-- a moment: the state of each word, that of the cut plan, which all words are, and that of the plan
pub record Moment : Type 0 where
  pub states : ℕ → State
  pub there : State
  pub whole : State

abbrev pub call_of : (ℕ → Word) → WordEvent → Call
call_of words x = call_out (words x.word).group x.event.call

-- an event leaves the plan's state as it is, if the plan knows nothing of its call; else what its answer leaves
abbrev pub whole_left : Cut → (ℕ → Word) → Moment → WordEvent → State
whole_left c words at x =
    if is_inner c (call_of words x) then at.whole
    else left_by (answer_out (words x.word).group x.event.answer) c.plan (seen_by (at.states x.word) at.whole)
    x.event.machine (call_of words x)

abbrev pub next_moment : Cut → (ℕ → Word) → Moment → WordEvent → Moment
next_moment c words at x = record {
  states = states_after words at.states x;
  there = left c.cut (seen_by (at.states x.word) at.there) x.event.machine (call_of words x);
  whole = whole_left c words at x;
}

abbrev pub last_moment : Cut → (ℕ → Word) → Moment → List WordEvent → Moment
last_moment c words at [] = at
last_moment c words at (x ∷ h) = last_moment c words (next_moment c words at x) h

-- something holds of each event of a history, in the moment before it
abbrev pub AtEach : Cut → (ℕ → Word) → (Moment → WordEvent → Type 0) → Moment → List WordEvent → Type 0
AtEach c words P at [] = ⊤
AtEach c words P at (x ∷ h) = P at x × AtEach c words P (next_moment c words at x) h

-- the keepers lend and open in turn: each Done advance of theirs
abbrev pub KeepersTakeTurns : Cut → (ℕ → Word) → Moment → List WordEvent → Type 0
KeepersTakeTurns c words =
    AtEach c words (λ at x. x.event.answer ≡ Done → IsInTurn c at.there at.whole (call_of words x))

-- each event is answered as by the plan, but for calls that the plan knows nothing of, and for plates that are not lent
-- yet, or entries that aren't open yet
abbrev pub IsLegalForPlan : Cut → (ℕ → Word) → Moment → List WordEvent → Type 0
IsLegalForPlan c words =
    AtEach c words
    (λ at x. is_inner c (call_of words x) ≡ false
    → IsAnsweredFor c at.there at.whole x.event.machine (answer_out (words x.word).group x.event.answer)
    (reply c.plan (seen_by (at.states x.word) at.whole) x.event.machine (call_of words x)))

-- what a history begins with, and has
pub record IsRun (c : Cut) (count : ℕ) (words : ℕ → Word) (at : Moment) (h : List WordEvent) : Type 0 where
  pub words_are_whole : IsWhole c.cut count words at.states at.there
  pub stands : StandsFor c at.there at.whole
  pub calls : AreCallsOf count words h
  pub legal : (n : ℕ) → n < count → IsLegal (words n).table (at.states n) (events_of h n)
  pub in_turn : KeepersTakeTurns c words at h

-- the events of all words are one legal history of the plan, but for such refusals
abbrev pub WordsArePlan : Cut → ℕ → (ℕ → Word) → Type 0
WordsArePlan c count words =
    (at : Moment) (h : List WordEvent) → IsRun c count words at h → IsLegalForPlan c words at h

-- ---- places on words

-- after a history, a place of the cut plan is full on the word that has it
pub record IsFullOnWord (c : Cut) (count : ℕ) (words : ℕ → Word) (at : Moment) (h : List WordEvent) (q : ℕ) : Type 0
  where
    pub word : ℕ
    pub place : ℕ
    pub is_word : word < count
    pub is_place : place < length (words word).group.places
    pub out : place_out (words word).group place ≡ q
    pub full : is_full (after (words word).table (at.states word) (events_of h word)) place ≡ true

-- after each history an exit is full only while its place's entries are, and one exit of a place alone; while it is,
-- the place has the plate by the plan
pub record PlatesAreLent (c : Cut) (count : ℕ) (words : ℕ → Word) (at : Moment) (h : List WordEvent) : Type 0 where
  pub while_full : (q e p : ℕ) → IsExit c q p → IsEntry c e p → IsFullOnWord c count words at h q
      → IsFullOnWord c count words at h e
  pub to_one : (q r p : ℕ) → IsExit c q p → IsExit c r p → IsFullOnWord c count words at h q
      → IsFullOnWord c count words at h r → q ≡ r
  pub has : (q p : ℕ) → IsExit c q p → IsFullOnWord c count words at h q
      → is_full (last_moment c words at h).whole p ≡ true
  -- while a place has a plate by the plan, each entry of it is full on its word
  pub shut : (e p : ℕ) → IsEntry c e p → is_full (last_moment c words at h).whole p ≡ true
      → IsFullOnWord c count words at h e

abbrev pub PlatesAreLentInTurn : Cut → ℕ → (ℕ → Word) → Type 0
PlatesAreLentInTurn c count words =
    (at : Moment) (h : List WordEvent) → IsRun c count words at h → PlatesAreLent c count words at h

-- so a give that is done is one by the plan: the plate is there, and the place that it goes to has none, and none
-- coming
abbrev pub GivesAreThePlans : Cut → ℕ → (ℕ → Word) → Type 0
GivesAreThePlans c count words =
    (at : Moment) (x : WordEvent) (z : ℕ) → IsRun c count words at (x ∷ []) → call_of words x ≡ Give z
    → x.event.answer ≡ Done → HasGift c.plan at.whole x.event.machine z

-- ---- plates

-- the plates that come from outside, and go there, by the plan's own sources and sinks
abbrev pub come_in : Cut → (ℕ → Word) → Moment → List WordEvent → ℕ
come_in c words at [] = 0
come_in c words at (x ∷ h) =
    one_if (is_done x.event && (not (is_inner c (call_of words x)) && fills at.whole (call_of words x)))
    + come_in c words (next_moment c words at x) h

abbrev pub go_out : Cut → (ℕ → Word) → Moment → List WordEvent → ℕ
go_out c words at [] = 0
go_out c words at (x ∷ h) =
    one_if (is_done x.event && (not (is_inner c (call_of words x)) && empties at.whole (call_of words x)))
    + go_out c words (next_moment c words at x) h

-- the places without a plate that are shut
abbrev pub shut : Cut → State → State → ℕ
shut c there whole = sum_below (λ p. one_if (is_full there p && not (is_full whole p))) (place_count c.plan)

-- the plates of the plan are counted; and they are those of the words, exits and entries left out, less the places
-- without a plate that are shut
pub record PlatesAreCounted (c : Cut) (words : ℕ → Word) (at : Moment) (h : List WordEvent) : Type 0 where
  pub counted : plates_of c.plan (last_moment c words at h).whole + go_out c words at h
      ≡ plates_of c.plan at.whole + come_in c words at h
  pub on_words : plates_of c.plan (last_moment c words at h).there
      ≡ plates_of c.plan (last_moment c words at h).whole
      + shut c (last_moment c words at h).there (last_moment c words at h).whole

abbrev pub PlatesOfWordsAreCounted : Cut → ℕ → (ℕ → Word) → Type 0
PlatesOfWordsAreCounted c count words =
    (at : Moment) (h : List WordEvent) → IsRun c count words at h → PlatesAreCounted c words at h

-- ---- keepers

-- what decides the turn of a place changes by calls of its keeper alone: whether the place has the plate, by the plan,
-- and whether it, an exit of it or an entry is full
abbrev pub TurnsAreTheKeepers : Cut → ℕ → (ℕ → Word) → Type 0
TurnsAreTheKeepers c count words =
    (at : Moment) (x : WordEvent) (p : ℕ) → IsRun c count words at (x ∷ []) → p < place_count c.plan
    → ¬ (keeper_of c.plan p ≡ x.event.machine)
    → (is_full (next_moment c words at x).whole p ≡ is_full at.whole p)
    × ((q : ℕ) → place_of c q ≡ p → is_full (next_moment c words at x).there q ≡ is_full at.there q)

-- a keeper's calls in turn are done, unless the word is stopped or its stamp is the last one
pub record TurnsAreDone (c : Cut) : Type 0 where
  pub lends : (s there whole : State) (q p : ℕ) → IsExit c q p → MayLend c there whole p
      → s.stopped ≡ false → s.stamp < last_stamp
      → reply c.cut (seen_by s there) (keeper_of c.plan p) (Advance q) ≡ Done
  pub opens : (s there : State) (q p : ℕ) → IsEntry c q p → is_cut c p ≡ true → is_full there q ≡ true
      → s.stopped ≡ false → s.stamp < last_stamp
      → reply c.cut (seen_by s there) (keeper_of c.plan p) (Advance q) ≡ Done
  -- an entry, of several, is shut again while no plate is on its way to it
  pub shuts : (s there : State) (q p : ℕ) → IsEntry c q p → list_any (nat_eq p) c.entries ≡ true
      → plates_for c.cut (seen_by s there) q ≡ 0 → s.stopped ≡ false → s.stamp < last_stamp
      → reply c.cut (seen_by s there) (keeper_of c.plan p) (Advance q) ≡ Done

-- ---- starts

-- each exit is empty, and of the entries none but the places themselves is open
abbrev pub cut_start : Cut → List Bool → State
cut_start c full =
    whole_start c.cut (full ++ (replicate (length c.exits) false ++ replicate (length c.entries) true))

abbrev pub StartsStand : Cut → Type 0
StartsStand c =
    (full : List Bool) → length full ≡ place_count c.plan → StandsFor c (cut_start c full) (whole_start c.plan full)
