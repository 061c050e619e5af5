-- One table of words, and one history: what a step on a word keeps, whatever the other words are.
use Rattle.std.specs.Prelude.{◌≡◌, ℕ, ◌<◌, List, [], ◌∷◌, ◌++◌, length, get_or, set}
use Rattle.plan_types.specs.declared.call.Call.{Call}
use Rattle.plan_types.specs.declared.answer.Answer.{Answer}
use Rattle.plan_types.specs.Table.{PlanTable}
use Rattle.plan_types.specs.Plan.{IsPlan}
use Rattle.plan_rules.specs.declared.state.State.{State}
use Rattle.plan_rules.specs.Reply.{reply, next}
use Rattle.plan_rules.specs.History.{after, IsLegal}
use Rattle.plan_word.specs.OfPlan.{IsOfPlan}
use Rattle.plan_word.specs.Packed.{packed}
use Rattle.plan_words.specs.Run.{Word, WordEvent, events_of}

-- each word of the table is that of its plan's state after the word's events in one history of all words
pub record TellsOneHistory (count : ℕ) (words : ℕ → Word) (states : ℕ → State) (h : List WordEvent) (cells : List ℕ)
    : Type 0 where
  pub long : length cells ≡ count
  pub plans : (n : ℕ) → n < count → IsPlan (words n).table
  pub opened : (n : ℕ) → n < count → IsOfPlan (words n).table (states n)
  pub legal : (n : ℕ) → n < count → IsLegal (words n).table (states n) (events_of h n)
  pub each : (n : ℕ) → n < count
      → get_or cells n 0 ≡ packed (words n).table (after (words n).table (states n) (events_of h n))

abbrev pub word_event : ℕ → ℕ → Call → Answer → WordEvent
word_event n m c a = record { word = n; event = record { machine = m; call = c; answer = a } }

-- what today's step on one word does: from a word the answer in its state, and the word of the state after the call
abbrev pub IsStep : PlanTable → ℕ → ℕ → Call → Answer → ℕ → Type 0
IsStep u word m c a new =
    (s : State) → IsOfPlan u s → packed u s ≡ word → (a ≡ reply u s m c) × (new ≡ packed u (next u s m c))

-- such a step on one word of the table adds the call's event to the one history: so all calls of all words have one
-- order. A call that changes nothing leaves its word
abbrev pub StepsTellOneHistory : ℕ → (ℕ → Word) → Type 0
StepsTellOneHistory count words =
    (states : ℕ → State) (h : List WordEvent) (cells : List ℕ) (n m : ℕ) (c : Call) (a : Answer) (new : ℕ)
    → TellsOneHistory count words states h cells → n < count → IsStep (words n).table (get_or cells n 0) m c a new
    → TellsOneHistory count words states (h ++ word_event n m c a ∷ []) (set cells n new)
