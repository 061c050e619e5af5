-- The same as a rule of an atomic table: its words, one for each group, and what each seat has seen of one history.
use Rattle.std.specs.Prelude.{◌≡◌, ℕ, ◌<◌, List, [], ◌∷◌, ◌++◌}
use mathlib.Core.Option.{some}
use lib.ListN.{get_elem?}
use Rattle.atomic_table.specs.Table.{State as TableState, Me, Allows}
use Rattle.plan_types.specs.declared.call.Call.{Call}
use Rattle.plan_types.specs.declared.answer.Answer.{Answer}
use Rattle.plan_rules.specs.declared.state.State.{State}
use Rattle.plan_rules.specs.History.{after}
use Rattle.plan_word.specs.Packed.{packed}
use Rattle.plan_words.specs.Run.{Word, WordEvent, events_of}
use Rattle.plan_words.specs.Table.{TellsOneHistory, IsStep, word_event}

-- one history of all words, of which each seat has seen a prefix
pub record TableTellsHistory {T : Type 0} (count : ℕ) (words : ℕ → Word) (states : ℕ → State)
    (table : TableState T (List WordEvent)) : Type 0 where
  pub history : List WordEvent
  pub cells : TellsOneHistory count words states history table.words
  pub seen : (i : ℕ) (view : List WordEvent) → get_elem? table.views i ≡ some view
      → (more : List WordEvent) × (history ≡ view ++ more)

-- what a step for a call shows: the word of the state after one history of all words, which begins with all that the
-- seat had seen; and the seat has then seen this history and the call
abbrev pub ShowsCall : {T : Type 0} → (ℕ → Word) → (ℕ → State) → ℕ → ℕ → Call → (ℕ → Answer) → Me T (List WordEvent)
    → ℕ → Me T (List WordEvent) → Type 0
ShowsCall words states n m c answer me word me' =
    (history : List WordEvent) × ((more : List WordEvent) × (history ≡ me.0 ++ more))
    × (word ≡ packed (words n).table (after (words n).table (states n) (events_of history n)))
    × (me' ≡ (history ++ word_event n m c (answer word) ∷ [], me.1))

-- whatever the table is, a step on word n is allowed that puts the word after the call, by today's step on one word
abbrev pub CallsAreAllowed : Type 0 → ℕ → (ℕ → Word) → Type 0
CallsAreAllowed T count words =
    (states : ℕ → State) (slots id n m : ℕ) (c : Call) (answer : ℕ → Answer) (new : ℕ → ℕ)
    (me : Me T (List WordEvent)) → n < count
    → ((word : ℕ) → IsStep (words n).table word m c (answer word) (new word))
    → Allows (TableTellsHistory count words states) slots id me n new (ShowsCall words states n m c answer me)
