-- The watch stops the words one after the other, in the order of their numbers.
use Rattle.std.specs.Prelude.{◌≡◌, ℕ, ◌<◌, false, List, [], ◌∷◌, ◌++◌}
use Rattle.plan_types.specs.Table.{PlanTable}
use Rattle.plan_types.specs.declared.answer.Answer.TheVariants.{Done}
use Rattle.plan_rules.specs.declared.state.State.{State}
use Rattle.plan_rules.specs.History.{IsStopped}
use Rattle.plan_rules.specs.Laws.{is_barred}
use Rattle.plan_words.specs.Run.{Word, WordEvent, events_of, IsWhole}
use Rattle.plan_words.specs.Motors.{AreLegal}

-- while the stop goes round, the words below one are stopped, the others aren't yet: there claims are done still. On a
-- word that is stopped no claim, no handover of a plate, no advance and no pose that moves is done, whatever the
-- other words are
abbrev pub StoppedWordsBar : PlanTable → ℕ → (ℕ → Word) → Type 0
StoppedWordsBar t count words =
    (states : ℕ → State) (whole : State) (h : List WordEvent) (x : WordEvent) → IsWhole t count words states whole
    → AreLegal count words states (h ++ x ∷ []) → x.word < count → IsStopped (states x.word) (events_of h x.word)
    → x.event.answer ≡ Done → is_barred (words x.word).table x.event.call ≡ false
