-- What contracts see of a plant's interlock, which has several words, and of a machine's pass: its right on each word.
use Rattle.std.specs.Prelude.{◌≡◌, ◌≢◌, ℕ, List, map, slice_index_or}
use Rattle.plan_types.specs.declared.answer.Event.{Event}
use Rattle.plan_rules.specs.declared.state.State.{State}
use Rattle.word_interlock.specs.Views.{InterlockView, PassView}
use Rattle.plan_interlock.specs.declared.rules.PlanRules.{PlanRules}

-- the interlock of one word; and a machine's right there, which is its pass on that word
abbrev pub WordView : Type 0
WordView = InterlockView PlanRules State

abbrev pub RightView : Type 0
RightView = PassView PlanRules State ℕ Event

-- a pass: its machine, and its right on each word, in the order of the words
pub record PlantPassView : Type 0 where
  pub actor : ℕ
  pub rights : List RightView

-- a pass was made with this interlock: it has one right on each word
abbrev pub IsOfPlant : List WordView → PlantPassView → Type 0
IsOfPlant words pass = map (λ v. v.table) pass.rights ≡ map (λ i. i.table) words

-- this holds of the interlock of a word, and of a pass's right on it before and after
abbrev pub OnWord : List WordView → PlantPassView → PlantPassView → ℕ → (WordView → RightView → RightView → Type 0)
    → Type 0
OnWord words before after word holds =
    (i : WordView) (v w : RightView)
    → holds (slice_index_or words word i) (slice_index_or before.rights word v) (slice_index_or after.rights word w)

-- the rights on all other words are as they were
abbrev pub OthersStay : PlantPassView → PlantPassView → ℕ → Type 0
OthersStay before after word =
    (k : ℕ) (v : RightView) → k ≢ word → slice_index_or after.rights k v ≡ slice_index_or before.rights k v

-- it is the same machine's pass, of the same interlock
pub record IsSamePlantPass (words : List WordView) (before after : PlantPassView) : Type 0 where
  pub actor : after.actor ≡ before.actor
  pub plant : IsOfPlant words after
