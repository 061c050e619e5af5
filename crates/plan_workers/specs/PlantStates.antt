-- The states of a plant's words, as they are surveyed one after another.
use Rattle.std.specs.Prelude.{◌≡◌, ◌<◌, ℕ, List, length, slice_index_or}
use Rattle.plan_rules.specs.declared.state.State.{State}
use Rattle.plan_interlock.specs.Book.{plan_book, plan_of}
use Rattle.plan_interlock.specs.Plant.{PlantPassView, RightView, WordView}
use Rattle.word_interlock.specs.History.{after}
use Rattle.word_interlock.specs.Seen.{HasSeenMore}

-- a state of a word: the one after all that a right has seen there, which begins with what it had seen
pub record IsStateOn (i : WordView) (v : RightView) (s : State) : Type 0 where
  pub now : RightView
  pub more : HasSeenMore (plan_book (plan_of i.rules)) v now
  pub state : s ≡ after (plan_book (plan_of i.rules)) now.opening now.seen

-- each word has one, by the pass's right there
pub record AreStates (words : List WordView) (pass : PlantPassView) (states : List State) : Type 0 where
  pub each_word : length states ≡ length words
  pub on_words : (w : ℕ) (i : WordView) (v : RightView) (s : State) → w < length words
      → IsStateOn (slice_index_or words w i) (slice_index_or pass.rights w v) (slice_index_or states w s)
