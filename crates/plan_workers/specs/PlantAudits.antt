-- What an audit of a plant on several words says: of each word by itself.
use Rattle.std.specs.Prelude.{◌<◌, ℕ, List, length, slice_index_or, option_copied}
use Rattle.plan_types.specs.declared.answer.Event.{Event}
use Rattle.plan_workers.specs.declared.plant_audit.WordJournals.{WordJournals}
use Rattle.plan_workers.specs.Audited.{IsAudited, HasNoHistory, AreInOrder, journals_in}

-- this history of a word explains the journals that all machines kept of it
abbrev pub ExplainsWord : WordJournals → List Event → Type 0
ExplainsWord w history = IsAudited w.plan.now w.start.now (journals_in w.journals.now) (option_copied w.end) history

-- no history of a word does
abbrev pub IsUnexplained : WordJournals → Type 0
IsUnexplained w = HasNoHistory w.plan.now w.start.now (journals_in w.journals.now) (option_copied w.end)

-- each word has a history that explains its journals, in the order in which an audit of it gives it
abbrev pub EachIsExplained : List WordJournals → List (List Event) → Type 0
EachIsExplained words histories =
    (k : ℕ) (w : WordJournals) (h : List Event) → k < length words
    → ExplainsWord (slice_index_or words k w) (slice_index_or histories k h)
    × AreInOrder (slice_index_or histories k h)

-- the words before one have such histories, and it has none
pub record IsFirstUnexplained (words : List WordJournals) (word : ℕ) : Type 0 where
  pub below : word < length words
  pub none : (w : WordJournals) → IsUnexplained (slice_index_or words word w)
  pub earlier : (k : ℕ) (w : WordJournals) → k < word
      → (history : List Event) × ExplainsWord (slice_index_or words k w) history
