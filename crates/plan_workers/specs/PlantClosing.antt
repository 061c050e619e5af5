-- The journals of a plant's words: those of each word by themselves, as of a plan.
use Rattle.std.specs.Prelude.{◌≡◌, ◌<◌, ℕ, List, [], length, map, get_or, slice_index_or, option_copied, Option}
use Rattle.plan_rules.specs.declared.state.State.{State}
use Rattle.plan_interlock.specs.Book.{plan_book}
use Rattle.plan_interlock.specs.Plant.{RightView, WordView}
use Rattle.plan_interlock.specs.PlantMake.{new_pass}
use Rattle.word_interlock.specs.Bunches.{IsEnd}
use Rattle.word_interlock.specs.Views.{view_of}
use Rattle.plan_workers.specs.declared.plant_audit.WordJournals.{WordJournals}
use Rattle.plan_workers.specs.declared.plant_record.PlantRecorded.{PlantRecorded}
use Rattle.plan_workers.specs.declared.plant_run.PlantJob.{PlantJob}
use Rattle.plan_workers.specs.Audited.{EndsIn, Journals, journals_in}
use Rattle.plan_workers.specs.Closing.{AreKept, NobodyElse, Passes}
use Rattle.plan_workers.specs.PlantAudits.{ExplainsWord, IsFirstUnexplained}
use Rattle.plan_workers.specs.PlantRecording.{HavePlantRecorded, noted_on}
use Rattle.plan_workers.specs.Turning.{GateOf}

-- ---- what machines give back of a word

-- the journals of a word, by the machines' numbers
abbrev pub journals_on : {D : Type 0} → ℕ → List (PlantRecorded D) → Journals
journals_on w backs m = get_or (noted_on w backs) m []

-- their rights there
abbrev pub rights_on : {D : Type 0} → ℕ → RightView → List (PlantRecorded D) → Passes
rights_on w none backs = map (λ back. view_of (slice_index_or back.worked.pass.rights w none)) backs

module _ {D : Type 0} (reads : D → Option ℕ → D → Type 0) (drives : D → ℕ → D → Type 0) (gate : ℕ → GateOf) where
  -- Each machine has worked by a new pass. Then each journal of a word is of all that the right which came back has
  -- seen there
  abbrev pub PlantJournalsAreKept : Type 0
  PlantJournalsAreKept =
      (words : List WordView) (turns : ℕ) (jobs : List (PlantJob D)) (backs : List (PlantRecorded D))
      → ((m : ℕ) (job : PlantJob D) → m < length jobs → (slice_index_or jobs m job).pass ≡ new_pass words m)
      → length backs ≡ length jobs → HavePlantRecorded reads drives words gate turns jobs backs
      → (w : ℕ) (i : WordView) (none : RightView) → w < length words
      → AreKept (slice_index_or words w i).opening.stamp (rights_on w none backs) (journals_on w backs)

-- ---- what explains them

-- the interlock of a word has ended; these rights came back, each with its journal, and nobody else has called; the
-- end, if one is given, is the state that it left
pub record IsEndedWord (w : WordJournals) : Type 0 where
  pub rights : Passes
  pub left : State
  pub ended : IsEnd (plan_book w.plan.now) w.start.now rights left
  pub end : EndsIn left (option_copied w.end)
  pub kept : AreKept w.start.now.stamp rights (journals_in w.journals.now)
  pub nobody : NobodyElse rights (journals_in w.journals.now) ended.history

-- so have all words
abbrev pub AreEndedWords : List WordJournals → Type 0
AreEndedWords words = (k : ℕ) (w : WordJournals) → k < length words → IsEndedWord (slice_index_or words k w)

-- Then the history of each word explains its journals
abbrev pub EndedWordsAreExplained : Type 0
EndedWordsAreExplained =
    (words : List WordJournals) (all : AreEndedWords words) (k : ℕ) (w : WordJournals) (below : k < length words)
    → ExplainsWord (slice_index_or words k w) (all k w below).ended.history

-- and an audit refuses none of them, unless memory runs out
abbrev pub EndedWordsAreAccepted : Type 0
EndedWordsAreAccepted =
    (words : List WordJournals) → AreEndedWords words → (k : ℕ) → ¬ IsFirstUnexplained words k
