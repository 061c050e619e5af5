-- Machines of a plant at work that keep a journal of each word, each by its pass.
use Rattle.std.specs.Prelude.{◌≡◌, ◌<◌, ℕ, List, [], length, map, get_or, slice_index_or, Option}
use Rattle.std.specs.Global.{Vec}
use Rattle.plan_interlock.specs.Book.{plan_of}
use Rattle.plan_interlock.specs.Plant.{IsSamePlantPass, PlantPassView, RightView, WordView}
use Rattle.word_interlock.specs.Seen.{IsSamePass}
use Rattle.plan_workers.specs.declared.journal.PlanEntry.{PlanEntry}
use Rattle.plan_workers.specs.declared.plant_run.PlantJob.{PlantJob}
use Rattle.plan_workers.specs.declared.plant_record.PlantRecorded.{PlantRecorded}
use Rattle.plan_workers.specs.Journals.{IsJournal}
use Rattle.plan_workers.specs.PlantJobs.{IsPlantInPlace}
use Rattle.plan_workers.specs.PlantTurning.{HasWorkedOnWords}
use Rattle.plan_workers.specs.PlantTurns.{OnEachWord}
use Rattle.plan_workers.specs.PlantWorks.{AtPlantWork, at_plant_work}
use Rattle.plan_workers.specs.Recording.{JournalLineView, by_journal}
use Rattle.plan_workers.specs.Turning.{GateOf}

-- a new line that keeps a journal: of a word's interlock, by a right there
pub record IsNewLine (i : WordView) (v : RightView) (l : JournalLineView) : Type 0 where
  pub pass : l.line.pass ≡ v
  pub plan : l.line.plan ≡ plan_of i.rules
  pub tries : l.line.tries ≡ i.tries
  pub before : l.before ≡ v.seen
  pub empty : l.journal ≡ []

-- each word has one, by the pass's right there
pub record AreNewLines (words : List WordView) (pass : PlantPassView) (lines : List JournalLineView) : Type 0 where
  pub each_word : length lines ≡ length words
  pub on_words : (w : ℕ) (i : WordView) (v : RightView) (l : JournalLineView) → w < length words
      → IsNewLine (slice_index_or words w i) (slice_index_or pass.rights w v) (slice_index_or lines w l)

-- the journal of a word, among those of all words
abbrev pub journal_on : ℕ → List (Vec PlanEntry) → List PlanEntry
journal_on w journals = get_or (map (λ j. j.items) journals) w []

-- each word has a journal; it is the machine's, of all that its right there has seen from one pass to the other
pub record AreWordJournals (before now : PlantPassView) (journals : List (Vec PlanEntry)) : Type 0 where
  pub each_word : length journals ≡ length before.rights
  pub on_words : OnEachWord before.rights now.rights (λ w v r.
      IsJournal v.opening.stamp v.actor v.seen r.seen (journal_on w journals))

module _ {D : Type 0} (reads : D → Option ℕ → D → Type 0) (drives : D → ℕ → D → Type 0) where
  -- A machine has worked in a plant from where its controller was, over new lines of all words by its rights there, up
  -- to a last moment. It gives back a pass with the rights of that moment, which is still this machine's, its
  -- controller, which is in place there, its devices, with all motors off, and a journal of each word.
  pub record HasPlantRecorded (words : List WordView) (gate : ℕ → GateOf) (limit : ℕ) (job : PlantJob D)
      (back : PlantRecorded D) : Type 0 where
    pub lines : List JournalLineView
    pub begun : AreNewLines words job.pass lines
    pub last : AtPlantWork JournalLineView D
    pub worked : HasWorkedOnWords (by_journal reads drives) (gate job.pass.actor) limit
        (at_plant_work job.controller lines job.devices) last back.worked.turns
    pub rights_back : back.worked.pass.rights ≡ map (λ l. l.line.pass) last.lines
    pub same : IsSamePlantPass words job.pass back.worked.pass
    pub same_rights : OnEachWord job.pass.rights back.worked.pass.rights (λ _ v r. IsSamePass v r)
    pub control : back.worked.controller ≡ last.control
    pub in_place : IsPlantInPlace words back.worked.pass back.worked.controller
    pub off : drives last.devices 0 back.worked.devices
    pub stopped : back.worked.stopped_by ≡ last.control.stopped
    pub journals : AreWordJournals job.pass back.worked.pass back.journals.items

  -- so has each of several, in their order
  abbrev pub HavePlantRecorded : List WordView → (ℕ → GateOf) → ℕ → List (PlantJob D) → List (PlantRecorded D)
      → Type 0
  HavePlantRecorded words gate limit jobs backs =
      (k : ℕ) (job : PlantJob D) (back : PlantRecorded D) → k < length jobs
      → HasPlantRecorded words gate limit (slice_index_or jobs k job) (slice_index_or backs k back)

-- the journals that machines have kept of a word, in their order
abbrev pub noted_on : {D : Type 0} → ℕ → List (PlantRecorded D) → List (List PlanEntry)
noted_on w backs = map (λ back. journal_on w back.journals.items) backs
