-- Machines at work that keep journals, each by its pass.
use Rattle.std.specs.Prelude.{◌≡◌, ◌<◌, ℕ, List, [], ◌∷◌, ◌++◌, length, slice_index_or, ◌⊎◌, Option, None}
use Rattle.plan_types.specs.declared.call.Call.{Call}
use Rattle.plan_types.specs.declared.answer.Answer.{Answer}
use Rattle.plan_types.specs.declared.answer.Event.{Event}
use Rattle.plan_interlock.specs.Book.{plan_of}
use Rattle.word_interlock.specs.declared.reply.Reply.{Reply}
use Rattle.word_interlock.specs.declared.reply.Reply.TheVariants.{Settled, Busy}
use Rattle.word_interlock.specs.Seen.{IsSamePass}
use Rattle.plan_workers.specs.declared.journal.PlanEntry.{PlanEntry}
use Rattle.plan_workers.specs.declared.run.PlanJob.{PlanJob}
use Rattle.plan_workers.specs.declared.record.PlanRecorded.{PlanRecorded}
use Rattle.plan_workers.specs.Lines.{LineView, LineAsks}
use Rattle.plan_workers.specs.Works.{AtWork, at_work}
use Rattle.plan_workers.specs.Turning.{Ways, GateOf, HasWorked}
use Rattle.plan_workers.specs.Jobs.{PlanInterlockView, IsInPlace}
use Rattle.plan_workers.specs.Journals.{IsJournal, entry}

-- a line that keeps a journal: the line, what its pass had seen when it was made, and the journal
pub record JournalLineView : Type 0 where
  pub line : LineView
  pub before : List Event
  pub journal : List PlanEntry

-- the journal is the machine's, of all that the pass has seen since the line was made
abbrev pub IsKept : JournalLineView → Type 0
IsKept l = IsJournal l.line.pass.opening.stamp l.line.pass.actor l.before l.line.pass.seen l.journal

-- what a journal notes of a call: nothing if it was Busy
abbrev pub entries_in : Call → Reply Answer → List PlanEntry
entries_in c (Settled answer stamp) = entry c answer stamp ∷ []
entries_in c (Busy lost stamp) = []

-- a call of the line, with what the journal notes of it
pub record IsNoted (l : JournalLineView) (c : Call) (answer : Option Answer) (d : JournalLineView) : Type 0 where
  pub line : LineAsks l.line c answer d.line
  pub before : d.before ≡ l.before
  pub journal : d.journal ≡ l.journal ++ entries_in c line.reply

-- memory ran out: no call was made, and nothing changes
pub record IsUnasked (l : JournalLineView) (answer : Option Answer) (d : JournalLineView) : Type 0 where
  pub none : answer ≡ None
  pub same : d ≡ l

abbrev pub JournalLineAsks : JournalLineView → Call → Option Answer → JournalLineView → Type 0
JournalLineAsks l c answer d = IsNoted l c answer d ⊎ IsUnasked l answer d

module _ {D : Type 0} (reads : D → Option ℕ → D → Type 0) (drives : D → ℕ → D → Type 0) where
  -- what is known of lines that keep journals, with these devices
  abbrev pub by_journal : Ways JournalLineView D
  by_journal = record {
    table = λ l. l.line.plan;
    machine = λ l. l.line.pass.actor;
    opening = λ l. l.line.pass.opening;
    seen = λ l. l.line.pass.seen;
    asks = λ l c a d. JournalLineAsks l c a d;
    reads = reads;
    drives = drives;
  }

  -- A machine has worked from where its controller was, over a line of this interlock by its pass, with an empty
  -- journal, up to a last moment. It gives back the pass of that moment, which is still this machine's, its controller,
  -- which is in place there, its devices, with all motors off, and its journal of all that its pass has seen meanwhile.
  pub record HasRecorded (i : PlanInterlockView) (gate : ℕ → GateOf) (limit : ℕ) (job : PlanJob D)
      (back : PlanRecorded D) : Type 0 where
    pub line : JournalLineView
    pub pass : line.line.pass ≡ job.pass
    pub plan : line.line.plan ≡ plan_of i.rules
    pub tries : line.line.tries ≡ i.tries
    pub empty : line.journal ≡ []
    pub last : AtWork JournalLineView D
    pub worked : HasWorked by_journal (gate job.pass.actor) limit
        (at_work job.controller line job.devices) last back.worked.turns
    pub pass_back : back.worked.pass ≡ last.line.line.pass
    pub same : IsSamePass job.pass back.worked.pass
    pub control : back.worked.controller ≡ last.control
    pub in_place : IsInPlace (plan_of i.rules) back.worked.pass back.worked.controller
    pub off : drives last.devices 0 back.worked.devices
    pub stopped : back.worked.stopped_by ≡ last.control.stopped
    pub journal : IsJournal job.pass.opening.stamp job.pass.actor job.pass.seen back.worked.pass.seen
        back.journal.items

  -- so has each of several, in their order
  abbrev pub HaveRecorded : PlanInterlockView → (ℕ → GateOf) → ℕ → List (PlanJob D) → List (PlanRecorded D) → Type 0
  HaveRecorded i gate limit jobs backs =
      (k : ℕ) (job : PlanJob D) (back : PlanRecorded D) → k < length jobs
      → HasRecorded i gate limit (slice_index_or jobs k job) (slice_index_or backs k back)
