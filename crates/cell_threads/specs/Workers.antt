-- A worker: its machine's turns, one after another, and how they end.
use Rattle.std.specs.Prelude.{◌≡◌, ◌<◌, ◌≤◌, ℕ, Bool, true, false, ⊤, ◌⊎◌, List, [], ◌∷◌, Option, Some, None, count_by}
use Rattle.cell_rules.specs.Types.{Answer, Shown, Refused, Entry}
use Rattle.cell_rules.specs.Names.{is_done_answer, noted}
use Rattle.cell_interlock.specs.Views.{PassView}
use Rattle.cell_interlock.specs.Seen.{IsSamePass}
use Rattle.cell_control.specs.Names.{Rig, Steps}
use Rattle.cell_control.specs.declared.fault.CtlFault.{CtlFault}
use Rattle.cell_notes.specs.Names.{TurnCall, counts_with}
use Rattle.cell_notes.specs.declared.counts.Counts.{Counts}
use Rattle.cell_notes.specs.declared.status.Status.{Status}
use Rattle.cell_notes.specs.declared.status.Status.TheVariants.{Fine, GateLimit}
use Rattle.cell_unit.specs.Names.{status_of, Side, ActsAndMoves, DemandsHold}
use Rattle.cell_threads.specs.Lines.{Lines, passes}

-- a worker between two turns: its line, its machine's side, and its counts
pub record WorkerMoment (L S State : Type 0) : Type 0 where
  pub line : L
  pub side : Side S State
  pub counts : Counts

abbrev pub worker_moment : {L S State : Type 0} → L → Side S State → Counts → WorkerMoment L S State
worker_moment line side counts = record { line = line; side = side; counts = counts }

-- what a gate may answer a machine, by the number of the turn
abbrev pub GateOf : Type 1
GateOf = ℕ → Bool → Type 0

-- A turn of a machine that hasn't stopped, once its gate has let it in: a row of its program, with one call over the
-- line or none. What its motors demand holds of what it has seen.
pub record TakesTurn {L S Sense Reading Act State : Type 0} (lines : Lines L) (t : Steps S Sense Reading Act)
    (rig : Rig State Sense Act) (gate : GateOf) (before now : WorkerMoment L S State) : Type 0 where
  pub runs : before.side.stopped ≡ None
  pub let_in : gate before.counts.turns true
  pub asked : TurnCall
  pub row : ActsAndMoves t rig (now.line ≡ before.line) (λ c r. lines.asks before.line c r now.line)
      before.side asked now.side
  pub motor_demands : DemandsHold t rig before.side asked now.side (lines.opening now.line) (lines.seen now.line)
  pub counted : now.counts ≡ counts_with before.counts asked

-- turns, each from the end of the one before it, by what a turn is
abbrev pub AreTaken : {M : Type 0} → (M → M → Type 0) → M → List M → Type 0
AreTaken Turn before [] = ⊤
AreTaken Turn before (now ∷ later) = Turn before now × AreTaken Turn now later

abbrev pub last_of : {A : Type 0} → A → List A → A
last_of first [] = first
last_of first (now ∷ later) = last_of now later

-- from one moment to another by turns
pub record ComesBy {M : Type 0} (Turn : M → M → Type 0) (first now : M) : Type 0 where
  pub turns : List M
  pub taken : AreTaken Turn first turns
  pub last : last_of first turns ≡ now

-- a worker has gone from one moment to another by turns
abbrev pub HasCome : {L S Sense Reading Act State : Type 0} → Lines L → Steps S Sense Reading Act
    → Rig State Sense Act → GateOf → WorkerMoment L S State → WorkerMoment L S State → Type 0
HasCome lines t rig gate = ComesBy (TakesTurn lines t rig gate)

-- A machine that hasn't stopped ends fine after all its turns, or earlier if its gate says no. A stopped machine ends
-- with its fault.
abbrev pub Ends : GateOf → ℕ → Option CtlFault → ℕ → Status → Type 0
Ends gate limit None turns s = ((s ≡ Fine) × (turns ≡ limit)) ⊎ ((s ≡ GateLimit) × (turns < limit) × gate turns false)
Ends gate limit (Some fault) turns s = (s ≡ status_of (Some fault)) × (turns ≤ limit)

-- a worker has gone from its first moment to its last, and ends with this status
pub record HasEnded {L S Sense Reading Act State : Type 0} (lines : Lines L) (t : Steps S Sense Reading Act)
    (rig : Rig State Sense Act) (gate : GateOf) (limit : ℕ) (first last : WorkerMoment L S State) (status : Status)
    : Type 0 where
  pub come : HasCome lines t rig gate first last
  pub ends : Ends gate limit last.side.stopped last.counts.turns status

-- ---- counts and journals

abbrev pub is_shown_answer : Answer → Bool
is_shown_answer (Shown owner flag posture) = true
is_shown_answer _ = false

abbrev pub is_refused_answer : Answer → Bool
is_refused_answer (Refused refusal) = true
is_refused_answer _ = false

-- the counts of settled calls agree with the journal's entries
pub record AreCountsOf (journal : List Entry) (c : Counts) : Type 0 where
  pub done : c.done ≡ count_by (λ e. is_done_answer e.answer) journal
  pub read : c.read ≡ count_by (λ e. is_shown_answer e.answer) journal
  pub refused : c.refused ≡ count_by (λ e. is_refused_answer e.answer) journal

-- a worker gives back the pass that it got, and the journal has its machine's notes of what this pass has seen
pub record IsGivenBack (got kept : PassView) (journal : List Entry) : Type 0 where
  pub same : IsSamePass got kept
  pub journal_is : journal ≡ noted got.opening kept.seen got.machine

-- What a worker gives back after it began at this moment: it has worked up to a last moment, with these counts and this
-- part. The pass is the one that it got, and the journal has its machine's notes of what this pass has seen.
pub record IsWorkerResult {S Sense Reading Act State : Type 0} (tries : ℕ) (t : Steps S Sense Reading Act)
    (rig : Rig State Sense Act) (gate : GateOf) (limit : ℕ) (first : WorkerMoment PassView S State) (kept : PassView)
    (journal : List Entry) (did : Counts) (status : Status) (stands : State) : Type 0 where
  pub last : WorkerMoment PassView S State
  pub worked : HasEnded (passes tries) t rig gate limit first last status
  pub pass : last.line ≡ kept
  pub same : IsSamePass first.line kept
  pub counts : last.counts ≡ did
  pub part : last.side.part ≡ stands
  pub journal_is : journal ≡ noted first.line.opening kept.seen first.line.machine
  pub counted : AreCountsOf journal did
