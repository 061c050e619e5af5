-- What the turns of a worker say, in numbers: the statements.
use Rattle.std.specs.Prelude.{◌≡◌, ℕ, ◌+◌, ◌*◌, ◌<◌, ◌≤◌, ◌↔◌, ◌⊎◌, Bool, true, false, List, [], ◌∷◌, map}
use Rattle.std.specs.Prelude.{Option, Some, None, Ok, Err, ⊤}
use Rattle.cell_rules.specs.Types.{Call, Answer, NotParty, Closed, Entry, Busy}
use Rattle.cell_types.specs.declared.answer.Answer.TheVariants as answer
use Rattle.cell_rules.specs.Names.{noted}
use Rattle.cell_rules.specs.declared.heard.LineFault.{LineFault}
use Rattle.cell_control.specs.Names.{Rig, Steps}
use Rattle.cell_control.specs.declared.fault.CtlFault.{CtlFault}
use Rattle.cell_control.specs.declared.fault.CtlFault.TheVariants as cause
use Rattle.cell_interlock.specs.Views.{PassView}
use Rattle.cell_notes.specs.Names.{no_counts}
use Rattle.cell_notes.specs.declared.counts.Counts.{Counts}
use Rattle.cell_notes.specs.declared.status.Status.{Status}
use Rattle.cell_notes.specs.declared.status.Status.TheVariants.{Fine, GateLimit}
use Rattle.cell_notes.specs.declared.status.Status.TheVariants as status
use Rattle.cell_threads.specs.Lines.{passes}
use Rattle.cell_threads.specs.Workers.{GateOf, WorkerMoment, TakesTurn, HasEnded, AreCountsOf}

-- a gate by a rule: which of its turns a machine may begin
abbrev pub gate_by : (ℕ → Bool) → GateOf
gate_by lets turn answer = answer ≡ lets turn

-- the number of replies
abbrev pub answers_in : Counts → ℕ
answers_in c = c.done + c.read + c.refused + c.busy

-- the turns of a machine, by the most that it may have and by those that its gate lets it begin
pub record HadTurns (limit : ℕ) (lets : ℕ → Bool) (did : Counts) (s : Status) (journal : List Entry) : Type 0 where
  pub within : did.turns ≤ limit
  pub let_in : (turn : ℕ) → turn < did.turns → lets turn ≡ true
  pub fine : s ≡ Fine → did.turns ≡ limit
  pub kept_out : s ≡ GateLimit → (did.turns < limit) × (lets did.turns ≡ false)
  pub one_answer_each : answers_in did ≤ did.turns
  pub counted : AreCountsOf journal did

-- a journal has exactly one entry, of this call; or it is empty
abbrev pub HasAtMost : Option Call → List Entry → Type 0
HasAtMost call [] = ⊤
HasAtMost call (e ∷ es) = (call ≡ Some e.call) × (es ≡ [])

-- the status of a worker, by what has stopped its machine
abbrev pub HasStatusBy : Option CtlFault → Status → Type 0
HasStatusBy None s = (s ≡ Fine) ⊎ (s ≡ GateLimit)
HasStatusBy (Some (cause.Sensor _)) s = s ≡ status.Sensor
HasStatusBy (Some (cause.Refused _)) s = s ≡ status.Refused
HasStatusBy (Some cause.Worn) s = s ≡ status.Worn
HasStatusBy (Some cause.Memory) s = s ≡ status.Memory
HasStatusBy (Some cause.Stopped) s = s ≡ status.Refused

-- a journal of one call that was done, two that inquired, and three that were refused
abbrev pub entry_with : Call → Answer → Entry
entry_with call a = record { call = call; answer = a; stamp = 0 }

abbrev pub shown : Answer
shown = answer.Shown None false Closed

abbrev pub refused : Answer
refused = answer.Refused NotParty

abbrev pub six_entries : Call → List Entry
six_entries call = map (entry_with call) (answer.Done ∷ shown ∷ shown ∷ refused ∷ refused ∷ refused ∷ [])

-- a worker that hasn't begun: its machine runs, its pass has seen nothing, and it has no counts
pub record IsFirst {S State : Type 0} (first : WorkerMoment PassView S State) : Type 0 where
  pub runs : first.side.stopped ≡ None
  pub seen : first.line.seen ≡ []
  pub unused : first.line.exchanges ≡ 0
  pub counts : first.counts ≡ no_counts

-- What a worker's turns say. With no turns, and with a gate that lets it begin none, they say exactly that it stays
-- where it was. Then: its turns, in each of which it loses no more exchanges than a call may; and a single turn, in
-- which it makes its step's call or none.
pub record WorkersTellTurns {S Sense Reading Act State : Type 0} (t : Steps S Sense Reading Act)
    (rig : Rig State Sense Act) : Type 0 where
  pub no_turns : (tries : ℕ) (lets : ℕ → Bool) (first last : WorkerMoment PassView S State) (s : Status)
      → IsFirst first
      → HasEnded (passes tries) t rig (gate_by lets) 0 first last s ↔ (last ≡ first) × (s ≡ Fine)
  pub shut : (tries : ℕ) (first last : WorkerMoment PassView S State) (s : Status) → IsFirst first
      → HasEnded (passes tries) t rig (gate_by (λ turn. false)) 5 first last s ↔ (last ≡ first) × (s ≡ GateLimit)
  pub turns : (tries limit : ℕ) (lets : ℕ → Bool) (first last : WorkerMoment PassView S State) (s : Status)
      → IsFirst first → HasEnded (passes tries) t rig (gate_by lets) limit first last s
      → HadTurns limit lets last.counts s (noted last.line.opening last.line.seen last.line.machine)
  pub exchanges : (tries limit : ℕ) (lets : ℕ → Bool) (first last : WorkerMoment PassView S State) (s : Status)
      → IsFirst first → HasEnded (passes tries) t rig (gate_by lets) limit first last s
      → last.line.exchanges ≤ last.counts.turns * tries
  pub once : (tries : ℕ) (lets : ℕ → Bool) (first last : WorkerMoment PassView S State) (s : Status)
      → IsFirst first → HasEnded (passes tries) t rig (gate_by lets) 1 first last s
      → (last ≡ first) ⊎ TakesTurn (passes tries) t rig (gate_by lets) first last
  pub first : (tries : ℕ) (lets : ℕ → Bool) (first last : WorkerMoment PassView S State) (s : Status)
      → IsFirst first → HasEnded (passes tries) t rig (gate_by lets) 1 first last s
      → HasAtMost (t.row first.side.progress).call (noted last.line.opening last.line.seen first.line.machine)

-- How a worker ends, by what has stopped its machine. And the counts of a journal, in numbers.
pub record WorkersEnd {S Sense Reading Act State : Type 0} (t : Steps S Sense Reading Act)
    (rig : Rig State Sense Act) : Type 0 where
  pub status : (tries limit : ℕ) (lets : ℕ → Bool) (first last : WorkerMoment PassView S State) (s : Status)
      → HasEnded (passes tries) t rig (gate_by lets) limit first last s → HasStatusBy last.side.stopped s
  pub counted : (call : Call) (c : Counts) → AreCountsOf (six_entries call) c
      ↔ (c.done ≡ 1) × (c.read ≡ 2) × (c.refused ≡ 3)

-- What a turn is. A stopped machine takes none, nor does a machine that its gate refuses. A Busy call has lost as many
-- exchanges as it may, and is counted as busy; the step waits. Without memory for an entry the machine stops, and the
-- line is as it was. A machine whose motors demand what nothing meets stops.
pub record TurnsAreTaken {S Sense Reading Act State : Type 0} (t : Steps S Sense Reading Act)
    (rig : Rig State Sense Act) : Type 0 where
  pub stopped : (tries : ℕ) (lets : ℕ → Bool) (before now : WorkerMoment PassView S State) (fault : CtlFault)
      → before.side.stopped ≡ Some fault → ¬ TakesTurn (passes tries) t rig (gate_by lets) before now
  pub kept_out : (tries : ℕ) (lets : ℕ → Bool) (before now : WorkerMoment PassView S State)
      → lets before.counts.turns ≡ false → ¬ TakesTurn (passes tries) t rig (gate_by lets) before now
  pub busy : (tries : ℕ) (lets : ℕ → Bool) (before now : WorkerMoment PassView S State)
      (turn : TakesTurn (passes tries) t rig (gate_by lets) before now) (call : Call) (lost stamp : ℕ)
      → turn.asked ≡ Some (call, Ok (Busy lost stamp)) → (lost ≡ tries) × (now.counts.busy ≡ before.counts.busy + 1)
  pub waits : (tries : ℕ) (lets : ℕ → Bool) (before now : WorkerMoment PassView S State)
      (turn : TakesTurn (passes tries) t rig (gate_by lets) before now) (call : Call) (lost stamp : ℕ)
      → turn.asked ≡ Some (call, Ok (Busy lost stamp))
      → (now.side.progress ≡ before.side.progress) × (now.side.stopped ≡ None)
  pub no_memory : (tries : ℕ) (lets : ℕ → Bool) (before now : WorkerMoment PassView S State)
      (turn : TakesTurn (passes tries) t rig (gate_by lets) before now) (call : Call) (why : LineFault)
      → turn.asked ≡ Some (call, Err why) → (now.side.stopped ≡ Some cause.Memory) × (now.line ≡ before.line)
  pub unmet : (tries : ℕ) (lets : ℕ → Bool) (before now : WorkerMoment PassView S State)
      → TakesTurn (passes tries) t rig (gate_by lets) before now
      → ((act : Act) → ¬ t.motor_demands before.side.progress act now.line.opening now.line.seen)
      → ¬ (now.side.stopped ≡ None)
