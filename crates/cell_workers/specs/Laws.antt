-- What a record of six workers says, in numbers: the statements.
use Rattle.std.specs.Prelude.{◌≡◌, ◌≢◌, ℕ, ◌+◌, ◌*◌, ◌≤◌, ◌↔◌, ◌⊎◌, pos, Bool, true, false, List, [], ◌∷◌, map}
use Rattle.std.specs.Prelude.{Option, Some, None, Ok, Err, slice_get}
use Rattle.cell_rules.specs.Types.{Machine, Feed, Table, Robot, Press, Deposit, Crane, Watch, Z1, Z3, Z4, Z6}
use Rattle.cell_rules.specs.Types.{Call, Claim, Release, Entry, Settled, Busy, all_machines}
use Rattle.cell_rules.specs.Types.{journal_of}
use Rattle.cell_types.specs.declared.answer.Answer.TheVariants as answer
use Rattle.cell_rules.specs.Names.{ModelState, empty, start_state, IsSound, Holds, PressMoves, HasNoHistory}
use Rattle.cell_rules.specs.Names.{BeginsWith}
use Rattle.cell_rules.specs.declared.heard.LineFault.{LineFault}
use Rattle.cell_control.specs.declared.fault.CtlFault.{CtlFault}
use Rattle.cell_control.specs.declared.fault.CtlFault.TheVariants as cause
use Rattle.cell_devices.specs.declared.motor.Direction.TheVariants.{Minus as Downward}
use Rattle.cell_devices.specs.declared.motor.Motor.{Motor}
use Rattle.cell_devices.specs.declared.motor.Motor.TheVariants.{Off, Minus}
use Rattle.cell_table_press.specs.declared.press.PressStep.{PressStep}
use Rattle.cell_table_press.specs.declared.press.PressStep.TheVariants.{ClaimFirst, LeaveForMiddle, MoveToBottom}
use Rattle.cell_notes.specs.Names.{no_counts}
use Rattle.cell_notes.specs.declared.counts.Counts.{Counts}
use Rattle.cell_notes.specs.declared.run_record.RunRecord.{RunRecord}
use Rattle.cell_notes.specs.declared.status.Status.{Status}
use Rattle.cell_notes.specs.declared.status.Status.TheVariants.{Fine, GateLimit}
use Rattle.cell_unit.specs.Sides.{side_of}
use Rattle.cell_parts.specs.Axes.{CellScales}
use Rattle.cell_plant.specs.Names.{SideOf, CellGauges, steps_of, rig_of, IsAtRest}
use Rattle.cell_threads.specs.Laws.{answers_in, HadTurns, HasAtMost, HasStatusBy, six_entries}
use Rattle.cell_threads.specs.Lines.{passes}
use Rattle.cell_threads.specs.Workers.{GateOf, TakesTurn, HasEnded, AreCountsOf}
use Rattle.cell_workers.specs.Records.{MomentOf, has_worker, first_moment, TellsAnyWork, TellsWork}

-- gates by a rule: which of its turns a machine may begin
abbrev pub Rule : Type 0
Rule = Machine → ℕ → Bool

abbrev pub by_rule : Rule → Machine → GateOf
by_rule lets m turn answer = answer ≡ lets m turn

-- a record in which nothing was done, and the six machines have this status
pub record TellsNothingDone (opening : ModelState) (each : Status) (r : RunRecord) : Type 0 where
  pub sound : IsSound opening
  pub start : r.start ≡ opening
  pub counts : r.counts ≡ no_counts ∷ no_counts ∷ no_counts ∷ no_counts ∷ no_counts ∷ no_counts ∷ no_counts ∷ []
  pub status : r.status ≡ each ∷ each ∷ each ∷ each ∷ each ∷ each ∷ Fine ∷ []
  pub journals : (m : Machine) → journal_of r.journals m ≡ []
  pub end : r.end ≡ Some opening
  pub axes : r.axes ≡ pos 1000 ∷ pos 0 ∷ pos 0 ∷ pos 300 ∷ pos 0 ∷ pos 0 ∷ pos 0 ∷ pos 900 ∷ []

-- a machine's call in its first turn in a cell without plates; the robot and the crane drive first
abbrev pub first_call : Machine → Option Call
first_call Feed = Some (Claim Z6)
first_call Table = Some (Claim Z1)
first_call Robot = None
first_call Press = Some (Claim Z3)
first_call Deposit = Some (Claim Z4)
first_call Crane = None
first_call Watch = None

-- records of one turn in that cell; without plates the crane doesn't travel
pub record TellsFirstTurns (r : RunRecord) : Type 0 where
  pub calls : (m : Machine) → HasAtMost (first_call m) (journal_of r.journals m)
  pub crane : slice_get r.axes 6 ≡ Some (pos 0)

-- the press alone noted one entry, that it released its interior
abbrev pub press_released : Machine → List Entry
press_released Press = record { call = Release Z3; answer = answer.Done; stamp = 1 } ∷ []
press_released _ = []

-- the press at this step without plates, at this position
abbrev pub press_at : PressStep → ℕ → Motor → SideOf Press
press_at step position motor = side_of
    (record { step = step; loaded = false; forged = false; direction = Downward }) None
    (record { position = pos position; motor = motor })

-- What a record says. With no turns, and with a gate that lets no machine begin, it says exactly that nothing was done.
-- Then: the turns of each working machine, in each of which it loses no more exchanges than a call may; a single turn
-- is one by this cell's scales; and the first turns in a cell without plates.
pub record RecordsTellTurns : Type 0 where
  pub no_turns : (c : CellScales) (opening : ModelState) (tries : ℕ) (lets : Rule) (r : RunRecord)
      → TellsAnyWork c opening tries 0 (by_rule lets) r ↔ TellsNothingDone opening Fine r
  pub shut : (c : CellScales) (opening : ModelState) (tries : ℕ) (r : RunRecord)
      → TellsAnyWork c opening tries 5 (by_rule (λ m turn. false)) r ↔ TellsNothingDone opening GateLimit r
  pub turns : (c : CellScales) (opening : ModelState) (tries limit : ℕ) (lets : Rule) (r : RunRecord)
      (did : Machine → Counts) (statuses : Machine → Status)
      → TellsAnyWork c opening tries limit (by_rule lets) r → r.counts ≡ map did all_machines
      → r.status ≡ map statuses all_machines
      → (m : Machine) → has_worker m ≡ true → HadTurns limit (lets m) (did m) (statuses m) (journal_of r.journals m)
  pub exchanges : (c : CellScales) (opening : ModelState) (tries limit : ℕ) (lets : Rule) (r : RunRecord)
      (k : TellsAnyWork c opening tries limit (by_rule lets) r)
      → (m : Machine) → has_worker m ≡ true → (k.last m).line.exchanges ≤ (k.last m).counts.turns * tries
  pub once : (c : CellScales) (opening : ModelState) (tries : ℕ) (lets : Rule) (r : RunRecord)
      (k : TellsAnyWork c opening tries 1 (by_rule lets) r)
      → (m : Machine) → has_worker m ≡ true
      → (k.last m ≡ first_moment k.interlock m)
      ⊎ TakesTurn (passes tries) (steps_of c m) (rig_of c m) (by_rule lets m) (first_moment k.interlock m)
      (k.last m)
  pub first : (c : CellScales) (tries : ℕ) (lets : Rule) (r : RunRecord)
      → TellsAnyWork c (start_state empty 0) tries 1 (by_rule lets) r → TellsFirstTurns r

-- what gauges give is near their lines, so a record by gauges is one by any readings near the lines
abbrev pub RecordsAreNear : CellScales → CellGauges → (Machine → GateOf) → Type 0
RecordsAreNear c gives gate =
    (opening : ModelState) (tries limit : ℕ) (r : RunRecord)
    → TellsWork c gives opening tries limit gate r → TellsAnyWork c opening tries limit gate r

-- A record's interlock may lose as many exchanges in a call as its passes may.
abbrev pub RecordsKeepTries : (Machine → GateOf) → Type 0
RecordsKeepTries gate = (c : CellScales) (opening : ModelState) (tries limit : ℕ) (r : RunRecord)
    → TellsAnyWork c opening tries limit gate r
    → (k : TellsAnyWork c opening tries limit gate r) × (k.interlock.tries ≡ tries)

-- What a record says of its one history. Of any two machines one has seen all that the other has. The end is the
-- opening if no machine noted anything. A history gives the journals and leads to the end, so an audit has no cause to
-- reject them. They don't say that the press released an interior that it never held.
pub record EndsAreReached : Type 0 where
  pub one_history : (c : CellScales) (opening : ModelState) (tries limit : ℕ) (lets : Rule) (r : RunRecord)
      (k : TellsAnyWork c opening tries limit (by_rule lets) r) (m n : Machine)
      → BeginsWith (k.last m).line.seen (k.last n).line.seen ⊎ BeginsWith (k.last n).line.seen (k.last m).line.seen
  pub nothing : (c : CellScales) (opening : ModelState) (tries limit : ℕ) (lets : Rule) (r : RunRecord)
      → TellsAnyWork c opening tries limit (by_rule lets) r
      → ((m : Machine) → journal_of r.journals m ≡ []) → r.end ≡ Some opening
  pub accepted : (c : CellScales) (opening : ModelState) (tries limit : ℕ) (lets : Rule) (r : RunRecord)
      → TellsAnyWork c opening tries limit (by_rule lets) r → ¬ HasNoHistory r.start (journal_of r.journals) r.end
  pub never_held : (c : CellScales) (tries limit : ℕ) (lets : Rule) (r : RunRecord)
      → TellsAnyWork c (start_state empty 0) tries limit (by_rule lets) r
      → ¬ ((m : Machine) → journal_of r.journals m ≡ press_released m)

-- How a worker ends, by what has stopped its machine. And the counts of a journal, in numbers.
pub record WorkersEnd : Type 0 where
  pub status : (c : CellScales) (tries limit : ℕ) (lets : Rule) (m : Machine) (first last : MomentOf m) (s : Status)
      → HasEnded (passes tries) (steps_of c m) (rig_of c m) (by_rule lets m) limit first last s
      → HasStatusBy last.side.stopped s
  pub counted : (call : Call) (c : Counts) → AreCountsOf (six_entries call) c
      ↔ (c.done ≡ 1) × (c.read ≡ 2) × (c.refused ≡ 3)

-- What a turn is. A stopped machine takes none, nor does a machine that its gate refuses. A Busy call has lost as many
-- exchanges as it may, and is counted as busy; the step waits. Without memory for an entry the machine stops, and the
-- line is as it was. A machine that stops rests. A press whose motor is on holds its interior, which moves. Two turns
-- of a press are in numbers: it claims its interior; it falls for a tick.
pub record TurnsAreTaken : Type 0 where
  pub stopped : (c : CellScales) (tries : ℕ) (lets : Rule) (m : Machine) (before now : MomentOf m) (fault : CtlFault)
      → before.side.stopped ≡ Some fault
      → ¬ TakesTurn (passes tries) (steps_of c m) (rig_of c m) (by_rule lets m) before now
  pub kept_out : (c : CellScales) (tries : ℕ) (lets : Rule) (m : Machine) (before now : MomentOf m)
      → lets m before.counts.turns ≡ false
      → ¬ TakesTurn (passes tries) (steps_of c m) (rig_of c m) (by_rule lets m) before now
  pub busy : (c : CellScales) (tries : ℕ) (lets : Rule) (m : Machine) (before now : MomentOf m)
      (turn : TakesTurn (passes tries) (steps_of c m) (rig_of c m) (by_rule lets m) before now) (call : Call)
      (lost stamp : ℕ)
      → turn.asked ≡ Some (call, Ok (Busy lost stamp)) → (lost ≡ tries) × (now.counts.busy ≡ before.counts.busy + 1)
  pub waits : (c : CellScales) (tries : ℕ) (lets : Rule) (m : Machine) (before now : MomentOf m)
      (turn : TakesTurn (passes tries) (steps_of c m) (rig_of c m) (by_rule lets m) before now) (call : Call)
      (lost stamp : ℕ)
      → turn.asked ≡ Some (call, Ok (Busy lost stamp))
      → (now.side.progress ≡ before.side.progress) × (now.side.stopped ≡ None)
  pub no_memory : (c : CellScales) (tries : ℕ) (lets : Rule) (m : Machine) (before now : MomentOf m)
      (turn : TakesTurn (passes tries) (steps_of c m) (rig_of c m) (by_rule lets m) before now) (call : Call)
      (why : LineFault)
      → turn.asked ≡ Some (call, Err why) → (now.side.stopped ≡ Some cause.Memory) × (now.line ≡ before.line)
  pub rests : (c : CellScales) (tries : ℕ) (lets : Rule) (m : Machine) (before now : MomentOf m) (fault : CtlFault)
      → TakesTurn (passes tries) (steps_of c m) (rig_of c m) (by_rule lets m) before now
      → now.side.stopped ≡ Some fault → IsAtRest m before.side.progress now.side.part
  pub press : (c : CellScales) (tries : ℕ) (lets : Rule) (before now : MomentOf Press)
      → TakesTurn (passes tries) (steps_of c Press) (rig_of c Press) (by_rule lets Press) before now
      → now.side.stopped ≡ None → now.side.part.motor ≢ Off
      → Holds now.line.opening now.line.seen Press Z3 × PressMoves now.line.opening now.line.seen
  pub claims : (c : CellScales) (tries : ℕ) (lets : Rule) (before now : MomentOf Press)
      (turn : TakesTurn (passes tries) (steps_of c Press) (rig_of c Press) (by_rule lets Press) before now)
      (stamp : ℕ)
      → before.side ≡ press_at ClaimFirst 1000 Off → turn.asked ≡ Some (Claim Z3, Ok (Settled answer.Done stamp))
      → now.side ≡ press_at LeaveForMiddle 1000 Off
  pub falls : (c : CellScales) (tries : ℕ) (lets : Rule) (before now : MomentOf Press)
      → TakesTurn (passes tries) (steps_of c Press) (rig_of c Press) (by_rule lets Press) before now
      → before.side ≡ press_at MoveToBottom 1000 Off
      → (now.side ≡ press_at MoveToBottom 980 Minus) × (now.line ≡ before.line)
      × (now.counts.turns ≡ before.counts.turns + 1) × (answers_in now.counts ≡ answers_in before.counts)
