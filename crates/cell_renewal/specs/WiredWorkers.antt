-- A worker with devices of your own: its machine's turns, and how they end.
use Rattle.std.specs.Prelude.{◌≡◌, ◌≢◌, ◌+◌, ◌⊎◌, ℕ, true, Option, Some, None}
use Rattle.cell_interlock.specs.Views.{PassView}
use Rattle.cell_interlock.specs.Lines.{PassAsks}
use Rattle.cell_interlock.specs.Seen.{HasSeenMore}
use Rattle.cell_rules.specs.Names.{ModelState, after}
use Rattle.cell_control.specs.Names.{Steps, Turns, answered}
use Rattle.cell_control.specs.declared.fault.CtlFault.{CtlFault}
use Rattle.cell_control.specs.declared.commands.Commands.{Commands}
use Rattle.cell_notes.specs.declared.status.Status.{Status}
use Rattle.cell_threads.specs.Workers.{GateOf, ComesBy, Ends}

-- between two cycles: the pass, the progress in the program, what has stopped the machine, its devices, how many turns
-- it has had, and how many cycles in which its sensors showed nothing
pub record WiredMoment (S D : Type 0) : Type 0 where
  pub pass : PassView
  pub progress : S
  pub stopped : Option CtlFault
  pub devices : D
  pub turns : ℕ
  pub missed : ℕ

abbrev pub wired_moment : {S D : Type 0} → PassView → S → Option CtlFault → D → ℕ → ℕ → WiredMoment S D
wired_moment pass progress stopped devices turns missed =
    record { pass = pass; progress = progress; stopped = stopped; devices = devices; turns = turns; missed = missed }

-- A turn of a machine that hasn't stopped, once its gate has let it in. Its sensors are read; it performs a row of its
-- program, with one call by its pass or none; its actuators are set as it is told. If the turn stops it, it is told to
-- rest: motors are off. Else what its motors demand holds of what its pass has seen.
pub record TakesWiredTurn {S Sense Reading Act D : Type 0} (tries : ℕ) (t : Steps S Sense Reading Act)
    (shows : D → Option Sense → D → Type 0) (sets : D → Commands Act → D → Type 0) (gate : GateOf)
    (before now : WiredMoment S D) : Type 0 where
  pub runs : before.stopped ≡ None
  pub let_in : gate (before.turns + before.missed) true
  pub sense : Sense
  pub read : D
  pub shown : shows before.devices (Some sense) read
  pub told : Commands Act
  pub row : Turns t (now.pass ≡ before.pass)
      (λ c r. PassAsks tries before.pass c r now.pass) before.stopped before.progress sense
      (record { result = answered told.act told.fault; progress = now.progress; stopped = now.stopped })
  pub rest : told.fault ≢ None → told.act ≡ t.rest before.progress
  pub motor_demands : told.fault ≡ None → t.motor_demands before.progress told.act now.pass.opening now.pass.seen
  pub set : sets read told now.devices
  pub counted : now.turns ≡ before.turns + 1
  pub as_many_missed : now.missed ≡ before.missed

-- what actuators are told that rest without a fault
abbrev pub at_rest_by : {Act : Type 0} → Act → Commands Act
at_rest_by act = record { act = act; fault = None }

-- A cycle of such a machine in which its sensors show nothing: its actuators are told to rest, so motors are off. It is
-- no turn: the machine stays at its step, and its pass as it was.
pub record RestsUnread {S Sense Reading Act D : Type 0} (t : Steps S Sense Reading Act)
    (shows : D → Option Sense → D → Type 0) (sets : D → Commands Act → D → Type 0) (gate : GateOf)
    (before now : WiredMoment S D) : Type 0 where
  pub running : before.stopped ≡ None
  pub begun : gate (before.turns + before.missed) true
  pub read : D
  pub shown : shows before.devices None read
  pub set : sets read (at_rest_by (t.rest before.progress)) now.devices
  pub is : now ≡ wired_moment before.pass before.progress before.stopped now.devices before.turns (before.missed + 1)

-- a cycle: a turn, or a rest
abbrev pub TakesCycle : {S Sense Reading Act D : Type 0} → ℕ → Steps S Sense Reading Act →
    (D → Option Sense → D → Type 0) → (D → Commands Act → D → Type 0) → GateOf → WiredMoment S D → WiredMoment S D
    → Type 0
TakesCycle tries t shows sets gate before now =
    TakesWiredTurn tries t shows sets gate before now ⊎ RestsUnread t shows sets gate before now

-- What a worker with devices gives back that began at this moment: by its cycles, and by nothing else, it has come to
-- this pass, these numbers of turns and of cycles without a reading, and these devices. It ends with this status.
pub record IsWiredResult {S Sense Reading Act D : Type 0} (tries : ℕ) (t : Steps S Sense Reading Act)
    (shows : D → Option Sense → D → Type 0) (sets : D → Commands Act → D → Type 0) (gate : GateOf) (limit : ℕ)
    (first : WiredMoment S D) (kept : PassView) (turns missed : ℕ) (status : Status) (devices : D) : Type 0 where
  pub progress : S
  pub stopped : Option CtlFault
  pub come : ComesBy (TakesCycle tries t shows sets gate) first
      (wired_moment kept progress stopped devices turns missed)
  pub ends : Ends gate limit stopped (turns + missed) status

-- The same of a worker whose machine may go on later: it has come to this step, with what has stopped it; then its pass
-- has surveyed the state that the machine has left.
pub record IsGoingResult {S Sense Reading Act D : Type 0} (tries : ℕ) (t : Steps S Sense Reading Act)
    (shows : D → Option Sense → D → Type 0) (sets : D → Commands Act → D → Type 0) (gate : GateOf) (limit : ℕ)
    (first : WiredMoment S D) (kept : PassView) (turns missed : ℕ) (status : Status) (devices : D)
    (p : S) (stopped : Option CtlFault) (left : ModelState) : Type 0 where
  pub last : PassView
  pub come : ComesBy (TakesCycle tries t shows sets gate) first (wired_moment last p stopped devices turns missed)
  pub ended : Ends gate limit stopped (turns + missed) status
  pub more : HasSeenMore last kept
  pub left_is : left ≡ after kept.opening kept.seen
