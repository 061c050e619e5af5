-- A cycle of a worker with devices of your own, whichever its program: what it asks, what its devices are told, and what
-- is left of it.
use Rattle.std.specs.Prelude.{◌≡◌, ◌≢◌, ◌+◌, ◌⊎◌, ℕ, true, Option, Some, None, Result, Err, IsSomeAnd, ⊤}
use Rattle.cell_rules.specs.Types.{Call, Reply}
use Rattle.cell_rules.specs.declared.heard.LineFault.{LineFault}
use Rattle.cell_sensors.specs.declared.sense.SensorFault.{SensorFault}
use Rattle.cell_interlock.specs.Lines.{PassAsks}
use Rattle.cell_control.specs.Names.{Steps}
use Rattle.cell_control.specs.declared.fault.CtlFault.{CtlFault}
use Rattle.cell_control.specs.declared.fault.CtlFault.TheVariants.{Sensor}
use Rattle.cell_control.specs.declared.commands.Commands.{Commands}
use Rattle.cell_threads.specs.Workers.{GateOf}
use Rattle.cell_renewal.specs.WiredWorkers.{TakesCycle, TakesWiredTurn, WiredMoment}

-- Stopped, a machine goes through no cycle, nor if its gate refuses; each cycle is counted once, as a turn or as one
-- without a reading. If its devices can show nothing, they are told to rest, without a fault, and all else stays. If its
-- sensors can't be used, whatever they show, that stops it. A step that asks nothing leaves the pass; one that asks
-- makes its call, once, or none.
pub record WiredCycles {S Sense Reading Act D : Type 0} (t : Steps S Sense Reading Act)
    (shows : D → Option Sense → D → Type 0) (sets : D → Commands Act → D → Type 0) (gate : GateOf) : Type 0 where
  pub stopped : (tries : ℕ) (before now : WiredMoment S D) (fault : CtlFault) → before.stopped ≡ Some fault
      → ¬ TakesCycle tries t shows sets gate before now
  pub kept_out : (tries : ℕ) (before now : WiredMoment S D) → ¬ gate (before.turns + before.missed) true
      → ¬ TakesCycle tries t shows sets gate before now
  pub counted : (tries : ℕ) (before now : WiredMoment S D) → TakesCycle tries t shows sets gate before now
      → now.turns + now.missed ≡ before.turns + before.missed + 1
  pub unread : (tries : ℕ) (before now : WiredMoment S D) → TakesCycle tries t shows sets gate before now
      → ((s : Option Sense) (d : D) → shows before.devices s d → s ≡ None)
      → ((d : D) × sets d (record { act = t.rest before.progress; fault = None }) now.devices)
      × (now.stopped ≡ None) × (now.progress ≡ before.progress) × (now.pass ≡ before.pass)
      × (now.turns ≡ before.turns)
  pub read : (tries : ℕ) (before now : WiredMoment S D) → TakesCycle tries t shows sets gate before now
      → ((s : Option Sense) (d : D) → shows before.devices s d → IsSomeAnd s (λ sense. ⊤))
      → (now.turns ≡ before.turns + 1) × (now.missed ≡ before.missed)
  pub unusable : (tries : ℕ) (before now : WiredMoment S D) (fault : SensorFault)
      → TakesWiredTurn tries t shows sets gate before now
      → ((s : Sense) (said : Result Reading SensorFault) → t.senses s said → said ≡ Err fault)
      → (now.stopped ≡ Some (Sensor fault)) × (now.progress ≡ before.progress) × (now.pass ≡ before.pass)
  pub asks_nothing : (tries : ℕ) (before now : WiredMoment S D) → TakesCycle tries t shows sets gate before now
      → (t.row before.progress).call ≡ None → now.pass ≡ before.pass
  pub asks_once : (tries : ℕ) (before now : WiredMoment S D) (call : Call)
      → TakesCycle tries t shows sets gate before now → (t.row before.progress).call ≡ Some call
      → (now.pass ≡ before.pass) ⊎ ((r : Result Reply LineFault) × PassAsks tries before.pass call r now.pass)
  pub meets_demands : (tries : ℕ) (before now : WiredMoment S D)
      (turn : TakesWiredTurn tries t shows sets gate before now) → turn.told.fault ≡ None
      → t.motor_demands before.progress turn.told.act now.pass.opening now.pass.seen
  pub rests : (tries : ℕ) (before now : WiredMoment S D) (turn : TakesWiredTurn tries t shows sets gate before now)
      → turn.told.fault ≢ None → turn.told.act ≡ t.rest before.progress
  pub is_set : (tries : ℕ) (before now : WiredMoment S D) (turn : TakesWiredTurn tries t shows sets gate before now)
      → sets turn.read turn.told now.devices
  pub is_stopped_by : (tries : ℕ) (before now : WiredMoment S D)
      (turn : TakesWiredTurn tries t shows sets gate before now) → now.stopped ≡ turn.told.fault
