-- What holds of a worker with devices of your own: the statements.
use Rattle.std.specs.Prelude.{◌≡◌, ◌≢◌, ◌+◌, ◌<◌, ◌≤◌, ℕ, true, false, Option, Some, None, IsSomeAnd}
use Rattle.cell_rules.specs.Types.{Press, Z3}
use Rattle.cell_sensors.specs.declared.sense.PressSense.{PressSense}
use Rattle.cell_sensors.specs.declared.sense.SensorFault.TheVariants.{Clash}
use Rattle.cell_rules.specs.History.{Holds, PressMoves}
use Rattle.cell_interlock.specs.Views.{PassView}
use Rattle.cell_control.specs.Names.{Steps}
use Rattle.cell_control.specs.declared.fault.CtlFault.{CtlFault}
use Rattle.cell_control.specs.declared.fault.CtlFault.TheVariants.{Sensor}
use Rattle.cell_control.specs.declared.commands.Commands.{Commands}
use Rattle.cell_devices.specs.declared.act.PressAct.{PressAct}
use Rattle.cell_devices.specs.declared.motor.Motor.TheVariants.{Off}
use Rattle.cell_table_press.specs.Names.{press_steps}
use Rattle.cell_table_press.specs.declared.press.PressProgress.{PressProgress}
use Rattle.cell_notes.specs.declared.status.Status.{Status}
use Rattle.cell_notes.specs.declared.status.Status.TheVariants.{Fine, GateLimit}
use Rattle.cell_threads.specs.Workers.{GateOf}
use Rattle.cell_renewal.specs.WiredWorkers.{WiredMoment, TakesWiredTurn, TakesCycle, IsWiredResult, at_rest_by}
use Rattle.cell_renewal.specs.WiredWorkers.{wired_moment}

-- the last that these devices were told is to rest: all motors off
pub record AreToldToRest {S Sense Reading Act D : Type 0} (t : Steps S Sense Reading Act)
    (sets : D → Commands Act → D → Type 0) (devices : D) : Type 0 where
  pub progress : S
  pub before : D
  pub told : Commands Act
  pub set : sets before told devices
  pub is_fault : told.fault ≢ None
  pub rest : told.act ≡ t.rest progress

-- What a worker gave back that began with no cycles: this number of them, this status, these devices. It went through
-- no cycle that its gate refused; if it is fine, through all. If neither its cycles nor its gate ended it, a fault did;
-- then the last that its devices were told is to rest.
pub record WiredWorkerEnds {S Sense Reading Act D : Type 0} (t : Steps S Sense Reading Act)
    (sets : D → Commands Act → D → Type 0) (gate : GateOf) (limit cycles : ℕ) (status : Status) (devices : D)
    : Type 0 where
  pub within : cycles ≤ limit
  pub let_in : (cycle : ℕ) → cycle < cycles → gate cycle true
  pub fine : status ≡ Fine → cycles ≡ limit
  pub kept_out : status ≡ GateLimit → (cycles < limit) × gate cycles false
  pub rests : status ≢ Fine → status ≢ GateLimit → AreToldToRest t sets devices

-- whatever a worker gives back that ran when it began
abbrev pub WiredWorkersEnd : {S Sense Reading Act D : Type 0} → Steps S Sense Reading Act →
    (D → Option Sense → D → Type 0) → (D → Commands Act → D → Type 0) → GateOf → Type 0
WiredWorkersEnd {S = S} {D = D} t shows sets gate =
    (tries limit : ℕ) (pass kept : PassView) (p : S) (first devices : D) (turns missed : ℕ) (status : Status)
    → IsWiredResult tries t shows sets gate limit (wired_moment pass p None first 0 0) kept turns missed status devices
    → WiredWorkerEnds t sets gate limit (turns + missed) status devices

-- what a press is told if its switches clash: its motor is off
abbrev pub told_clash : Commands PressAct
told_clash = record { act = record { press = Off }; fault = Some (Sensor Clash) }

-- and if nothing is known of them
abbrev pub told_unread : Commands PressAct
told_unread = at_rest_by (record { press = Off })

-- Cycles of a press with devices of your own. Stopped, it takes none, nor if its gate refuses. If its devices can show
-- nothing but that it is both at the bottom and at the top, they are set so that its motor is off; it makes no call,
-- and stops. If they can show nothing at all, its motor is off too; it makes no call, and goes on where it was. While
-- it is told to switch its motor on, it holds its interior, which moves.
pub record WiredPressTurns {D : Type 0} (shows : D → Option PressSense → D → Type 0)
    (sets : D → Commands PressAct → D → Type 0) (gate : GateOf) : Type 0 where
  pub stopped : (tries : ℕ) (before now : WiredMoment PressProgress D) (fault : CtlFault) → before.stopped ≡ Some fault
      → ¬ TakesCycle tries press_steps shows sets gate before now
  pub kept_out : (tries : ℕ) (before now : WiredMoment PressProgress D) → ¬ gate (before.turns + before.missed) true
      → ¬ TakesCycle tries press_steps shows sets gate before now
  pub clash : (tries : ℕ) (before now : WiredMoment PressProgress D)
      → TakesCycle tries press_steps shows sets gate before now
      → ((s : Option PressSense) (d : D) → shows before.devices s d
      → IsSomeAnd s (λ p. (p.bottom ≡ true) × (p.top ≡ true)))
      → ((d : D) × sets d told_clash now.devices) × (now.stopped ≡ Some (Sensor Clash)) × (now.pass ≡ before.pass)
  pub unread : (tries : ℕ) (before now : WiredMoment PressProgress D)
      → TakesCycle tries press_steps shows sets gate before now
      → ((s : Option PressSense) (d : D) → shows before.devices s d → s ≡ None)
      → ((d : D) × sets d told_unread now.devices) × (now.stopped ≡ None) × (now.progress ≡ before.progress)
      × (now.pass ≡ before.pass) × (now.turns ≡ before.turns)
  pub drives : (tries : ℕ) (before now : WiredMoment PressProgress D)
      (turn : TakesWiredTurn tries press_steps shows sets gate before now)
      → turn.told.act.press ≢ Off → Holds now.pass.opening now.pass.seen Press Z3
      × PressMoves now.pass.opening now.pass.seen
