-- How a worker with devices may end, and how it may not; and six of which one was refused, or ended as worn.
use Rattle.std.specs.Prelude.{◌≡◌, ◌≢◌, ◌+◌, ◌<◌, ◌≤◌, ℕ, Bool, true, false, ⊤, Option, Some, None}
use Rattle.cell_rules.specs.Types.{Machine, Feed, Table, Robot, Press, Deposit, Crane, journal_of}
use Rattle.cell_rules.specs.Names.{ModelState, IsAudited, after, noted}
use Rattle.cell_sensors.specs.declared.sense.PressSense.{PressSense}
use Rattle.cell_interlock.specs.Views.{PassView}
use Rattle.cell_control.specs.declared.commands.Commands.{Commands}
use Rattle.cell_devices.specs.declared.act.PressAct.{PressAct}
use Rattle.cell_devices.specs.declared.motor.Motor.TheVariants.{Off, Plus}
use Rattle.cell_notes.specs.declared.status.Status.{Status}
use Rattle.cell_notes.specs.declared.status.Status.TheVariants.{Fine, GateLimit, Refused, Sensor, Worn}
use Rattle.cell_table_press.specs.Names.{press_steps}
use Rattle.cell_table_press.specs.declared.press.PressProgress.{PressProgress}
use Rattle.cell_parts.specs.Axes.{CellScales}
use Rattle.cell_plant.specs.Machines.{any_near}
use Rattle.cell_threads.specs.Laws.{gate_by}
use Rattle.cell_threads.specs.Results.{seen_in}
use Rattle.cell_threads.specs.Workers.{GateOf}
use Rattle.cell_threads.specs.declared.six_of.SixOf.{SixOf}
use Rattle.cell_renewal.specs.RenewedRecords.{NoneEnded, SixLeft}
use Rattle.cell_renewal.specs.WiredLaws.{WiredWorkerEnds, told_clash, told_unread}
use Rattle.cell_renewal.specs.WiredRecords.{NoneIsRefused, TellsWired, WiredRecord}
use Rattle.cell_renewal.specs.WiredTeams.{Sets, Shows}
use Rattle.cell_renewal.specs.WiredWorkers.{IsWiredResult, wired_moment}

-- a gate that lets a machine in, one that refuses it, and one that does either
abbrev pub open_gate : GateOf
open_gate turn answer = answer ≡ true

abbrev pub shut_gate : GateOf
shut_gate turn answer = answer ≡ false

abbrev pub any_gate : GateOf
any_gate turn answer = ⊤

-- a press may go through three cycles, and its devices were told this last: after N cycles it ends with this status
abbrev pub PressEnds : GateOf → Commands PressAct → ℕ → Status → Type 0
PressEnds gate last cycles status =
    WiredWorkerEnds press_steps (λ (before : Unit {0}) told now. told ≡ last) gate 3 cycles status tt

-- its motor is left on
abbrev pub told_on : Commands PressAct
told_on = record told_clash { act = record { press = Plus } }

-- what six workers and a watch left, and the record of six workers, whose devices are nothing
abbrev pub AnySix : Type 0
AnySix =
    SixLeft (Unit {0}) (Unit {0}) (Unit {0}) (Unit {0}) (Unit {0}) (Unit {0}) (Unit {0}) (Unit {0}) (Unit {0})
    (Unit {0})

abbrev pub AnyRecord : Type 0
AnyRecord = WiredRecord (Unit {0}) (Unit {0}) (Unit {0}) (Unit {0}) (Unit {0}) (Unit {0})

-- no worker of these ended as worn
abbrev pub NoneWorn : AnySix → Type 0
NoneWorn left = NoneEnded Worn left

-- devices that show and take anything; a record of six workers with such devices
abbrev pub shows : (m : Machine) → Shows (Unit {0}) m
shows m before sense now = ⊤

abbrev pub sets : (m : Machine) → Sets (Unit {0}) m
sets m before told now = ⊤

abbrev pub Nothings : Type 0
Nothings = SixOf (Unit {0}) (Unit {0}) (Unit {0}) (Unit {0}) (Unit {0}) (Unit {0})

abbrev pub Tells : CellScales → Nothings → ModelState → AnyRecord → Type 0
Tells c devices opening r =
    TellsWired c (any_near c) (shows Feed) (sets Feed) (shows Table) (sets Table) (shows Robot) (sets Robot)
    (shows Press) (sets Press) (shows Deposit) (sets Deposit) (shows Crane) (sets Crane) devices opening 9 9
    (λ m. any_gate) r

-- devices that show anything, and keep what they were told last
abbrev pub Remembering : Type 0
Remembering = Commands PressAct

abbrev pub shows_any : Remembering → Option PressSense → Remembering → Type 0
shows_any before sense now = ⊤

abbrev pub keeps_told : Remembering → Commands PressAct → Remembering → Type 0
keeps_told before told now = now ≡ told

-- a press with such devices, and a gate by a rule: how many turns and cycles without a reading, its status, and what
-- its devices were told last
abbrev pub PressGivesBack : (ℕ → Bool) → ℕ → ℕ → ℕ → Status → Remembering → Type 0
PressGivesBack lets limit turns missed status devices =
    (tries : ℕ) × (pass : PassView) × (kept : PassView) × (progress : PressProgress) × (first : Remembering)
    × IsWiredResult tries press_steps shows_any keeps_told (gate_by lets) limit
    (wired_moment pass progress None first 0 0) kept turns missed status devices

pub record WiredEndsAreTold : Type 0 where
  -- whichever a press gives back: what holds of it, in its own numbers
  pub within : (lets : ℕ → Bool) (limit turns missed : ℕ) (status : Status) (devices : Remembering)
      → PressGivesBack lets limit turns missed status devices → turns + missed ≤ limit
  pub let_in : (lets : ℕ → Bool) (limit turns missed : ℕ) (status : Status) (devices : Remembering)
      → PressGivesBack lets limit turns missed status devices
      → (cycle : ℕ) → cycle < turns + missed → lets cycle ≡ true
  pub all_cycles : (lets : ℕ → Bool) (limit turns missed : ℕ) (devices : Remembering)
      → PressGivesBack lets limit turns missed Fine devices → turns + missed ≡ limit
  pub next_refused : (lets : ℕ → Bool) (limit turns missed : ℕ) (devices : Remembering)
      → PressGivesBack lets limit turns missed GateLimit devices
      → (turns + missed < limit) × (lets (turns + missed) ≡ false)
  pub motor_off : (lets : ℕ → Bool) (limit turns missed : ℕ) (status : Status) (devices : Remembering)
      → PressGivesBack lets limit turns missed status devices → status ≢ Fine → status ≢ GateLimit
      → (devices.act.press ≡ Off) × (devices.fault ≢ None)
  -- three cycles are fine; a fault may end the second; a gate may refuse the third
  pub fine : PressEnds open_gate told_clash 3 Fine
  pub fault : PressEnds open_gate told_clash 2 Sensor
  pub kept_out : PressEnds any_gate told_clash 2 GateLimit
  -- there are too many cycles, or too few; the gate refused one that it went through, or none that it didn't
  pub too_many : ¬ PressEnds open_gate told_clash 4 Sensor
  pub too_few : ¬ PressEnds open_gate told_clash 2 Fine
  pub not_let_in : ¬ PressEnds shut_gate told_clash 1 Sensor
  pub not_kept_out : ¬ PressEnds open_gate told_clash 2 GateLimit
  pub none_left : ¬ PressEnds any_gate told_clash 3 GateLimit
  -- after a fault its motor stays on, or its devices weren't told of it
  pub on : ¬ PressEnds open_gate told_on 2 Sensor
  pub untold : ¬ PressEnds open_gate told_unread 2 Sensor
  -- one of six was refused
  pub feed_refused : (r : AnyRecord) → r.outputs.feed.status ≡ Refused → ¬ NoneIsRefused r
  pub table_refused : (r : AnyRecord) → r.outputs.table.status ≡ Refused → ¬ NoneIsRefused r
  pub robot_refused : (r : AnyRecord) → r.outputs.robot.status ≡ Refused → ¬ NoneIsRefused r
  pub press_refused : (r : AnyRecord) → r.outputs.press.status ≡ Refused → ¬ NoneIsRefused r
  pub deposit_refused : (r : AnyRecord) → r.outputs.deposit.status ≡ Refused → ¬ NoneIsRefused r
  pub crane_refused : (r : AnyRecord) → r.outputs.crane.status ≡ Refused → ¬ NoneIsRefused r
  -- one of six ended as worn
  pub feed_worn : (left : AnySix) → left.outputs.feed.status ≡ Worn → ¬ NoneWorn left
  pub table_worn : (left : AnySix) → left.outputs.table.status ≡ Worn → ¬ NoneWorn left
  pub robot_worn : (left : AnySix) → left.outputs.robot.status ≡ Worn → ¬ NoneWorn left
  pub press_worn : (left : AnySix) → left.outputs.press.status ≡ Worn → ¬ NoneWorn left
  pub deposit_worn : (left : AnySix) → left.outputs.deposit.status ≡ Worn → ¬ NoneWorn left
  pub crane_worn : (left : AnySix) → left.outputs.crane.status ≡ Worn → ¬ NoneWorn left
  -- a record has the opening as its start, and its end, journals and audit are of the one history
  pub start : (c : CellScales) (devices : Nothings) (opening : ModelState) (r : AnyRecord) → r.start ≢ opening
      → ¬ Tells c devices opening r
  pub end : (c : CellScales) (devices : Nothings) (opening : ModelState) (r : AnyRecord)
      (k : Tells c devices opening r) → r.end ≡ after opening k.history
  pub journals : (c : CellScales) (devices : Nothings) (opening : ModelState) (r : AnyRecord)
      (k : Tells c devices opening r) (m : Machine) → journal_of r.journals m ≡ noted opening (seen_in k.results m) m
  pub audited : (c : CellScales) (devices : Nothings) (opening : ModelState) (r : AnyRecord)
      (k : Tells c devices opening r) → IsAudited opening (journal_of r.journals) (Some r.end) k.history
