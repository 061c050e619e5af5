-- A turn of a machine by the state of the interlock, and over a bench with a notebook.
use Rattle.std.specs.Prelude.{◌≡◌, Bool, true, false, if◌then◌else◌, ◌++◌, None, Result, Ok, Err}
use Rattle.std.specs.Option.{is_none}
use Rattle.cell_rules.specs.Types.{Machine, Call, Reply, Settled, Busy}
use Rattle.cell_rules.specs.Names.{ModelState, reply, next, Desk}
use Rattle.cell_rules.specs.declared.heard.LineFault.{LineFault}
use Rattle.cell_rules.specs.declared.bench.Bench.{Bench}
use Rattle.cell_rules.specs.BenchView.{desk_of}
use Rattle.cell_control.specs.Names.{Rig, Steps}
use Rattle.cell_notes.specs.Names.{TurnCall, settled_in, Notes, notes_with}
use Rattle.cell_notes.specs.Notes.{notes_of}
use Rattle.cell_notes.specs.declared.notebook.Notebook.{Notebook}
use Rattle.cell_unit.specs.declared.unit.MachineUnit.{MachineUnit}
use Rattle.cell_unit.specs.Sides.{Side, Acts, ActsAndMoves, DemandsHold, unit_table, unit_rig, unit_side}

-- A call is answered by the state, and changes it. If the turn finds the interlock busy, the answer is Busy; if out of
-- memory, the call isn't made. In both cases nothing changes.
abbrev pub Answers : ModelState → Machine → Bool → Call → Result Reply LineFault → ModelState → Type 0
Answers s m busy c (Ok (Settled a stamp)) t = (busy ≡ false) × (a ≡ reply s m c) × (stamp ≡ t.stamp) × (t ≡ next s m c)
Answers s m busy c (Ok (Busy lost stamp)) t = (busy ≡ true) × (lost ≡ 1) × (stamp ≡ s.stamp) × (t ≡ s)
Answers s m busy c (Err fault) t = (busy ≡ false) × (t ≡ s)

-- a machine takes its turn, from state z to state y: until its actuators are set, and until its part has moved
abbrev pub Takes : {S Sense Reading Act State : Type 0} → Steps S Sense Reading Act → Rig State Sense Act → Bool
    → ModelState → Side S State → TurnCall → ModelState → Side S State → Type 0
Takes t rig busy z before asked y set = Acts t rig (y ≡ z) (λ c r. Answers z t.machine busy c r y) before asked set

abbrev pub Taken : {S Sense Reading Act State : Type 0} → Steps S Sense Reading Act → Rig State Sense Act → Bool
    → ModelState → Side S State → TurnCall → ModelState → Side S State → Type 0
Taken t rig busy z before asked y now =
    ActsAndMoves t rig (y ≡ z) (λ c r. Answers z t.machine busy c r y) before asked now

-- a machine is passed over, and all stays as it is
pub record LeavesAllAsItIs {S State : Type 0} (z : ModelState) (before : Side S State) (asked : TurnCall)
    (y : ModelState) (now : Side S State) : Type 0 where
  pub asked_nothing : asked ≡ None
  pub same : y ≡ z
  pub stays : now ≡ before

-- a turn of a machine that nothing has stopped is taken
abbrev pub Leads : {S Sense Reading Act State : Type 0} → Bool → Steps S Sense Reading Act → Rig State Sense Act
    → Bool → ModelState → Side S State → TurnCall → ModelState → Side S State → Type 0
Leads true t rig busy z before asked y now = Taken t rig busy z before asked y now
Leads false t rig busy z before asked y now = LeavesAllAsItIs z before asked y now

-- over a bench, by what was asked: the history has it, the notebook a turn that is taken, and the motors' demands hold
pub record UnitTurn {S Sense Reading Act State : Type 0} (t : Steps S Sense Reading Act) (rig : Rig State Sense Act)
    (busy : Bool) (old new : Desk) (before now : Side S State) (notes notes' : Notes) (asked : TurnCall)
    : Type 0 where
  pub leads : Leads (is_none before.stopped) t rig busy old.state before asked new.state now
  pub opening : new.opening ≡ old.opening
  pub history : new.history ≡ old.history ++ settled_in t.machine asked
  pub motor_demands : DemandsHold t rig before asked now new.opening new.history
  pub noted : notes' ≡ (if is_none before.stopped then notes_with notes asked else notes)

-- what such a turn is of a unit, by its program's table and its part's rig
abbrev pub TakesBenchTurn : {P B Make S Sense Reading Act State : Type 0} → (P → Steps S Sense Reading Act)
    → (Make → Rig State Sense Act) → (B → Make) → (B → State) → Bool → Bench → Bench
    → MachineUnit P B S Sense Reading Act → MachineUnit P B S Sense Reading Act → Notebook → Notebook
    → TurnCall → Type 0
TakesBenchTurn steps rig make state busy bench bench' unit unit' notebook notebook' =
    UnitTurn (unit_table steps unit) (unit_rig rig make unit) busy (desk_of bench) (desk_of bench')
    (unit_side state unit) (unit_side state unit') (notes_of notebook) (notes_of notebook')

-- nothing has changed
pub record Untouched {S State : Type 0} (old new : Desk) (before now : Side S State) (notes notes' : Notes)
    : Type 0 where
  pub desk : new ≡ old
  pub side : now ≡ before
  pub notebook : notes' ≡ notes
