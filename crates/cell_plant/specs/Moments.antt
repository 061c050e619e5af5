-- For the contracts of private functions: a simulation at a moment, and one turn of it.
use Rattle.std.specs.Prelude.{◌≡◌, ◌&&◌, List, [], ◌++◌, map, Some, if◌then◌else◌}
use Rattle.cell_rules.specs.Types.{Machine, Event, all_machines, journal_of, same_machine}
use Rattle.cell_rules.specs.ModelState.{ModelState}
use Rattle.cell_notes.specs.Names.{TurnCall, settled_in, at_machine, each_machine, in_order}
use Rattle.cell_notes.specs.Names.{Notes, no_notes, notes_with}
use Rattle.cell_notes.specs.declared.run_record.RunRecord.{RunRecord}
use Rattle.cell_notes.specs.declared.by_machine.ByMachine.{ByMachine}
use Rattle.cell_notes.specs.declared.schedule.Turn.{Turn}
use Rattle.cell_parts.specs.Axes.{CellScales}
use Rattle.cell_plant.specs.CellStates.{CellState, Sides, side_in, sides_at_start, plant_of, statuses_in}
use Rattle.cell_plant.specs.Records.{positions_in}
use Rattle.cell_plant.specs.Machines.{CellGauges}
use Rattle.cell_plant.specs.Runs.{Step, LeadsBy}

-- what the machines have noted
abbrev pub AllNotes : Type 0
AllNotes = ByMachine Notes

-- the scales, the gauges and the opening, which stay; the state of the interlock, the machines' sides, the history,
-- and each machine's notes
pub record RunMoment (G : Type 0) : Type 0 where
  pub scales : CellScales
  pub gauges : G
  pub opening : ModelState
  pub interlock : ModelState
  pub sides : Sides
  pub history : List Event
  pub notes : AllNotes

abbrev pub state_at : {G : Type 0} → RunMoment G → CellState
state_at m = record { interlock = m.interlock; side = side_in m.sides }

-- before the first turn
abbrev pub first_notes : AllNotes
first_notes = each_machine no_notes

abbrev pub first_moment : {G : Type 0} → CellScales → G → ModelState → RunMoment G
first_moment c gauges s =
    record {
      scales = c;
      gauges = gauges;
      opening = s;
      interlock = s;
      sides = sides_at_start s;
      history = [];
      notes = first_notes;
    }

-- a turn is a step of the run by what the gauges may give, and the machine notes what it asked
pub record StepsOn {G : Type 0} (gives : G → CellGauges) (t : Turn) (before now : RunMoment G) (asked : TurnCall)
    : Type 0 where
  pub step : Step
  pub is_asked : step.asked ≡ asked
  pub machine : step.machine ≡ t.machine
  pub leads : LeadsBy before.scales (gives before.gauges) t.machine t.busy (state_at before) step
  pub state : state_at now ≡ step.moved
  pub history : now.history ≡ before.history ++ settled_in t.machine step.asked
  pub notes : (n : Machine) → at_machine now.notes n ≡ (if step.taken
      && same_machine t.machine n then notes_with
      (at_machine before.notes n) step.asked else at_machine before.notes n)
  pub scales : now.scales ≡ before.scales
  pub gauges : now.gauges ≡ before.gauges
  pub opening : now.opening ≡ before.opening

-- the record of the run so far
pub record IsRecordSoFar {G : Type 0} (m : RunMoment G) (opening : ModelState) (r : RunRecord) : Type 0 where
  pub start : r.start ≡ opening
  pub counts : r.counts ≡ map (λ n. (at_machine m.notes n).counts) all_machines
  pub status : r.status ≡ in_order (statuses_in (state_at m))
  pub journals : (n : Machine) → journal_of r.journals n ≡ (at_machine m.notes n).journal
  pub end : r.end ≡ Some m.interlock
  pub axes : r.axes ≡ positions_in (plant_of (state_at m))
