-- The record of a run.
use Rattle.std.specs.Prelude.{◌≡◌, ◌≢◌, ℤ, Bool, ◌&&◌, List, [], ◌∷◌, ◌++◌, map, count_by, Some, Result}
use Rattle.std.specs.List.{All}
use Rattle.cell_rules.specs.Types.{Machine, Event, Reply, all_machines, journal_of, same_machine}
use Rattle.cell_rules.specs.Names.{ModelState, noted}
use Rattle.cell_rules.specs.declared.heard.LineFault.{LineFault}
use Rattle.cell_notes.specs.Names.{came_back, is_done_reply, is_read_reply, is_refused_reply, is_busy_reply}
use Rattle.cell_notes.specs.Names.{in_order, settled_in}
use Rattle.cell_notes.specs.declared.counts.Counts.{Counts}
use Rattle.cell_notes.specs.declared.run_record.RunRecord.{RunRecord}
use Rattle.cell_notes.specs.declared.status.Status.TheVariants.{Refused}
use Rattle.cell_parts.specs.declared.plant.PlantState.{PlantState}
use Rattle.cell_plant.specs.CellStates.{CellState, plant_of, statuses_in}
use Rattle.cell_plant.specs.Runs.{Step}

-- a step was a turn of this machine; and it got back something of this kind
abbrev pub is_turn_of : Machine → Step → Bool
is_turn_of m s = s.taken && same_machine s.machine m

abbrev pub is_told : (Result Reply LineFault → Bool) → Machine → Step → Bool
is_told test m s = is_turn_of m s && came_back test s.asked

abbrev pub counts_in : List Step → Machine → Counts
counts_in steps m =
    record {
      turns = count_by (is_turn_of m) steps;
      done = count_by (is_told is_done_reply m) steps;
      read = count_by (is_told is_read_reply m) steps;
      refused = count_by (is_told is_refused_reply m) steps;
      busy = count_by (is_told is_busy_reply m) steps;
    }

-- the events of a run: the calls that it settled
abbrev pub events_in : List Step → List Event
events_in [] = []
events_in (s ∷ ss) = settled_in s.machine s.asked ++ events_in ss

-- the positions of the axes, in the order of reports
abbrev pub positions_in : PlantState → List ℤ
positions_in p =
    p.press.position
    ∷ p.robot.arm1.position
    ∷ p.robot.arm2.position
    ∷ p.robot.rotation.position
    ∷ p.table.lift.position
    ∷ p.table.turn.position
    ∷ p.crane.travel.position
    ∷ p.crane.gripper.position
    ∷ []

-- a record is of a run from an opening: where it began and ended, what each machine did and noted, its status, and the
-- positions of the axes
pub record IsRecordOf (opening : ModelState) (steps : List Step) (last : CellState) (r : RunRecord) : Type 0 where
  pub start : r.start ≡ opening
  pub counts : r.counts ≡ map (counts_in steps) all_machines
  pub status : r.status ≡ in_order (statuses_in last)
  pub journals : (m : Machine) → journal_of r.journals m ≡ noted opening (events_in steps) m
  pub end : r.end ≡ Some last.interlock
  pub axes : r.axes ≡ positions_in (plant_of last)

-- no machine has been stopped by a refusal, nor the watch
abbrev pub NoneRefused : RunRecord → Type 0
NoneRefused r = All (λ s. s ≢ Refused) r.status
