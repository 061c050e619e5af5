-- What a record says of a simulated run, whichever the schedule, the opening and the gauges.
use Rattle.std.specs.Prelude.{◌≡◌, ◌≤◌, ◌&&◌, ◌++◌, ℕ, true, List, [], ◌∷◌, length, count_by, Option, Some, None}
use Rattle.std.specs.Prelude.{if◌then◌else◌}
use Rattle.cell_rules.specs.Types.{Machine, Feed, Table, Robot, Press, Deposit, Crane, Watch, journal_of, same_machine}
use Rattle.cell_rules.specs.Names.{IsLegal, IsStartState, ModelState, after, noted}
use Rattle.cell_notes.specs.Names.{TurnCall, counts_with, no_counts, settled_in, values_of}
use Rattle.cell_notes.specs.declared.run_record.RunRecord.{RunRecord}
use Rattle.cell_notes.specs.declared.schedule.Turn.{Turn}
use Rattle.cell_unit.specs.Statuses.{status_of}
use Rattle.cell_parts.specs.Axes.{CellScales}
use Rattle.cell_parts.specs.Names.{AreCellScales, MotorDemands, NothingCollides, NothingCollidesWhenSet}
use Rattle.cell_parts.specs.Names.{PositionDemands, StaysWithin}
use Rattle.cell_plant.specs.Cells.{TellsRun}
use Rattle.cell_plant.specs.CellStates.{CellState, cell_at_start, plant_of}
use Rattle.cell_plant.specs.Errands.{errand_of}
use Rattle.cell_plant.specs.Frames.{frame_of, frames_after, frames_of}
use Rattle.cell_plant.specs.Machines.{CellGauges, any_near}
use Rattle.cell_plant.specs.Records.{counts_in, events_in}
use Rattle.cell_plant.specs.Runs.{IsRun, IsRunBy, LeadsBy, Step, end_of}

-- how many turns of a schedule are a machine's
abbrev pub turns_of : Machine → List Turn → ℕ
turns_of m turns = count_by (λ t. same_machine t.machine m) turns

-- each field of the record, by the run's last state; how many turns each machine had: all that the schedule gives it,
-- unless it has stopped; and the last state is safe
pub record RunIsTold (c : CellScales) (gives : CellGauges) (opening : ModelState) (turns : List Turn) (r : RunRecord)
    (k : TellsRun c gives opening turns r) (last : CellState) : Type 0 where
  pub one_step_each : length k.steps ≡ length turns
  pub run : IsRunBy c gives (cell_at_start opening) turns k.steps
  pub start : r.start ≡ opening
  pub legal : IsLegal opening (events_in k.steps)
  pub end : r.end ≡ Some (after opening (events_in k.steps))
  pub journals : (m : Machine) → journal_of r.journals m ≡ noted opening (events_in k.steps) m
  pub axes : r.axes
      ≡ (last.side Press).part.position ∷ (last.side Robot).part.arm1.position
      ∷ (last.side Robot).part.arm2.position ∷ (last.side Robot).part.rotation.position
      ∷ (last.side Table).part.lift.position ∷ (last.side Table).part.turn.position
      ∷ (last.side Crane).part.travel.position ∷ (last.side Crane).part.gripper.position ∷ []
  pub status : r.status
      ≡ status_of (last.side Feed).stopped ∷ status_of (last.side Table).stopped
      ∷ status_of (last.side Robot).stopped ∷ status_of (last.side Press).stopped
      ∷ status_of (last.side Deposit).stopped ∷ status_of (last.side Crane).stopped
      ∷ status_of (last.side Watch).stopped ∷ []
  pub counts : r.counts
      ≡ counts_in k.steps Feed ∷ counts_in k.steps Table ∷ counts_in k.steps Robot ∷ counts_in k.steps Press
      ∷ counts_in k.steps Deposit ∷ counts_in k.steps Crane ∷ counts_in k.steps Watch ∷ []
  pub had_its_turns : (m : Machine) → (last.side m).stopped ≡ None → (counts_in k.steps m).turns ≡ turns_of m turns
  pub had_no_more : (m : Machine) → (counts_in k.steps m).turns ≤ turns_of m turns
  pub clear : NothingCollides (plant_of last)
  pub within : StaysWithin (plant_of last)

abbrev pub RunsAreTold : CellScales → CellGauges → Type 0
RunsAreTold c gives =
    (opening : ModelState) (turns : List Turn) (r : RunRecord) (k : TellsRun c gives opening turns r)
    → RunIsTold c gives opening turns r k (end_of (cell_at_start opening) k.steps)

-- what another turn adds to a run: its step, the state after it, its events and counts, and its frame
pub record RunsGrow (c : CellScales) (gives : CellGauges) : Type 0 where
  pub no_event : events_in [] ≡ []
  pub no_count : (m : Machine) → counts_in [] m ≡ no_counts
  pub first_frame : (opening : ModelState) → frames_of opening [] [] ≡ frame_of None None (cell_at_start opening) ∷ []
  pub step : (w : CellState) (ts : List Turn) (ss : List Step) (t : Turn) (s : Step) → IsRunBy c gives w ts ss
      → s.machine ≡ t.machine → LeadsBy c gives t.machine t.busy (end_of w ss) s
      → IsRunBy c gives w (ts ++ t ∷ []) (ss ++ s ∷ [])
  pub only_step : (w : CellState) (ts : List Turn) (ss : List Step) (t : Turn) (s : Step) → length ss ≡ length ts
      → IsRunBy c gives w (ts ++ t ∷ []) (ss ++ s ∷ [])
      → IsRunBy c gives w ts ss × (s.machine ≡ t.machine) × LeadsBy c gives t.machine t.busy (end_of w ss) s
  pub state : (w : CellState) (ss : List Step) (s : Step) → end_of w (ss ++ s ∷ []) ≡ s.moved
  pub events : (ss : List Step) (s : Step)
      → events_in (ss ++ s ∷ []) ≡ events_in ss ++ settled_in s.machine s.asked
  pub counts : (ss : List Step) (s : Step) (m : Machine) → counts_in (ss ++ s ∷ []) m
      ≡ (if s.taken && same_machine s.machine m then counts_with (counts_in ss m) s.asked else counts_in ss m)
  pub frame : (w : CellState) (ts : List Turn) (ss : List Step) (t : Turn) (s : Step) → IsRunBy c gives w ts ss
      → frames_after (ts ++ t ∷ []) (ss ++ s ∷ []) ≡ frames_after ts ss ++ frame_of (Some t) s.asked s.moved ∷ []
  pub shown : (turn : Option Turn) (asked : TurnCall) (w : CellState) → frame_of turn asked w
      ≡ record {
        turn = turn;
        asked = asked;
        steps = record {
          feed = (w.side Feed).progress.step;
          table = (w.side Table).progress.step;
          robot = (w.side Robot).progress.step;
          press = (w.side Press).progress.step;
          deposit = (w.side Deposit).progress.step;
          crane = (w.side Crane).progress.step;
        };
        status = values_of (λ m. status_of (w.side m).stopped);
        state = w.interlock;
        plant = record {
          feed = (w.side Feed).part;
          table = (w.side Table).part;
          robot = (w.side Robot).part;
          press = (w.side Press).part;
          deposit = (w.side Deposit).part;
          crane = (w.side Crane).part;
        };
      }

-- Whatever the schedule and the start are, by any readings near the lines: where a run has come nothing collides, each
-- axis is within its ends, and positions and motors have what they demand. So it is once the motors of another turn are
-- set.
abbrev pub ComesTo : CellScales → ModelState → List Turn → List Step → CellState → Type 0
ComesTo c opening turns steps w =
    AreCellScales c × IsStartState opening × IsRun c (cell_at_start opening) turns steps
    × (w ≡ end_of (cell_at_start opening) steps)

pub record EndsSafely (c : CellScales) : Type 0 where
  pub clear : (opening : ModelState) (turns : List Turn) (steps : List Step) (w : CellState)
      → ComesTo c opening turns steps w → NothingCollides (plant_of w)
  pub within : (opening : ModelState) (turns : List Turn) (steps : List Step) (w : CellState)
      → ComesTo c opening turns steps w → StaysWithin (plant_of w)
  pub positions : (opening : ModelState) (turns : List Turn) (steps : List Step) (w : CellState)
      → ComesTo c opening turns steps w → PositionDemands w.interlock (plant_of w)
  pub motors : (opening : ModelState) (turns : List Turn) (steps : List Step) (w : CellState)
      → ComesTo c opening turns steps w
      → MotorDemands (errand_of (w.side Crane).progress.step) w.interlock (plant_of w)
  pub set : (opening : ModelState) (turns : List Turn) (steps : List Step) (w : CellState) (t : Turn) (s : Step)
      → ComesTo c opening turns steps w → s.machine ≡ t.machine → LeadsBy c (any_near c) t.machine t.busy w s
      → s.taken ≡ true → NothingCollidesWhenSet s.machine (plant_of w) (plant_of s.set)
