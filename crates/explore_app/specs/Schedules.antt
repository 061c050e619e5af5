-- Schedules that lead a simulated cell to what was found.
use Rattle.std.specs.Prelude.{◌≡◌, ℕ, true, List, [], ◌∷◌, ◌++◌, Option, Some, Result, Ok, Err}
use Rattle.std.specs.Option.{option_to_list}
use Rattle.cell_rules.specs.Types.{Call, Machine, Settled}
use Rattle.cell_rules.specs.Names.{reply, restamped}
use Rattle.cell_notes.specs.Names.{at_machine}
use Rattle.cell_notes.specs.declared.schedule.Turn.{Turn}
use Rattle.cell_parts.specs.Axes.{CellScales}
use Rattle.cell_plant.specs.Names.{IsRunBy, Step, cell_at_start, frames_of, on_curves}
use Rattle.cell_plant.specs.declared.frame.Frame.{Frame}
use Rattle.cell_plant.specs.declared.frame.MachineSteps.{MachineSteps}
use Rattle.cell_config.specs.Configured.{in_order}
use Rattle.cell_config.specs.Settings.{Settings}
use Rattle.cell_explorer.specs.declared.situation.Situation.{Situation}
use Rattle.cell_explorer.specs.declared.walk.Walk.{Walk}
use Rattle.explore_app.specs.declared.ending.Ending.{Ending}
use Rattle.explore_app.specs.declared.schedule.SeekEnd.{SeekEnd}
use Rattle.explore_app.specs.declared.schedule.SeekEnd.TheVariants.{Memory}
use Rattle.explore_app.specs.Rings.{is_about}

-- a run of a schedule, in the cell of a configuration and from its start, ends with this frame: each reading is the one
-- on its curve
pub record EndsWith (given : Settings) (schedule : List Turn) (last : Frame) : Type 0 where
  pub scales : CellScales
  pub fits : given.points ≡ in_order scales
  pub steps : List Step
  pub run : IsRunBy scales (on_curves given.curves) (cell_at_start given.start) schedule steps
  pub before : List Frame
  pub ends : frames_of given.start schedule steps ≡ before ++ last ∷ []

-- the step that each machine is at in a situation
abbrev pub steps_of : Situation → MachineSteps
steps_of at =
    record {
      feed = at.feed.step;
      table = at.table.step;
      robot = at.robot.step;
      press = at.press.step;
      deposit = at.deposit.step;
      crane = at.crane.step;
    }

-- a frame shows a situation: its interlock, but for the stamp, and the machines' steps
pub record IsAt (f : Frame) (at : Situation) : Type 0 where
  pub steps : f.steps ≡ steps_of at
  pub state : restamped f.state 0 ≡ at.state

-- in the turn of a frame this was asked, and answered as this machine is answered in a situation
abbrev pub WasAsked : Frame → Machine → Call → Situation → Type 0
WasAsked f m call at = (stamp : ℕ) × (f.asked ≡ Some (call, Ok (Settled (reply at.state m call) stamp)))

-- a schedule leads to a situation
pub record LeadsTo (given : Settings) (at : Situation) (schedule : List Turn) : Type 0 where
  pub last : Frame
  pub played : EndsWith given schedule last
  pub there : IsAt last at

-- a schedule ends with a turn in which a machine that an ending is about asks what it asks at a walk's end, and is
-- answered as there
pub record EndsAsking (given : Settings) (e : Ending) (walk : Walk) (schedule : List Turn) (last : Frame)
    : Type 0 where
  pub played : EndsWith given schedule last
  pub machine : Machine
  pub about : is_about e (at_machine walk.next machine).prospect ≡ true
  pub call : Call
  pub asks : (at_machine walk.next machine).call ≡ Some call
  pub answered : WasAsked last machine call walk.end

-- and it leads to the walk's end
pub record LeadsToEnding (given : Settings) (e : Ending) (walk : Walk) (schedule : List Turn) : Type 0 where
  pub last : Frame
  pub asked : EndsAsking given e walk schedule last
  pub there : IsAt last walk.end

-- ---- for the contracts of private functions

-- unless memory ran out, a seeker has noted a frame as the last, and its turn after those before
abbrev pub IfNoted : Result (Unit {0}) SeekEnd → Type 0 → Type 0
IfNoted (Err Memory) P = Unit {0}
IfNoted _ P = P

abbrev pub NotesFrame : List Turn → Frame → List Turn → Option Frame → Type 0
NotesFrame old f new last = (new ≡ old ++ option_to_list f.turn) × (last ≡ Some f)
