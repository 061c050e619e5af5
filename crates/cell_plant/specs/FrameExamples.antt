-- The frames of a literal run, and films that are wrong in one thing.
use Rattle.std.specs.Prelude.{◌≡◌, false, List, [], ◌∷◌, ◌++◌, Some, None, Result, Ok, Err}
use Rattle.cell_rules.specs.Types.{Table, Robot, Deposit, Crane}
use Rattle.cell_rules.specs.Types.{Feed, Press, Watch, Z1, Z3, Z6, Closed, Claim, Stop, Done, Refused, Shut, Settled}
use Rattle.cell_rules.specs.Types.{Busy, FeedEnd}
use Rattle.cell_devices.specs.declared.motor.Motor.TheVariants.{Minus}
use Rattle.cell_rules.specs.declared.heard.LineFault.TheVariants.{Memory as NoRoom}
use Rattle.cell_belts_crane.specs.declared.feed.FeedStep.TheVariants as feed
use Rattle.cell_belts_crane.specs.declared.deposit.DepositStep.TheVariants as deposit
use Rattle.cell_belts_crane.specs.declared.crane.CraneStep.TheVariants as crane
use Rattle.cell_robot.specs.declared.robot.RobotStep.TheVariants as robot
use Rattle.cell_table_press.specs.declared.press.PressStep.TheVariants as press
use Rattle.cell_table_press.specs.declared.table.TableStep.TheVariants as table
use Rattle.cell_notes.specs.Names.{each_machine, with_machine}
use Rattle.cell_notes.specs.declared.schedule.Turn.{Turn}
use Rattle.cell_notes.specs.declared.status.Status.TheVariants.{Fine, Worn, Sensor, Memory}
use Rattle.cell_notes.specs.declared.status.Status.TheVariants.{Refused as WasRefused}
use Rattle.cell_parts.specs.Names.{cell_with_plate_at, driven_at, belt_with, with_press}
use Rattle.cell_parts.specs.declared.plant.PlantState.{PlantState}
use Rattle.cell_plant.specs.declared.frame.Frame.{Frame}
use Rattle.cell_plant.specs.declared.frame.MachineSteps.{MachineSteps}
use Rattle.cell_plant.specs.declared.observer.SeenFault.TheVariants as ends
use Rattle.cell_plant.specs.Frames.{IsCut, IsShown, frame_of, frames_of}
use Rattle.cell_plant.specs.Runs.{Step}
use Rattle.cell_plant.specs.CellStates.{CellState, statuses_in}
use Rattle.cell_unit.specs.Statuses.{status_of}
use Rattle.cell_plant.specs.RecordExamples.{axes_apart, last_apart}
use Rattle.cell_plant.specs.RunExamples.{opening, entered, stopped, schedule, steps, turn_of, busy_turn_of}
use Rattle.cell_plant.specs.RunExamples.{claims_entry, press_falls}

-- ---- the frames of the literal run

-- each machine is at its first step; the feed belt has entered
abbrev pub first_steps : MachineSteps
first_steps = record {
  feed = feed.ClaimEntry;
  table = table.ClaimEntry;
  robot = robot.TurnToTable;
  press = press.ClaimFirst;
  deposit = deposit.ClaimEntry;
  crane = crane.RaiseToFetch;
}

abbrev pub steps_entered : MachineSteps
steps_entered = record first_steps { feed = feed.ClaimExit }

-- before the first turn; after the feed belt has claimed its entry
abbrev pub starts : Frame
starts =
    record {
      turn = None;
      asked = None;
      steps = first_steps;
      status = each_machine Fine;
      state = opening;
      plant = cell_with_plate_at FeedEnd;
    }

abbrev pub has_claimed : Frame
has_claimed = record starts {
  turn = Some (turn_of Feed);
  asked = Some (Claim Z6, Ok (Settled Done 1));
  steps = steps_entered;
  state = entered;
}

-- the press finds the interlock busy; the feed belt is refused its exit; there is no room for the press's claim
abbrev pub found_busy : Frame
found_busy = record has_claimed { turn = Some (busy_turn_of Press); asked = Some (Claim Z3, Ok (Busy 1 1)) }

abbrev pub was_refused : Frame
was_refused = record has_claimed { asked = Some (Claim Z1, Ok (Settled (Refused (Shut Closed)) 1)) }

abbrev pub found_no_room : Frame
found_no_room = record has_claimed {
  turn = Some (turn_of Press);
  asked = Some (Claim Z3, Err NoRoom);
  status = with_machine (each_machine Fine) Press Memory;
}

-- the press has stopped, so that its turn isn't taken; the watch stops the cell
abbrev pub passed_over : Frame
passed_over = record found_no_room { asked = None }

abbrev pub has_stopped : Frame
has_stopped = record found_no_room {
  turn = Some (turn_of Watch);
  asked = Some (Stop, Ok (Settled Done 2));
  state = stopped;
}

abbrev pub film : List Frame
film = starts ∷ has_claimed ∷ found_busy ∷ was_refused ∷ found_no_room ∷ passed_over ∷ has_stopped ∷ []

-- ---- films that are wrong in one thing

-- the film of the first turn, of the first two, and of a press that falls, by their last frames
abbrev pub IsFilm : List Turn → List Step → List Frame → Type 0
IsFilm turns steps frames = frames_of opening turns steps ≡ frames

abbrev pub FirstIs : Frame → Type 0
FirstIs f = IsFilm (turn_of Feed ∷ []) (claims_entry ∷ []) (starts ∷ f ∷ [])

-- machines that differ; the table's height instead of the robot's first arm, and the other way round
abbrev pub shown_apart : PlantState
shown_apart = record axes_apart { feed = belt_with (Some 900) false }

abbrev pub axes_swapped : PlantState → PlantState
axes_swapped p = record p {
  robot = record (p.robot) { arm1 = p.table.lift };
  table = record (p.table) { lift = p.robot.arm1 };
}

pub record WrongFilms : Type 0 where
  pub state_before : ¬ FirstIs (record has_claimed { state = opening })
  pub step_before : ¬ FirstIs (record has_claimed { steps = first_steps })
  pub asks_nothing : ¬ FirstIs (record has_claimed { asked = None })
  pub told_as_refused : ¬ IsFilm schedule steps (starts ∷ has_claimed
      ∷ record found_busy { asked = Some (Claim Z3, Ok (Settled (Refused (Shut Closed)) 1)) } ∷ was_refused
      ∷ found_no_room ∷ passed_over ∷ has_stopped ∷ [])
  pub told_as_free : ¬ IsFilm schedule steps (starts ∷ has_claimed ∷ record found_busy { turn = Some (turn_of Press) }
      ∷ was_refused ∷ found_no_room ∷ passed_over ∷ has_stopped ∷ [])
  pub start_left_out : ¬ IsFilm [] [] []
  pub frame_left_out : ¬ IsFilm schedule steps (starts ∷ has_claimed ∷ found_busy ∷ was_refused ∷ found_no_room
      ∷ has_stopped ∷ [])
  pub frame_twice : ¬ IsFilm (turn_of Feed ∷ []) (claims_entry ∷ []) (starts ∷ has_claimed ∷ has_claimed ∷ [])
  pub frames_swapped : ¬ IsFilm (turn_of Feed ∷ []) (claims_entry ∷ []) (has_claimed ∷ starts ∷ [])

-- ---- what an observer is shown

-- an observer that keeps each frame, and never fails; one that fails at its first frame
abbrev pub Keeps : List Frame → Frame → Result (Unit {0}) (Unit {0}) → List Frame → Type 0
Keeps kept f result now = (result ≡ Ok tt) × (now ≡ kept ++ f ∷ [])

abbrev pub Fails : List Frame → Frame → Result (Unit {0}) (Unit {0}) → List Frame → Type 0
Fails kept f result now = (result ≡ Err tt) × (now ≡ kept)

pub record ShownExamples : Type 0 where
  pub keeps_all : (frames now : List Frame) → IsShown Keeps [] frames (Ok tt) now → now ≡ frames
  pub can_keep : (frames : List Frame) → IsShown Keeps [] frames (Ok tt) frames
  pub never_fails : (frames now : List Frame) → ¬ IsShown Keeps [] frames (Err tt) now
  pub fails_at_once : (frames now : List Frame) → IsShown Fails [] frames (Err tt) now
      → (f : Frame) × (frames ≡ f ∷ []) × (now ≡ [])
  -- memory runs out in a turn, so one is left; an observer may fail at the last frame
  pub turn_is_left : IsCut {E = Unit {0}} ends.Memory (turn_of Feed ∷ [])
  pub no_turn_is_left : ¬ IsCut {E = Unit {0}} ends.Memory []
  pub fails_last : IsCut {E = Unit {0}} (ends.Observer tt) []

-- each machine's status is by what has stopped it
pub record StatusesAreTheirs (w : CellState) : Type 0 where
  pub feed : (statuses_in w).feed ≡ status_of (w.side Feed).stopped
  pub table : (statuses_in w).table ≡ status_of (w.side Table).stopped
  pub robot : (statuses_in w).robot ≡ status_of (w.side Robot).stopped
  pub press : (statuses_in w).press ≡ status_of (w.side Press).stopped
  pub deposit : (statuses_in w).deposit ≡ status_of (w.side Deposit).stopped
  pub crane : (statuses_in w).crane ≡ status_of (w.side Crane).stopped
  pub watch : (statuses_in w).watch ≡ status_of (w.side Watch).stopped

-- ---- all of these

-- a press that falls is shown with its motor on; machines that differ are shown as they are
pub record FrameExamples : Type 0 where
  pub literal : IsFilm schedule steps film
  pub no_turn : IsFilm [] [] (starts ∷ [])
  pub falls : (frame_of None None (press_falls (driven_at 980 Minus))).plant ≡ with_press (driven_at 980 Minus)
  pub apart : (frame_of None None last_apart).plant ≡ shown_apart
  pub axes_are_apart : ¬ ((frame_of None None last_apart).plant ≡ axes_swapped shown_apart)
  pub status_apart : (frame_of None None last_apart).status ≡ record {
    feed = Fine;
    table = Worn;
    robot = Sensor;
    press = WasRefused;
    deposit = Fine;
    crane = Memory;
    watch = Worn;
  }
  pub statuses : (w : CellState) → StatusesAreTheirs w
  pub wrong : WrongFilms
  pub shown : ShownExamples
