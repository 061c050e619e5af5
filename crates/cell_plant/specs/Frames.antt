-- What an observer is shown of a run: its start, and then the cell after each turn.
use Rattle.std.specs.Prelude.{◌≡◌, ◌≢◌, ⊤, List, [], ◌∷◌, ◌++◌, All, Option, Some, None, Result, Ok, Err}
use Rattle.cell_rules.specs.Types.{Feed, Table, Robot, Press, Deposit, Crane}
use Rattle.cell_rules.specs.Names.{ModelState, IsStartState}
use Rattle.cell_notes.specs.Names.{TurnCall}
use Rattle.cell_notes.specs.declared.run_record.RunRecord.{RunRecord}
use Rattle.cell_notes.specs.declared.schedule.Turn.{Turn}
use Rattle.cell_parts.specs.Names.{CellScales, AreCellScales, NothingCollides, StaysWithin, PositionDemands}
use Rattle.cell_parts.specs.Names.{MotorDemands}
use Rattle.cell_plant.specs.declared.frame.Frame.{Frame}
use Rattle.cell_plant.specs.declared.frame.MachineSteps.{MachineSteps}
use Rattle.cell_plant.specs.declared.observer.SeenFault.{SeenFault}
use Rattle.cell_plant.specs.declared.observer.SeenFault.TheVariants.{Memory, Observer}
use Rattle.cell_plant.specs.Cells.{TellsRun}
use Rattle.cell_plant.specs.CellStates.{CellState, plant_of, statuses_in, cell_at_start}
use Rattle.cell_plant.specs.Errands.{errand_of}
use Rattle.cell_plant.specs.Machines.{CellGauges}
use Rattle.cell_plant.specs.Runs.{Step, IsRun, IsRunBy}

-- the step that each machine is at
abbrev pub steps_in : CellState → MachineSteps
steps_in w =
    record {
      feed = (w.side Feed).progress.step;
      table = (w.side Table).progress.step;
      robot = (w.side Robot).progress.step;
      press = (w.side Press).progress.step;
      deposit = (w.side Deposit).progress.step;
      crane = (w.side Crane).progress.step;
    }

-- the frame of a state, by the turn that led to it and what was asked in that turn; at the start there is neither
abbrev pub frame_of : Option Turn → TurnCall → CellState → Frame
frame_of turn asked w =
    record {
      turn = turn;
      asked = asked;
      steps = steps_in w;
      status = statuses_in w;
      state = w.interlock;
      plant = plant_of w;
    }

-- the frames of a run: of its start, and of the state that each turn leads to
abbrev pub frames_after : List Turn → List Step → List Frame
frames_after (t ∷ ts) (s ∷ ss) = frame_of (Some t) s.asked s.moved ∷ frames_after ts ss
frames_after _ _ = []

abbrev pub frames_of : ModelState → List Turn → List Step → List Frame
frames_of opening turns steps = frame_of None None (cell_at_start opening) ∷ frames_after turns steps

-- an observer is shown frames, one by one, and then is this one; the result is that of the last frame
abbrev pub IsShown : {W E : Type 0} → (W → Frame → Result (Unit {0}) E → W → Type 0) → W → List Frame
    → Result (Unit {0}) E → W → Type 0
IsShown sees w [] result v = (result ≡ Ok tt) × (v ≡ w)
IsShown sees w (f ∷ []) result v = sees w f result v
IsShown {W = W} sees w (f ∷ g ∷ fs) result v = (u : W) × (sees w f (Ok tt) u × IsShown sees u (g ∷ fs) result v)

-- an observer has seen the whole run that a record tells
pub record SeesRun {W E : Type 0} (sees : W → Frame → Result (Unit {0}) E → W → Type 0) (c : CellScales)
    (gives : CellGauges) (opening : ModelState) (turns : List Turn) (w v : W) (r : RunRecord) : Type 0 where
  pub tells : TellsRun c gives opening turns r
  pub seen : IsShown sees w (frames_of opening turns tells.steps) (Ok tt) v

-- A run ends early: after some first turns the observer failed at the frame of the last of them, or in the next turn
-- memory ran out.
abbrev pub IsCut : {E : Type 0} → SeenFault E → List Turn → Type 0
IsCut Memory rest = rest ≢ []
IsCut (Observer e) rest = ⊤

abbrev pub result_of : {E : Type 0} → SeenFault E → Result (Unit {0}) E
result_of Memory = Ok tt
result_of (Observer e) = Err e

pub record SeesBeginning {W E : Type 0} (sees : W → Frame → Result (Unit {0}) E → W → Type 0) (c : CellScales)
    (gives : CellGauges) (opening : ModelState) (turns : List Turn) (w v : W) (fault : SeenFault E) : Type 0 where
  pub taken : List Turn
  pub rest : List Turn
  pub begins : turns ≡ taken ++ rest
  pub cut : IsCut fault rest
  pub steps : List Step
  pub run : IsRunBy c gives (cell_at_start opening) taken steps
  pub seen : IsShown sees w (frames_of opening taken steps) (result_of fault) v

-- nothing collides in the cell that a frame shows, each axis is within its ends, and the interlock meets what positions
-- and motors demand
pub record IsSafeFrame (f : Frame) : Type 0 where
  pub clear : NothingCollides f.plant
  pub within : StaysWithin f.plant
  pub positions : PositionDemands f.state f.plant
  pub motors : MotorDemands (errand_of f.steps.crane) f.state f.plant

-- so it is in each frame of each run
abbrev pub FilmsAreSafe : Type 0
FilmsAreSafe =
    (c : CellScales) (opening : ModelState) (turns : List Turn) (steps : List Step)
    → AreCellScales c → IsStartState opening → IsRun c (cell_at_start opening) turns steps
    → All IsSafeFrame (frames_of opening turns steps)
