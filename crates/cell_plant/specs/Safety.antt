-- Runs in which nothing collides.
use Rattle.std.specs.Prelude.{◌≡◌, true, List, [], ◌∷◌}
use Rattle.cell_types.specs.declared.machine.Machine.TheVariants.{Crane}
use Rattle.cell_rules.specs.Names.{ModelState, IsStartState}
use Rattle.cell_parts.specs.Names.{CellScales, AreCellScales, NothingCollides, NothingCollidesWhenSet, StaysWithin}
use Rattle.cell_parts.specs.Names.{PositionDemands, MotorDemands}
use Rattle.cell_notes.specs.declared.schedule.Turn.{Turn}
use Rattle.cell_plant.specs.CellStates.{CellState, plant_of, cell_at_start}
use Rattle.cell_plant.specs.Runs.{Step, IsRun}
use Rattle.cell_plant.specs.Errands.{errand_of}

-- A state is safe if nothing collides, each axis is within its ends, and the interlock meets what positions and motors
-- demand, also for motors that an earlier turn left on. The crane's step says why the gripper is driven.
pub record IsSafeState (w : CellState) : Type 0 where
  pub clear : NothingCollides (plant_of w)
  pub within : StaysWithin (plant_of w)
  pub positions : PositionDemands w.interlock (plant_of w)
  pub motors : MotorDemands (errand_of (w.side Crane).progress.step) w.interlock (plant_of w)

-- likewise once the motors of a turn are set
pub record IsSafelySet (w : CellState) (s : Step) : Type 0 where
  pub clear : s.taken ≡ true → NothingCollidesWhenSet s.machine (plant_of w) (plant_of s.set)
  pub state : IsSafeState s.set

-- each state of a run is safe
abbrev pub IsSafeRun : CellState → List Step → Type 0
IsSafeRun w [] = IsSafeState w
IsSafeRun w (s ∷ ss) = IsSafeState w × (IsSafelySet w s × IsSafeRun s.moved ss)

-- every run is safe, for every schedule, every start, and every calibration that is near its line
abbrev pub EveryRunIsSafe : Type 0
EveryRunIsSafe =
    (c : CellScales) (opening : ModelState) (turns : List Turn) (steps : List Step)
    → AreCellScales c → IsStartState opening → IsRun c (cell_at_start opening) turns steps
    → IsSafeRun (cell_at_start opening) steps
