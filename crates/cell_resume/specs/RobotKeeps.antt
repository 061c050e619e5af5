-- The robot's step by its number, and the step that is in step with a state.
use Rattle.std.specs.Prelude.{ℕ, Option, option_map, slice_get}
use Rattle.cell_rules.specs.Names.{ModelState}
use Rattle.cell_robot.specs.declared.robot.RobotProgress.{RobotProgress}
use Rattle.cell_robot.specs.RobotKeeps.{standing}
pub use Rattle.cell_robot.specs.RobotKeeps.{in_step, steps}

-- the step with this number, and its notes by the state
abbrev pub progress_at : ℕ → ModelState → Option RobotProgress
progress_at number s =
    option_map (λ step. standing step s)
    (slice_get steps number)
