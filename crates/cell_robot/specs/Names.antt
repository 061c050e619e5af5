-- The names of this crate that other crates' definitions and proofs use, in one place.
pub use Rattle.cell_robot.specs.RobotProgram.{Acts, RobotGauges, Senses, after_done, arm1_stop}
pub use Rattle.cell_robot.specs.RobotProgram.{arm1_zone, arm2_stop, arm2_zone, choice, gauges_of, is_done, near_lines}
pub use Rattle.cell_robot.specs.RobotProgram.{notes_at, robot_rest, robot_scales, robot_start, robot_steps, row_at}
pub use Rattle.cell_robot.specs.RobotProgram.{row_of, step_after_inquiry, turns_to}
