-- The scales of the plant's axes, and the ends within which they stay, in numbers.
use Rattle.std.specs.Prelude.{◌≡◌, pos, neg_ℤ}
use Rattle.cell_rules.specs.Types.{Feed, Deposit, Watch, Press}
use Rattle.cell_devices.specs.declared.motor.Motor.TheVariants.{Plus, Minus}
use Rattle.cell_sensors.specs.Examples.{scale_of}
use Rattle.cell_parts.specs.declared.plant.PlantState.{PlantState}
use Rattle.cell_parts.specs.Axes.{CellScales, robot_points, AreCellScales, IsAxisScale, IsWithin}
use Rattle.cell_parts.specs.Plant.{StaysWithin}
use Rattle.cell_parts.specs.Collisions.{DrivesPastEnd}
use Rattle.cell_parts.specs.Examples.{empty_cell, at, driven_at, robot_at, table_at, crane_at, with_press, with_arm1}
use Rattle.cell_parts.specs.Examples.{with_arm2, with_rotation, with_lift, with_turn, with_travel, with_gripper}
use Rattle.cell_parts.specs.PartExamples.{odd_arm1, odd_arm2, odd_rotation, odd_turn, odd_gripper, odd_robot, scale_to}
use Rattle.cell_parts.specs.PartExamples.{three_for_two}

-- a scale of an axis has its ends, and at least as many raw values as positions
pub record AxisScaleExamples : Type 0 where
  pub wide : IsAxisScale (pos 1000) three_for_two
  pub as_wide_as_the_axis : IsAxisScale (pos 500) (scale_to 500 5 505)
  pub too_narrow : ¬ IsAxisScale (pos 500) (scale_to 500 5 504)
  pub starts_elsewhere : ¬ IsAxisScale (pos 500) (scale_of 0 600 (pos 1) (pos 500))
  pub starts_below : ¬ IsAxisScale (pos 500) (scale_of 0 600 (neg_ℤ (pos 1)) (pos 500))
  pub ends_before : ¬ IsAxisScale (pos 500) (scale_to 499 0 600)
  pub ends_after : ¬ IsAxisScale (pos 500) (scale_to 501 0 600)
  pub no_scale : ¬ IsAxisScale (pos 500) (record (scale_to 500 0 600) { tol = pos 0 })

-- one scale for each potentiometer
abbrev pub odd_cell : CellScales
odd_cell = record {
  arm1 = odd_arm1;
  arm2 = odd_arm2;
  rotation = odd_rotation;
  turn = odd_turn;
  gripper = odd_gripper;
}

pub record CellScaleExamples : Type 0 where
  pub odd : AreCellScales odd_cell
  pub robot : robot_points odd_cell ≡ odd_robot
  pub arm1 : ¬ AreCellScales (record odd_cell { arm1 = odd_turn })
  pub arm2 : ¬ AreCellScales (record odd_cell { arm2 = odd_rotation })
  pub rotation : ¬ AreCellScales (record odd_cell { rotation = odd_arm1 })
  pub turn : ¬ AreCellScales (record odd_cell { turn = odd_arm2 })
  pub gripper : ¬ AreCellScales (record odd_cell { gripper = odd_rotation })

-- each axis at its end, and each a step beyond it
abbrev pub at_its_ends : PlantState
at_its_ends = record empty_cell {
  robot = robot_at (at 1000) (at 1000) (at 2000);
  table = table_at (at 600) (at 500);
  press = at 1000;
  crane = crane_at (at 2000) (at 1000);
}

pub record WithinExamples : Type 0 where
  pub first : IsWithin (pos 600) (pos 0)
  pub last : IsWithin (pos 600) (pos 600)
  pub before_first : ¬ IsWithin (pos 600) (neg_ℤ (pos 1))
  pub after_last : ¬ IsWithin (pos 600) (pos 601)
  pub at_start : StaysWithin empty_cell
  pub at_ends : StaysWithin at_its_ends
  pub press : ¬ StaysWithin (with_press (at 1001))
  pub arm1 : ¬ StaysWithin (with_arm1 (at 1001))
  pub arm2 : ¬ StaysWithin (with_arm2 (at 1001))
  pub rotation : ¬ StaysWithin (with_rotation (at 2001))
  pub lift : ¬ StaysWithin (with_lift (at 601))
  pub turn : ¬ StaysWithin (with_turn (at 501))
  pub travel : ¬ StaysWithin (with_travel (at 2001))
  pub gripper : ¬ StaysWithin (with_gripper (at 1001))
  pub feed_drives_no_axis : ¬ DrivesPastEnd Feed (with_press (driven_at 0 Minus))
  pub deposit_drives_no_axis : ¬ DrivesPastEnd Deposit (with_lift (driven_at 600 Plus))
  pub watch_drives_no_axis : ¬ DrivesPastEnd Watch (with_gripper (driven_at 0 Minus))
  pub press_drives_no_table : ¬ DrivesPastEnd Press (with_turn (driven_at 0 Minus))

pub record AxesAreMet : Type 0 where
  pub scales : AxisScaleExamples
  pub cell : CellScaleExamples
  pub within : WithinExamples
