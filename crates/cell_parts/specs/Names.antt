-- The names of this crate that other crates' definitions and proofs use, in one place.
pub use Rattle.cell_parts.specs.Axes.{AreCellScales, CellScales, IsAxisScale, IsIn, IsWithin, Span, arm_end}
pub use Rattle.cell_parts.specs.Axes.{crane_end, gripper_end, lift_end, press_end, robot_points, rotation_end, turn_end}
pub use Rattle.cell_parts.specs.Collisions.{Arm1MayLetGo, Arm2MayLetGo, CraneMayLetGo, DrivesPast, DrivesPastEnd}
pub use Rattle.cell_parts.specs.Collisions.{IsArm1AtTable, IsArm1InPress, IsArm2AtDeposit, IsArm2InPress}
pub use Rattle.cell_parts.specs.Collisions.{IsGripperDown, IsOn, IsOut, IsOverDeposit, IsOverFeed, LetsGo}
pub use Rattle.cell_parts.specs.Collisions.{NothingCollides, NothingCollidesWhenSet, PlateFalls, RestsAtBottom}
pub use Rattle.cell_parts.specs.Collisions.{RestsAtMiddle, TableMoves, arm1_at_table, arm1_in_press, arm2_at_deposit}
pub use Rattle.cell_parts.specs.Collisions.{arm2_in_press, loads_to, over_deposit_to, over_feed_from}
pub use Rattle.cell_parts.specs.Examples.{FromTo, all_free, at, belt_with, cell_with_plate_at, crane_at, driven_at}
pub use Rattle.cell_parts.specs.Examples.{empty_cell, held_by, robot_at, table_at, with_press, with_zone}
pub use Rattle.cell_parts.specs.Laws.{AllDemandsMet}
pub use Rattle.cell_parts.specs.MotorDemands.{AtDeposit, AtFeed, ErrandDemands, ForTravel, GripperErrand}
pub use Rattle.cell_parts.specs.MotorDemands.{MotorDemands, Rests, RotatesRetracted}
pub use Rattle.cell_parts.specs.Plant.{StaysWithin, crane_at_start, deposit_at_start, feed_at_start, moved_axis}
pub use Rattle.cell_parts.specs.Plant.{moved_to, press_at_start, robot_at_start, set_axis, set_belt, set_crane}
pub use Rattle.cell_parts.specs.Plant.{set_robot, table_at_start}
pub use Rattle.cell_parts.specs.PositionDemands.{HoldsIn, PositionDemands, RestsAtLoading}
pub use Rattle.cell_parts.specs.Rigs.{crane_rig, deposit_rig, feed_rig, press_rig, robot_rig, table_rig}
pub use Rattle.cell_parts.specs.Shows.{PressShows, ShowsRaw}
