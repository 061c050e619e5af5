-- The names of this crate that other crates' definitions and proofs use, in one place.
pub use Rattle.cell_belts_crane.specs.CraneProgram.{Acts, Senses, after_done, crane_start, crane_steps, first_step}
pub use Rattle.cell_belts_crane.specs.CraneProgram.{gripper_stop, gripper_zone, is_done, row_at, row_of, step_after_inquiry}
pub use Rattle.cell_belts_crane.specs.DepositProgram.{by_plates, deposit_start, deposit_steps, with_plates}
pub use Rattle.cell_belts_crane.specs.FeedProgram.{feed_start, feed_steps}
