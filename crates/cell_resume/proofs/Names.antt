-- The names of other crates, and of this one's definitions, that the proofs here use.
pub use Rattle.cell_sensors.specs.Names.{IsReading, Scale, RobotScales}
pub use Rattle.cell_control.proofs.lemmas.Facts.{seen_held, seen_in}
pub use Rattle.cell_control.specs.Names.{IsReached, Steps}
pub use Rattle.cell_belts_crane.specs.Names.{crane_start, crane_steps, deposit_steps, feed_steps, first_step}
pub use Rattle.cell_belts_crane.specs.declared.crane.CraneProgress.{CraneProgress}
pub use Rattle.cell_belts_crane.specs.declared.crane.CraneStep.{CraneStep}
pub use Rattle.cell_belts_crane.specs.declared.deposit.DepositProgress.{DepositProgress}
pub use Rattle.cell_belts_crane.specs.declared.deposit.DepositStep.{DepositStep}
pub use Rattle.cell_belts_crane.specs.declared.feed.FeedProgress.{FeedProgress}
pub use Rattle.cell_belts_crane.specs.declared.feed.FeedStep.{FeedStep}
pub use Rattle.cell_resume.proofs.Flags.{one_flag, own_flag}
pub use Rattle.cell_resume.specs.Checkpoints.{AreNumbersOf, IsCheckpointOf, IsFirst, IsWrong, NamesNoStep, NamesStepAstray, place_of, place_of_fault}
pub use Rattle.cell_resume.specs.Resuming.{IsResumable, resumed_steps}
pub use Rattle.cell_resume.specs.TeamTest.{team_in, then_test}
pub use Rattle.cell_resume.specs.Teams.{AreInStep, Stood, stood}
pub use Rattle.cell_resume.specs.declared.checkpoint.Checkpoint.{Checkpoint}
pub use Rattle.cell_resume.specs.declared.fault.ResumeFault.{ResumeFault}
pub use Rattle.cell_resume.specs.declared.fault.ResumeFault.TheVariants.{NoState, NoStep, NotInStep}
pub use Rattle.cell_team.specs.Names.{Team}
pub use Rattle.cell_robot.specs.Names.{RobotGauges, after_done, choice, is_done, near_lines, notes_at, robot_start, robot_steps, row_at, step_after_inquiry}
pub use Rattle.cell_robot.specs.declared.robot.RobotNotes.{RobotNotes}
pub use Rattle.cell_robot.specs.declared.robot.RobotProgress.{RobotProgress}
pub use Rattle.cell_robot.specs.declared.robot.RobotStep.{RobotStep}
pub use Rattle.cell_rules.proofs.lemmas.Tables.{and_both, and_left, and_right}
pub use Rattle.cell_rules.specs.Names.{IsLegal, IsSound, ModelState, after, implies, is_full, one_if, own_events, same_flag}
pub use Rattle.cell_rules.specs.Types.{Arm1, Arm2, Crane, DepEnd, DepEntry, Deposit, Event, Feed, FeedEnd, FeedEntry, Machine, Moving, OpenIn, Posture, Press, PressIn, PressOut, Robot, Table, Watch, Z1, Z2, Z3, Z4, Z5, Z6}
pub use Rattle.cell_table_press.proofs.lemmas.TableFacts.{TableKnows, drives_at, table-knowing}
pub use Rattle.cell_table_press.specs.Names.{press_steps, table_steps}
pub use Rattle.cell_table_press.specs.declared.press.PressProgress.{PressProgress}
pub use Rattle.cell_table_press.specs.declared.press.PressStep.{PressStep}
pub use Rattle.cell_table_press.specs.declared.table.TableProgress.{TableProgress}
pub use Rattle.cell_table_press.specs.declared.table.TableStep.{TableStep}
pub use Rattle.cell_team.proofs.lemmas.Reaching.{AreYieldless, KnowingMore, OwnYieldless, own_yieldless, reached_both, yieldless}
pub use Rattle.std.proofs.Common.{Bool, Err, List, None, Ok, Option, Result, Some, ap, arith, eq-eqb, eqb-true, false, if◌then◌else◌, nat_eq, option_map, pos, refl, slice_get, subst, sym, true, ℕ, ℤ, ◌*◌, ◌/◌, ◌+◌, ◌<◌, ◌≤◌, ◌↔◌, ◌∙◌, ◌≡◌, ◌≢◌}
