-- The names of other crates, and of this one's definitions, that the proofs here use.
pub use Rattle.cell_sensors.specs.Names.{IsReading, Scale}
pub use Rattle.cell_sensors.specs.declared.sense.SensorFault.{SensorFault}
pub use Rattle.cell_control.specs.Names.{Performed, PerformsCall, PerformsSensed, Steps, Turned, Turns, after_answer, at_rest, fault_of, is_while_stopped, step_after_reply, turned, waits_on, waits_out, with_senses}
pub use Rattle.cell_control.specs.declared.fault.CtlFault.{CtlFault}
pub use Rattle.cell_control.specs.declared.row.Waits.TheVariants.{Never, UntilFree, UntilFreeAndOpen, UntilOwner, UntilRoom}
pub use Rattle.cell_devices.specs.declared.motor.Motor.TheVariants.{Minus, Off, Plus}
pub use Rattle.cell_belts_crane.specs.Names.{crane_start, crane_steps, deposit_start, deposit_steps, feed_start, feed_steps, first_step}
pub use Rattle.cell_belts_crane.specs.declared.crane.CraneProgress.{CraneProgress}
pub use Rattle.cell_belts_crane.specs.declared.crane.CraneStep.{CraneStep}
pub use Rattle.cell_belts_crane.specs.declared.deposit.DepositProgress.{DepositProgress}
pub use Rattle.cell_belts_crane.specs.declared.deposit.DepositStep.{DepositStep}
pub use Rattle.cell_belts_crane.specs.declared.feed.FeedProgress.{FeedProgress}
pub use Rattle.cell_belts_crane.specs.declared.feed.FeedStep.{FeedStep}
pub use Rattle.cell_parts.specs.Axes.{CellScales, robot_points}
pub use Rattle.cell_robot.specs.RobotProgram.{near_lines, notes_at, robot_steps}
pub use Rattle.cell_robot.specs.declared.robot.RobotProgress.{RobotProgress}
pub use Rattle.cell_robot.specs.declared.robot.RobotStep.{RobotStep}
pub use Rattle.cell_rules.proofs.lemmas.DoneCalls.{give_done, none_or, none_then_not, take_done, yield_done}
pub use Rattle.cell_rules.proofs.lemmas.Histories.{legal-left, sound-after}
pub use Rattle.cell_rules.proofs.lemmas.Holders.{claim_unowned, owned_as, owner_is, same_machine-self, take_owned}
pub use Rattle.cell_rules.proofs.lemmas.OwnSide.{full-foreign, posture-foreign, zone-foreign}
pub use Rattle.cell_rules.proofs.lemmas.Puts.{each_zone, put_cases, zone_in-map}
pub use Rattle.cell_rules.proofs.lemmas.SeenLemmas.{legal-right, own-append, own-push}
pub use Rattle.cell_rules.proofs.lemmas.Soundness.{done_none, next_keeps}
pub use Rattle.cell_rules.proofs.lemmas.Tables.{all_pass, all_zones, and_both, and_left, and_right, from_zones, implied}
pub use Rattle.cell_rules.specs.Names.{IsLegal, IsSameFor, IsSound, IsStart, IsStartState, ModelState, MovesIn, PlaceSet, Program, Reached, SeenAfter, Settles, Waits, after, changed, done_unless, emptied, empties, empty, event, filled, fills, give_refusal, given_by, gives, halted, has, implies, insert_place, is_belt_of, is_done_answer, is_full, is_onto_full, is_open, is_owned_by, is_party, is_received_by, moves_at, next, next_by, one_if, own_events, owner_of, owns, posed, posture_at, refusal}
pub use Rattle.cell_rules.specs.Names.{reply, restamped, runs_onto_plate, size_of, start_state, take_refusal, takes, yield_refusal, zone_at}
pub use Rattle.cell_rules.specs.Types.{Advance, AlreadyMine, Answer, Arm1, Arm2, Busy, Call, Claim, Closed, Crane, DepEnd, DepEntry, Deposit, Done, Event, Feed, FeedEnd, FeedEntry, Give, Halted, Held, Inquire, Jump, Landing, Loading, Low, Machine, Middle, Moving, NoPlate, NoPose, NotAtWork, NotOwner, NotParty, Offering, OpenIn, OpenOut, Place, PlaceFull, PlateInZone, Pose, Posture, Press, PressIn, PressOut, Refusal, Refused, Release, Reply, Resume, Robot, Running, SetPose, Settled, Shown, Shut}
pub use Rattle.cell_rules.specs.Types.{Stop, Stopped, Table, Take, Top, Transfer, Travelling, Turning, Unloading, Watch, Worn, WrongWay, Yield, Z1, Z2, Z3, Z4, Z5, Z6, Zone, guest_of, host_of, one_machine, own_move_of, posture_of, same_machine, same_posture, transfer_of}
pub use Rattle.cell_table_press.specs.declared.press.PressProgress.{PressProgress}
pub use Rattle.cell_table_press.specs.declared.press.PressStep.{PressStep}
pub use Rattle.cell_table_press.specs.declared.table.TableProgress.{TableProgress}
pub use Rattle.cell_table_press.specs.declared.table.TableStep.{TableStep}
pub use Rattle.cell_team.specs.Heeded.{NoMachineIsRefused, NoMachineIsStopped, NoneIsRefused}
pub use Rattle.cell_team.specs.Names.{AreHeeded, AreUnstopped, DrivesOn, HasCome, HaveCome, HaveComeFrom, IsHeeded, IsStoppedBy, LeadsOrStays, Programs, StandAfter, Team, first_team, is_worn, program_with_stops, programs_of, scales}
pub use Rattle.std.proofs.Common.{Bool, Err, List, None, Ok, Option, Result, Some, [], ap, append_assoc, arith, cond, false, if◌then◌else◌, inl, inr, is_none, not, pos, refl, subst, suc, sym, true, unwrap_or, zero, ℕ, ℤ, ◌&&◌, ◌++◌, ◌+◌, ◌-ℤ◌, ◌||◌, ◌∙◌, ◌∷◌, ◌≡◌, ◌≢◌, ◌≤ℤ◌, ◌≤◌}
pub use Rattle.std.specs.Bool.{then_some}
pub use Rattle.std.specs.Prelude.{⊤}
