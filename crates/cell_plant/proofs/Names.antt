-- The names of other crates, and of this one's definitions, that the proofs here use.
pub use Rattle.cell_sensors.proofs.lemmas.LineLemmas.{near_position_lem, one_raw_at}
pub use Rattle.cell_sensors.specs.Names.{IsNear, IsReading, IsScale, Scale, raw_width, RobotScales}
pub use Rattle.cell_sensors.specs.declared.sense.CraneSense.{CraneSense}
pub use Rattle.cell_sensors.specs.declared.sense.FeedSense.{FeedSense}
pub use Rattle.cell_sensors.specs.declared.sense.PressSense.{PressSense}
pub use Rattle.cell_sensors.specs.declared.sense.RobotSense.{RobotSense}
pub use Rattle.cell_sensors.specs.declared.sense.SensorFault.{SensorFault}
pub use Rattle.cell_sensors.specs.declared.sense.SensorFault.TheVariants.{Clash}
pub use Rattle.cell_sensors.specs.declared.sense.TableSense.{TableSense}
pub use Rattle.cell_control.proofs.lemmas.Facts.{AreSo, Fact, Finds}
pub use Rattle.cell_control.proofs.lemmas.StepLemmas.{Knowing, reached_first}
pub use Rattle.cell_control.proofs.lemmas.TurnMaps.{turn_either}
pub use Rattle.cell_control.proofs.lemmas.TurnsByAnswers.{asked_own}
pub use Rattle.cell_control.proofs.lemmas.WaitLemmas.{stays_never}
pub use Rattle.cell_control.specs.Names.{Performed, PerformsCall, PerformsSensed, Rig, Steps, Turned, Turns, at_rest, fault_of, step_after_reply, turned, waits_out}
pub use Rattle.cell_control.specs.Rows.{is_inquiry}
pub use Rattle.cell_control.specs.declared.fault.CtlFault.{CtlFault}
pub use Rattle.cell_control.specs.declared.fault.CtlFault.TheVariants.{Memory}
pub use Rattle.cell_devices.proofs.lemmas.DriveLemmas.{drives_one}
pub use Rattle.cell_devices.specs.Limits.{travel_from}
pub use Rattle.cell_devices.specs.Names.{DrivesTo, motor_of, retracted_to}
pub use Rattle.cell_devices.specs.declared.act.CraneAct.{CraneAct}
pub use Rattle.cell_devices.specs.declared.act.PressAct.{PressAct}
pub use Rattle.cell_devices.specs.declared.act.RobotAct.{RobotAct}
pub use Rattle.cell_devices.specs.declared.act.TableAct.{TableAct}
pub use Rattle.cell_devices.specs.declared.motor.Direction.{Direction}
pub use Rattle.cell_devices.specs.declared.motor.Motor.{Motor}
pub use Rattle.cell_devices.specs.declared.motor.Motor.TheVariants.{Minus, Off, Plus}
pub use Rattle.cell_devices.specs.declared.stops.TheConstants.{ARM1_PRESS, ARM2_DEPOSIT, GRIPPER_FEED, RETRACTED, ROTATION_ARM1_PRESS, ROTATION_ARM1_TABLE, ROTATION_ARM2_DEPOSIT, ROTATION_ARM2_PRESS}
pub use Rattle.cell_belts_crane.proofs.lemmas.CraneFacts.{CraneKnows, crane-knowing, crane_begins}
pub use Rattle.cell_belts_crane.proofs.lemmas.CraneRows.{acts_one}
pub use Rattle.cell_belts_crane.proofs.lemmas.DepositFacts.{DepositKnows, deposit-knowing}
pub use Rattle.cell_belts_crane.proofs.lemmas.FeedFacts.{FeedKnows, feed-knowing, feed_begins}
pub use Rattle.cell_belts_crane.specs.CraneProgram.{is_off, travel_for, travels}
pub use Rattle.cell_belts_crane.specs.Names.{Acts, Senses, after_done, crane_start, crane_steps, deposit_start, deposit_steps, feed_start, feed_steps, first_step, gripper_stop, is_done, row_at, row_of, step_after_inquiry}
pub use Rattle.cell_belts_crane.specs.declared.crane.CraneProgress.{CraneProgress}
pub use Rattle.cell_belts_crane.specs.declared.crane.CraneReading.{CraneReading}
pub use Rattle.cell_belts_crane.specs.declared.crane.CraneStep.{CraneStep}
pub use Rattle.cell_belts_crane.specs.declared.crane.CraneStep.TheVariants.{AwaitPlate, ClaimFeed, DropPlate, GripPlate, LowerToFeed, LowerToPlate, RaiseFromFeed, RaiseToFetch, RaiseWithPlate, TravelToDeposit, TravelToFeed}
pub use Rattle.cell_belts_crane.specs.declared.deposit.DepositProgress.{DepositProgress}
pub use Rattle.cell_belts_crane.specs.declared.deposit.DepositStep.{DepositStep}
pub use Rattle.cell_belts_crane.specs.declared.feed.FeedProgress.{FeedProgress}
pub use Rattle.cell_belts_crane.specs.declared.feed.FeedStep.{FeedStep}
pub use Rattle.cell_belts_crane.specs.declared.feed.FeedStep.TheVariants.{ClaimExit}
pub use Rattle.cell_notes.specs.Asks.{done_in, entries_in}
pub use Rattle.cell_notes.specs.Names.{HasRoom, Notes, TurnCall, at_machine, came_back, counts_with, in_order, is_busy_reply, is_done_reply, is_read_reply, is_refused_reply, no_counts, no_notes, notes_with, settled_by, settled_in}
pub use Rattle.cell_notes.specs.declared.counts.Counts.{Counts}
pub use Rattle.cell_notes.specs.declared.run_record.RunRecord.{RunRecord}
pub use Rattle.cell_notes.specs.declared.schedule.Turn.{Turn}
pub use Rattle.cell_notes.specs.declared.status.Status.{Status}
pub use Rattle.cell_notes.specs.declared.status.Status.TheVariants.{Fine, Sensor}
pub use Rattle.cell_parts.proofs.lemmas.NoCollision.{nothing_collides}
pub use Rattle.cell_parts.specs.Axes.{CellScales, gripper_start, robot_points}
pub use Rattle.cell_parts.specs.Collisions.{IsAt}
pub use Rattle.cell_parts.specs.MotorDemands.{TravelsHigh}
pub use Rattle.cell_parts.specs.Names.{AllDemandsMet, AreCellScales, Arm1MayLetGo, Arm2MayLetGo, AtDeposit, AtFeed, CraneMayLetGo, DrivesPast, DrivesPastEnd, ErrandDemands, ForTravel, GripperErrand, HoldsIn, IsArm1AtTable, IsArm1InPress, IsArm2AtDeposit, IsArm2InPress, IsAxisScale, IsGripperDown, IsIn, IsOn, IsOut, IsOverDeposit, IsOverFeed, IsWithin, LetsGo, MotorDemands, NothingCollides, NothingCollidesWhenSet, PlateFalls}
pub use Rattle.cell_parts.specs.Names.{PositionDemands, PressShows, RestsAtBottom, RestsAtLoading, RestsAtMiddle, RotatesRetracted, ShowsRaw, Span, StaysWithin, TableMoves, arm1_at_table, arm1_in_press, arm2_at_deposit, arm2_in_press, arm_end, at, crane_at_start, crane_end, crane_rig, deposit_at_start, deposit_rig, driven_at, feed_at_start, feed_rig, gripper_end, lift_end, loads_to, moved_axis, moved_to, over_deposit_to}
pub use Rattle.cell_parts.specs.Names.{over_feed_from, press_at_start, press_end, press_rig, robot_at_start, robot_rig, rotation_end, set_axis, set_belt, set_crane, set_robot, table_at_start, table_rig, turn_end}
pub use Rattle.cell_parts.specs.Plant.{moved_belt, moved_plate, moved_press, moved_table, plate_if, set_press, set_table}
pub use Rattle.cell_parts.specs.PositionDemands.{Arm1HasPress, Arm1HasTable, Arm2HasDeposit, Arm2HasPress, CraneHasDeposit, CraneHasFeed}
pub use Rattle.cell_parts.specs.Shows.{CraneShows, FeedShows, RobotShows, TableShows, crane_feed_from, press_bottom_to, press_middle, table_bottom_to}
pub use Rattle.cell_parts.specs.declared.axis.Axis.{Axis}
pub use Rattle.cell_parts.specs.declared.belt.Belt.{Belt}
pub use Rattle.cell_parts.specs.declared.plant.CranePlant.{CranePlant}
pub use Rattle.cell_parts.specs.declared.plant.PlantState.{PlantState}
pub use Rattle.cell_parts.specs.declared.plant.RobotPlant.{RobotPlant}
pub use Rattle.cell_parts.specs.declared.plant.TablePlant.{TablePlant}
pub use Rattle.cell_plant.specs.Cells.{cell_gauges}
pub use Rattle.cell_plant.specs.FrameExamples.{Fails, FrameExamples, ShownExamples, WrongFilms}
pub use Rattle.cell_plant.specs.Frames.{FilmsAreSafe, IsCut, IsSafeFrame, result_of}
pub use Rattle.cell_plant.specs.GaugeLaws.{HasOneRun, RunsAreByGauges, SaysOneThing}
pub use Rattle.cell_plant.specs.Moments.{AllNotes, first_notes}
pub use Rattle.cell_plant.specs.Names.{AreRefusedAsWorn, CellGauges, CellState, GiveOne, GivesOne, HadMemory, IsAtRest, IsOfLiteralRun, IsOfOneStop, IsRecordOf, IsRecordSoFar, IsRefusedAsWorn, IsRun, IsRunBy, IsSafeRun, IsSafeState, IsSafelySet, IsShown, LeadsBy, LeadsIfBy, NoneRefused, PartOf, ProgressOf, RunMoment, SayTheSame, SeesBeginning, SeesRun, SideOf, Sides, Step, StepsOn, TakesTurn, TakesTurnBy, TellsRun, any_near, asks}
pub use Rattle.cell_plant.specs.Names.{at_entered, at_first, at_last, at_press_stopped, cell_at_start, cell_scales, counts_in, counts_of, end_of, errand_of, events_in, first_moment, five_gauges, frame_of, frames_after, frames_of, goes_on, is_told, is_turn_of, opening, plant_of, points_of, positions_in, rig_of, robot_gauges, schedule, side_in, sides_at_start, sides_of, starts, state_at, statuses_in, steps, steps_by, steps_of, turn_of, watch_noting, watch_rig, watch_steps}
pub use Rattle.cell_plant.specs.RecordExamples.{AreJournals, IsOfApart, IsOfLegalHistory, IsOfNoTurn, IsRecord, IsUnread, RecordExamples, Tells, WrongRecords, counts_by, done_entry, first_stop, journal_by, journals_apart, last_apart, open_too_early, refused_entry, steps_apart, stop_entry, with_feed_counts}
pub use Rattle.cell_plant.specs.Resting.{StoppedMachinesRest}
pub use Rattle.cell_plant.specs.RunExamples.{PassExamples, ScheduleExamples, TurnExamples, belt_waits, cell_of, claims_entry, falls, falls_to, finds_busy, finds_no_room, is_refused, passes, press_falls, resumed, resumes_at_first, resumes_cell, resumes_unnoted, stopped, stops_again, stops_cell, waits, watch_finds_busy}
pub use Rattle.cell_plant.specs.Runs.{IsPassedOver}
pub use Rattle.cell_plant.specs.Safety.{EveryRunIsSafe}
pub use Rattle.cell_plant.specs.SafetyExamples.{HasMotors, HasPositions, IsClear, IsWithinEnds, OnlyCollides, OnlyMotorUnmet, OnlyPastEnd, OnlyPositionUnmet, OnlySetIsUnsafe, OnlyStepIsUnsafe, SafeRuns, SafetyExamples, StandsWithin, before_first, cell_with, danger, drops, loaded, quiet, through}
pub use Rattle.cell_plant.specs.WatchExamples.{WatchRowsAreMet}
pub use Rattle.cell_plant.specs.WatchLaws.{NotesTheMark, NotesThroughout, WatchNotesTheMark}
pub use Rattle.cell_plant.specs.declared.frame.Frame.{Frame}
pub use Rattle.cell_plant.specs.declared.watch.WatchProgress.{WatchProgress}
pub use Rattle.cell_plant.specs.declared.observer.SeenFault.{SeenFault}
pub use Rattle.cell_plant.specs.declared.observer.SeenFault.TheVariants.{Observer}
pub use Rattle.cell_robot.proofs.lemmas.RobotFacts.{RobotKnows, at_choice, robot-knowing}
pub use Rattle.cell_robot.specs.Names.{RobotGauges, arm1_stop, arm2_stop, choice, near_lines, notes_at, robot_rest, robot_start, robot_steps, turns_to}
pub use Rattle.cell_robot.specs.RobotProgram.{FirstFails, IsRaw, gauges_of, turns}
pub use Rattle.cell_robot.specs.declared.robot.RobotNotes.{RobotNotes}
pub use Rattle.cell_robot.specs.declared.robot.RobotProgress.{RobotProgress}
pub use Rattle.cell_robot.specs.declared.robot.RobotReading.{RobotReading}
pub use Rattle.cell_robot.specs.declared.robot.RobotStep.{RobotStep}
pub use Rattle.cell_robot.specs.declared.robot.RobotStep.TheVariants.{AwaitForged, ClaimDeposit, ClaimPress, DropInPress, DropOnDeposit, GripForged, InspectPress, LeaveDeposit, LeaveLoaded, LeaveTable, LeaveUnloaded, ReachDeposit, ReachTable, ReachToLoad, ReachToUnload, ReleasePress, TurnToDeposit, TurnToLoad, TurnToTable, TurnToUnload}
pub use Rattle.cell_rules.proofs.lemmas.ClearBelts.{clear_next}
pub use Rattle.cell_rules.proofs.lemmas.DoneCalls.{none_or, none_then_not, resume_done, stop_done}
pub use Rattle.cell_rules.proofs.lemmas.Histories.{after-append}
pub use Rattle.cell_rules.proofs.lemmas.Notes.{noted-append}
pub use Rattle.cell_rules.proofs.lemmas.OwnSide.{full-foreign, posture-foreign}
pub use Rattle.cell_rules.proofs.lemmas.Postures.{posture-changed}
pub use Rattle.cell_rules.proofs.lemmas.SeenLemmas.{legal-append, own-append, settles-push}
pub use Rattle.cell_rules.proofs.lemmas.Soundness.{done_none, next_keeps}
pub use Rattle.cell_rules.specs.ModelState.{one_if}
pub use Rattle.cell_rules.specs.Names.{Desk, IsLegal, IsSound, IsStartState, ModelState, PlaceSet, RunsClear, Waits, advance_refusal, after, changed, done_unless, emptied, entry_of, event, filled, given_by, has, is_full, last_stamp, next, next_by, noted, own_events, owns, posture_at, posture_given, reply, resume_refusal, start_state, stop_refusal, stopped_after}
pub use Rattle.cell_rules.specs.Refusals.{has_no_work, no_room_for_work, not_at_work, nothing_to_work, press_unowned, worn, ◌or◌}
pub use Rattle.cell_rules.specs.Types.{Advance, Answer, Busy, Call, Claim, Closed, Crane, DepEnd, DepEntry, Deposit, Done, Entry, Event, Feed, FeedEnd, FeedEntry, Give, Journals, Machine, Moving, NotStopped, OpenIn, OpenOut, Place, Posture, Press, Refusal, Refused, Release, Reply, Resume, Robot, SetPose, Settled, Shut, Stop, Stopped, Table, Take, Watch, Worn, Z1, Z2, Z3, Z4, Z5, Z6, Zone, all_machines, keeper_of, one_machine, one_posture, own_move_of, same_machine, same_posture, transfer_of}
pub use Rattle.cell_rules.specs.declared.heard.LineFault.{LineFault}
pub use Rattle.cell_table_press.proofs.lemmas.PressFacts.{PressKnows, press-knowing}
pub use Rattle.cell_table_press.proofs.lemmas.TableFacts.{TableKnows, table-knowing}
pub use Rattle.cell_table_press.specs.Names.{after_act, after_motor, by_plate, by_plates, press_start, press_steps, rotation_stop, table_start, table_steps, with_plate, with_plates}
pub use Rattle.cell_table_press.specs.PressProgram.{act_for, clashes, step_motor}
pub use Rattle.cell_table_press.specs.TableProgram.{height_for}
pub use Rattle.cell_table_press.specs.declared.press.PressProgress.{PressProgress}
pub use Rattle.cell_table_press.specs.declared.press.PressStep.{PressStep}
pub use Rattle.cell_table_press.specs.declared.press.PressStep.TheVariants.{ClaimFirst, MoveToBottom, MoveToMiddle, PoseLow, PoseMiddle}
pub use Rattle.cell_table_press.specs.declared.table.TableProgress.{TableProgress}
pub use Rattle.cell_table_press.specs.declared.table.TableReading.{TableReading}
pub use Rattle.cell_table_press.specs.declared.table.TableStep.{TableStep}
pub use Rattle.cell_table_press.specs.declared.table.TableStep.TheVariants.{MoveToLoading, PoseLoading}
pub use Rattle.cell_team.proofs.lemmas.Sensed.{stands_still}
pub use Rattle.cell_team.proofs.lemmas.Stopping.{none-stopped}
pub use Rattle.cell_team.proofs.lemmas.Together.{sound_start}
pub use Rattle.cell_team.proofs.lemmas.Turned.{Sees, Stands, stands_later, stands_on}
pub use Rattle.cell_team.specs.Heeded.{IsUnstopped}
pub use Rattle.cell_team.specs.Names.{AreUnstopped, HaveCome, Team, programs_of}
pub use Rattle.cell_unit.proofs.lemmas.Demanding.{Demanding, WhileOn, With, demanding_while_on, demands_kept}
pub use Rattle.cell_unit.proofs.lemmas.Keeping.{Changes, Keeping, by_call, others_keep, takes_changes, takes_keeps, turn_tells}
pub use Rattle.cell_unit.proofs.lemmas.Others.{others_ready}
pub use Rattle.cell_unit.proofs.lemmas.Running.{none_runs}
pub use Rattle.cell_unit.proofs.lemmas.Turning.{acts_still}
pub use Rattle.cell_unit.specs.Names.{Answers, Side, Takes, UnitTurn, side_moved, side_of, side_set}
pub use Rattle.cell_unit.specs.Sides.{ActsAndMoves, IsReady, act_or_rest, noting, part_set}
pub use Rattle.cell_unit.specs.Statuses.{status_of}
pub use Rattle.cell_unit.specs.UnitTurns.{Untouched}
pub use Rattle.std.proofs.Common.{Bool, Err, IfOk, IsSome, IsTrue, List, None, Ok, OnErr, Option, Result, Some, [], add-zero, ap, append-nil, append_assoc, arith, cond, count_by, drop, false, get_or, if◌then◌else◌, inl, inr, is_none, is_some, length, map, not, pos, refl, subst, suc, sym, take, true, zero, ℕ, ℤ, ◌&&◌, ◌++◌, ◌+ℤ◌, ◌+◌, ◌-ℤ◌, ◌-◌, ◌<ℤ◌, ◌<◌, ◌==◌, ◌||◌, ◌↔◌, ◌∙◌, ◌∷◌, ◌≡◌, ◌≢◌, ◌≤ℤ◌, ◌≤◌, ◌⊎◌}
pub use Rattle.std.proofs.Math.Dec.{T}
pub use Rattle.std.proofs.lemmas.Bool.{false_from_ne_true}
pub use Rattle.std.proofs.lemmas.Bool.Decides.{Decides-eqb, Decides-int_eq}
pub use Rattle.std.proofs.lemmas.Int.{by_lt_z, clamps, ints}
pub use Rattle.std.proofs.lemmas.List.{length-drop, length-take-le, take-append-drop, take_all, take_more}
pub use Rattle.std.proofs.lemmas.List.Elements.{All-cons, All-nil}
pub use Rattle.std.proofs.lemmas.List.Sums.{count_by-le-length, sum_by-append, sum_by-cons}
pub use Rattle.std.specs.Bool.{then_some}
pub use Rattle.std.specs.Int.Signed.{le_z, le_z_yes, lt_z, lt_z_yes}
pub use Rattle.std.specs.Ordering.{int_eq}
pub use Rattle.std.specs.Prelude.{All, nat_lt, ⊤}
