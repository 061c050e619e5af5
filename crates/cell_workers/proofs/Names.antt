-- The names of other crates, and of this one's definitions, that the proofs here use.
pub use Rattle.cell_sensors.specs.declared.sense.SensorFault.{SensorFault}
pub use Rattle.cell_control.specs.Names.{IsReached, Performed, PerformsSensed, Rig, Steps, Turned, Turns, at_rest, step_after_reply, turned, with_senses}
pub use Rattle.cell_devices.specs.declared.motor.Motor.TheVariants.{Minus, Off}
pub use Rattle.cell_belts_crane.specs.Names.{crane_start, crane_steps, deposit_steps, feed_steps}
pub use Rattle.cell_interlock.specs.Fresh.{fresh_pass}
pub use Rattle.cell_interlock.specs.Lines.{PassAsks}
pub use Rattle.cell_interlock.specs.Views.{InterlockView, PassView}
pub use Rattle.cell_notes.specs.Names.{counts_with, done_in, no_counts}
pub use Rattle.cell_notes.specs.declared.counts.Counts.{Counts}
pub use Rattle.cell_notes.specs.declared.run_record.RunRecord.{RunRecord}
pub use Rattle.cell_notes.specs.declared.status.Status.{Status}
pub use Rattle.cell_notes.specs.declared.status.Status.TheVariants.{Fine, GateLimit}
pub use Rattle.cell_parts.specs.Names.{CellScales, PressShows, crane_end, crane_rig, moved_to, press_rig, robot_rig, table_rig, robot_points}
pub use Rattle.cell_plant.specs.Names.{CellGauges, NoneRefused, PartOf, SideOf, Sides, any_near, cell_gauges, cell_scales, points_of, positions_in, rig_of, robot_gauges, side_in, sides_at_start, sides_of, steps_by, steps_of}
pub use Rattle.cell_robot.specs.RobotProgram.{gauges_of, robot_start, robot_steps}
pub use Rattle.cell_rules.specs.Names.{BeginsWith, EndsIn, IsAudited, IsLegal, IsStartState, Lawful, LawfulThroughout, ModelState, Waits, after, empty, event_by, noted, own_events, reply, start_state}
pub use Rattle.cell_rules.specs.Types.{Busy, Call, Claim, Crane, Deposit, Done, Entry, Event, Feed, Journals, Machine, NotOwner, Press, Refused, Release, Reply, Robot, Settled, Table, Watch, Z3, all_machines, journal_of, same_machine}
pub use Rattle.cell_rules.specs.declared.heard.LineFault.{LineFault}
pub use Rattle.cell_table_press.specs.Names.{checked, press_steps, table_steps}
pub use Rattle.cell_threads.proofs.lemmas.FirstSteps.{answers_along, busy_counted, busy_lost, ended, ends_fine, ends_kept_out, few_along, has_status_by, let_in_along, noted_at_most, once, own_at_first, stays, within}
pub use Rattle.cell_threads.specs.Laws.{HadTurns, HasAtMost, answers_in}
pub use Rattle.cell_threads.specs.Lines.{Lines, passes}
pub use Rattle.cell_threads.specs.Results.{SixResults, journal_in, outputs_in, seen_in}
pub use Rattle.cell_threads.specs.Workers.{AreCountsOf, AreTaken, Ends, GateOf, HasEnded, IsWorkerResult, TakesTurn, WorkerMoment, worker_moment}
pub use Rattle.cell_unit.specs.Sides.{Acts, IsReady, act_or_rest, noting, side_moved, side_set}
pub use Rattle.cell_workers.specs.Laws.{EndsAreReached, RecordsKeepTries, RecordsTellTurns, Rule, TellsFirstTurns, TellsNothingDone, TurnsAreTaken, WorkersEnd, by_rule, first_call, press_at, press_released}
pub use Rattle.cell_workers.specs.Records.{MomentOf, TellsAnyWork, TellsWork, first_moment, has_worker, parts_at_ends}
pub use Rattle.cell_workers.specs.Results.{CellOutputs, parts_in}
pub use Rattle.std.proofs.Common.{All, Bool, Err, IfSome, List, None, Ok, Option, Result, Some, [], ap, append-nil, arith, cond, false, get_or, if◌then◌else◌, inl, inr, map, pos, refl, slice_get, subst, sym, true, ℕ, ℤ, ⊎_elim, ◌&&◌, ◌++◌, ◌+◌, ◌||◌, ◌∙◌, ◌∷◌, ◌≡◌, ◌≢◌, ◌≤ℤ◌, ◌⊎◌}
