-- The names of other crates, and of this one's definitions, that the proofs here use.
pub use Rattle.cell_sensors.specs.declared.gauge.Gauge.{Ghosts}
pub use Rattle.cell_sensors.specs.declared.sense.SensorFault.{SensorFault}
pub use Rattle.cell_control.proofs.lemmas.TurnMaps.{turn_either, turn_map}
pub use Rattle.cell_control.specs.Names.{Performed, PerformsCall, PerformsSensed, Steps, Turned, Turns, answered, at_rest, fault_of, step_after_reply, turned, waits_out}
pub use Rattle.cell_control.specs.declared.fault.CtlFault.{CtlFault}
pub use Rattle.cell_control.specs.declared.commands.Commands.{Commands}
pub use Rattle.cell_belts_crane.specs.Names.{crane_steps, deposit_steps, feed_steps}
pub use Rattle.cell_belts_crane.specs.declared.crane.CraneProgram.{CraneProgram}
pub use Rattle.cell_interlock.specs.Fresh.{fresh_pass}
pub use Rattle.cell_interlock.specs.Lines.{PassAsks}
pub use Rattle.cell_interlock.specs.Seen.{HasSeenMore, IsSamePass}
pub use Rattle.cell_interlock.specs.Views.{InterlockView, PassView}
pub use Rattle.cell_notes.specs.declared.status.Status.{Status}
pub use Rattle.cell_notes.specs.declared.status.Status.TheVariants.{Fine, GateLimit, Memory, Refused, Sensor, Worn}
pub use Rattle.cell_parts.specs.Axes.{CellScales, robot_points}
pub use Rattle.cell_plant.specs.Machines.{CellGauges, ProgressOf, robot_gauges, steps_by, steps_of}
pub use Rattle.cell_renewal.specs.Going.{GoingLeft, GoingOn}
pub use Rattle.cell_renewal.specs.RenewedRecords.{AllRun, GoingSix, MakesAtMost, NoneIsRefusedThrough, NoneIsWornThrough, Runs, SixLeft, by_crane, by_robot, by_table, going_gives, going_on}
pub use Rattle.cell_renewal.specs.Renewing.{AreAllFine, EndsRound, IsTurnedOver, Leaves, MayAllGoOn, MayGoOn, OpensAfter, RoundMoment, TakesRound}
pub use Rattle.cell_renewal.specs.WiredLaws.{AreToldToRest, WiredPressTurns, WiredWorkerEnds, told_clash, told_unread}
pub use Rattle.cell_renewal.specs.WiredTeams.{NoWiredWorkerIsRefused, NoneEndsRefused, Sets, Shows, WiredTeam}
pub use Rattle.cell_renewal.specs.WiredWorkers.{IsWiredResult, RestsUnread, TakesCycle, TakesWiredTurn, WiredMoment, wired_moment}
pub use Rattle.cell_rules.proofs.lemmas.Histories.{legal-left, sound-after}
pub use Rattle.cell_rules.proofs.lemmas.Restamps.{restamped_sound, stamps_only_wear}
pub use Rattle.cell_rules.specs.Names.{BeginsWith, Holds, IsLegal, IsSameFor, IsSound, IsStartState, ModelState, MovesIn, PressMoves, Program, Reached, Waits, after, done_count, event, is_done, last_stamp, one_if, own_events, reply, restamped}
pub use Rattle.cell_rules.specs.Types.{Answer, Busy, Call, Crane, Deposit, Done, Event, Feed, Machine, Press, Refusal, Reply, Robot, Settled, Shown, Table, Watch, Z3, same_machine}
pub use Rattle.cell_rules.specs.declared.heard.LineFault.{LineFault}
pub use Rattle.cell_table_press.specs.Names.{checked, press_steps, table_steps}
pub use Rattle.cell_table_press.specs.declared.press.PressProgress.{PressProgress}
pub use Rattle.cell_table_press.specs.declared.table.TableProgram.{TableProgram}
pub use Rattle.cell_team.proofs.lemmas.Turned.{Sees, Stands, sees_of, stands_later, stands_on}
pub use Rattle.cell_team.specs.Names.{AreHeeded, DrivesOn, HasComeFrom, HaveComeFrom, IsHeeded, IsStoppedBy, LeadsOrStays, StandAfter, Team, is_worn, program_with_stops, programs_of}
pub use Rattle.cell_threads.proofs.lemmas.FirstSteps.{ended, within}
pub use Rattle.cell_threads.proofs.lemmas.Passes.{asks_same, same_after, unchanged_pass}
pub use Rattle.cell_threads.proofs.lemmas.Turning.{all_along, comes_on}
pub use Rattle.cell_threads.specs.Watching.{TellsWatched, WatchesOf}
pub use Rattle.cell_threads.specs.Workers.{AreTaken, ComesBy, Ends, GateOf, last_of}
pub use Rattle.cell_threads.specs.declared.six_of.SixOf.{SixOf}
pub use Rattle.cell_threads.specs.declared.six.SixRecord.{SixRecord}
pub use Rattle.cell_threads.specs.declared.worker_result.WorkerResult.{WorkerResult}
pub use Rattle.std.proofs.Common.{All, Bool, Err, IsSomeAnd, List, None, Ok, Option, Result, Some, [], ap, append-nil, append_assoc, arith, below_more, cond, false, if◌then◌else◌, inl, inr, length, length-append, refl, subst, suc, sym, true, zero, ℕ, ⊎_elim, ◌*◌, ◌++◌, ◌+◌, ◌<◌, ◌||◌, ◌∙◌, ◌∷◌, ◌≡◌, ◌≢◌, ◌≤◌, ◌⊎◌}
