-- The names of other crates, and of this one's definitions, that the proofs here use.
pub use Rattle.cell_sensors.specs.declared.sense.SensorFault.{SensorFault}
pub use Rattle.cell_control.proofs.lemmas.TurnMaps.{turn_either}
pub use Rattle.cell_control.specs.Names.{Performed, PerformsCall, PerformsSensed, Rig, Steps, Turned, Turns, at_rest, step_after_reply, turned}
pub use Rattle.cell_control.specs.declared.fault.CtlFault.{CtlFault}
pub use Rattle.cell_interlock.specs.Ends.{ArePassesOf, IsEnd, pass_in}
pub use Rattle.cell_interlock.specs.Lines.{LineAsks, LineView, PassAsks}
pub use Rattle.cell_interlock.specs.Views.{InterlockView, PassView}
pub use Rattle.cell_interlock.specs.declared.pass.Passes.{Passes}
pub use Rattle.cell_notes.proofs.lemmas.CountLemmas.{below_with, none_below}
pub use Rattle.cell_notes.specs.Names.{AreBelow, TurnCall, came_back, counts_with, is_busy_reply, is_done_reply, is_read_reply, is_refused_reply, no_counts}
pub use Rattle.cell_notes.specs.declared.counts.Counts.{Counts}
pub use Rattle.cell_notes.specs.declared.status.Status.{Status}
pub use Rattle.cell_notes.specs.declared.status.Status.TheVariants.{Fine, GateLimit}
pub use Rattle.cell_rules.specs.Names.{IsAudited, ModelState, Waits, event, event_by, is_done_answer, noted, one_if, own_events}
pub use Rattle.cell_rules.specs.Types.{Answer, Busy, Call, Crane, Deposit, Done, Entry, Event, Feed, Machine, Press, Refusal, Refused, Reply, Robot, Settled, Shown, Table, Watch, journal_of}
pub use Rattle.cell_rules.specs.declared.heard.LineFault.{LineFault}
pub use Rattle.cell_threads.specs.Laws.{HadTurns, HasAtMost, HasStatusBy, IsFirst, TurnsAreTaken, WorkersEnd, WorkersTellTurns, answers_in, gate_by}
pub use Rattle.cell_threads.specs.Lines.{Lines, passes}
pub use Rattle.cell_threads.specs.Promises.{AreAllFresh, AreReady, GiveBack, GivesOf, SixPasses, six_of}
pub use Rattle.cell_threads.specs.Workers.{AreCountsOf, AreTaken, ComesBy, Ends, GateOf, HasCome, HasEnded, IsWorkerResult, TakesTurn, WorkerMoment, is_refused_answer, is_shown_answer, last_of, worker_moment}
pub use Rattle.cell_unit.specs.Names.{Acts, IsReady, Side, side_moved, side_of, side_set, status_of}
pub use Rattle.std.proofs.Common.{Bool, Err, List, None, Ok, Option, Result, Some, [], ap, arith, below_more, cond, count_by, false, inl, inr, is_some, map, refl, subst, sym, true, ℕ, ◌*◌, ◌++◌, ◌+◌, ◌<◌, ◌∙◌, ◌∷◌, ◌≡◌, ◌≢◌, ◌≤◌, ◌⊎◌}
