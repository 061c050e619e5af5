use Rattle.std.proofs.Common.{IfSome}
use Rattle.cell_config.specs.Configured.{shown}
use Rattle.explore_app.specs.Schedules.{EndsWith}
use Rattle.explore_app.proofs.starve.rounds_into.Given as goal

abbrev pub invariant-rounds : goal.invariant-rounds
invariant-rounds l = IfSome l.end (EndsWith (shown l.config) l.schedule.items)

abbrev pub invariant-steps : goal.invariant-steps
invariant-steps l = IfSome l.end (EndsWith (shown l.config) l.schedule.items)
