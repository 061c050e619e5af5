use Rattle.std.proofs.Common.{IfSome}
use Rattle.cell_config.specs.Configured.{shown}
use Rattle.explore_app.specs.Schedules.{EndsAsking}
use Rattle.explore_app.proofs.schedule.schedule_into.Given as goal

abbrev pub invariant-machines : goal.invariant-machines
invariant-machines l = IfSome l.end (EndsAsking (shown l.config) l.ending l.walk l.schedule.items)
