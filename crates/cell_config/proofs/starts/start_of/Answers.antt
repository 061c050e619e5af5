use Rattle.std.proofs.Common.{refl}
use Rattle.cell_config.proofs.starts.start_of.Goals as goal

pub returns-in-Ok-clause-start : goal.returns-in-Ok-clause-start
returns-in-Ok-clause-start c = rw c.in-Ok.ensures.value (record { start = c.in-Ok.ensures.ok.0 refl; same = refl })
