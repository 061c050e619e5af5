use Rattle.cell_threads.proofs.Assembling.{tells_six}
use Rattle.cell_threads.proofs.six.run_workers.Goals as goal

pub returns-in-Ok-clause-work : goal.returns-in-Ok-clause-work
returns-in-Ok-clause-work g c = tells_six _ _ _ _ _ _ _ _ _ _ _ _ _ _ c.in-Ok.ensures.work
