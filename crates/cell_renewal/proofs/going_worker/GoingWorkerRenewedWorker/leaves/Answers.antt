use Rattle.std.proofs.Common.{◌∙◌, ap, sym}
use Rattle.cell_renewal.proofs.going_worker.GoingWorkerRenewedWorker.leaves.Goals as goal

pub returns : goal.returns
returns g c = λ w pass tries limit r ready gives.
    record { own = ap (λ p. (g.P.Program.steps p).machine) gives.0 ∙ sym ready.0; state = gives.1.left_is }
