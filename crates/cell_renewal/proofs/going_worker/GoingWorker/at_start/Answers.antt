use Rattle.cell_renewal.proofs.Names.{refl, sym, subst, IsSameFor}
use Rattle.cell_renewal.proofs.going_worker.GoingWorker.at_start.Goals as goal

pub new-worker-requires : goal.new-worker-requires
new-worker-requires g c = record {
  same =
      subst (λ s. IsSameFor (g.P.Program.steps c.at_start-unwired.result.program).machine s c.args.opening) (sym c.at_start-unwired.ensures.left)
      (record { owned = λ z o. refl; hosted = λ z e. refl; places = λ p e. refl });
}
