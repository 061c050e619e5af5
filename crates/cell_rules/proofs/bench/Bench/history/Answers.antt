use Rattle.cell_rules.proofs.Names.{∥∥₁_elim, Lawful, IsSound-prop, IsLegal-prop}
use Rattle.cell_rules.proofs.lemmas.Histories.{throughout}
use Rattle.cell_rules.proofs.lemmas.Assembly.{lawful}
use Rattle.cell_rules.proofs.bench.Bench.history.Goals as goal

pub returns-clause-lawful : goal.returns-clause-lawful
returns-clause-lawful c =
    let bench = c.args.self.now in
    let sound = ∥∥₁_elim bench.kept (IsSound-prop bench.opening) (λ k. k.sound) in
    let legal = ∥∥₁_elim bench.kept (IsLegal-prop bench.opening bench.history.items) (λ k. k.legal) in
    rw c.deref.ensures.value (throughout bench.opening (Lawful bench.opening) (lawful bench.opening sound) bench.history.items legal)
