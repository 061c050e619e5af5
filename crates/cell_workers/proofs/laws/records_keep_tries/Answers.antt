use Rattle.cell_workers.proofs.lemmas.Telling.{keep_tries}
use Rattle.cell_workers.proofs.laws.records_keep_tries.Goals as goal

pub returns : goal.returns
returns g c = keep_tries (g.G.Gate.may_answer c.args._gate.now)
