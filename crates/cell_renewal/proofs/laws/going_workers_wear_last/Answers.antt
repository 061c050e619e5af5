use Rattle.cell_renewal.proofs.Wearing.{wears-last}
use Rattle.cell_renewal.proofs.laws.going_workers_wear_last.Goals as goal

pub returns : goal.returns
returns g c = λ m. wears-last (g.P.Program.steps c.args._program.now) g.D.Devices.shows g.D.Devices.sets (g.G.Gate.may_answer c.args._gate.now m)
