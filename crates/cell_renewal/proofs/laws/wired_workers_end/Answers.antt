use Rattle.cell_renewal.proofs.WiredEnding.{ended}
use Rattle.cell_renewal.proofs.laws.wired_workers_end.Goals as goal

pub returns : goal.returns
returns g c = λ m tries limit pass kept p first devices turns missed status k.
    ended tries (g.P.Program.steps c.args._program.now) g.D.Devices.shows g.D.Devices.sets (g.G.Gate.may_answer c.args._gate.now m) limit pass kept p first devices turns missed status k
