use Rattle.cell_renewal.proofs.WiredCycles.{wired-cycles}
use Rattle.cell_renewal.proofs.laws.wired_cycles.Goals as goal

pub returns : goal.returns
returns g c = λ m.
    wired-cycles (g.P.Program.steps c.args._program.now) g.D.Devices.shows g.D.Devices.sets (g.G.Gate.may_answer c.args._gate.now m)
