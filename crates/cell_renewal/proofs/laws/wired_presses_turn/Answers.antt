use Rattle.cell_renewal.proofs.WiredPress.{press_turns}
use Rattle.cell_renewal.proofs.laws.wired_presses_turn.Goals as goal

pub returns : goal.returns
returns g c = λ m. press_turns g.D.Devices.shows g.D.Devices.sets (g.G.Gate.may_answer c.args._gate.now m)
