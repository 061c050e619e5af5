use Rattle.cell_control.proofs.lemmas.TurnsByAnswers.{turn-rows}
use Rattle.cell_control.proofs.laws.turns_by_answers.Goals as goal

pub returns : goal.returns
returns g c = turn-rows (g.P.Program.steps c.args.program.now) c.args.progress c.args.sense.now
