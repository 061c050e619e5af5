use Rattle.cell_unit.proofs.LiteralTurns.{side-rows}
use Rattle.cell_unit.proofs.laws.sides_by_answers.Goals as goal

pub returns : goal.returns
returns g c = λ before now asked. side-rows (g.P.Program.steps c.args.unit.now.controller.program) (g.B.Part.rig (g.B.Part.make c.args.unit.now.part)) before now asked
