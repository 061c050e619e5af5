use Rattle.cell_unit.proofs.LiteralTurns.{unit-rows}
use Rattle.cell_unit.proofs.laws.turns_at_a_bench.Goals as goal

pub returns : goal.returns
returns g c = λ old new before now notes notes' asked. unit-rows (g.P.Program.steps c.args.unit.now.controller.program) (g.B.Part.rig (g.B.Part.make c.args.unit.now.part)) old new before now notes notes' asked
