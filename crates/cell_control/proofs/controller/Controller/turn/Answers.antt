use Rattle.std.proofs.Common.{rules}
use Rattle.cell_control.proofs.lemmas.TurnMaps.{turn_map, turn_of_sense}
use Rattle.cell_control.proofs.controller.Controller.turn.Goals as goal

pub returns-clause-row : goal.returns-clause-row
returns-clause-row g c =
    let row = c.take_turn-taken.ensures.row in
    rw c.result.ensures (
    turn_map (g.P.Program.steps c.args.self.now.program) _ _ _ _ (λ same. same.0) (λ call r asked. asked.0) _ _ _ _
    (turn_of_sense (g.P.Program.steps c.args.self.now.program) _ _ _ _ row.0 c.args.sense.now _ (search rules) row.2)
    )
