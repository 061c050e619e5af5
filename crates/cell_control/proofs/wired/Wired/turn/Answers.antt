use Rattle.std.proofs.Common.{rules, sym}
use Rattle.cell_control.proofs.lemmas.TurnMaps.{turn_map, turn_of_sense}
use Rattle.cell_control.proofs.wired.Wired.turn.Goals as goal

pub returns-clause-row : goal.returns-clause-row
returns-clause-row g c =
    let row = c.take_turn-taken.ensures.row in
    rw (sym c.self.view_is) (
    turn_map (g.P.Program.steps c.self.inside.controller.program) _ _ _ _ (λ same. same.0) (λ call r asked. asked.0) _ _ _ _
    (turn_of_sense (g.P.Program.steps c.self.inside.controller.program) _ _ _ _ row.0 c.args.sense.now _ (search rules) row.2)
    )
