use Rattle.cell_renewal.proofs.Names.{◌≡◌, ap, turn_either, turn_map, asks_same, unchanged_pass}
use Rattle.cell_renewal.proofs.wired_worker.turn_by_line.Goals as goal

pub returns-clause-same : goal.returns-clause-same
returns-clause-same g c =
    let before = c.args.wired.now.line in
    let now = c.turn.new.self.line in
    turn_either (g.P.Program.steps c.args.wired.now.program) _ _ _
    (λ same. unchanged_pass before.pass now.pass (ap (λ l. l.pass) same))
    (λ call r asks. asks_same before.tries before.pass now.pass call r asks.0.call)
    _ _ _ _ c.turn.ensures.row

pub returns-clause-row : goal.returns-clause-row
returns-clause-row g c =
    turn_map (g.P.Program.steps c.args.wired.now.program) _ _ _ _
    (λ same. ap (λ l. l.pass) same) (λ call r asks. asks.0.call)
    _ _ _ _ c.turn.ensures.row

pub returns-clause-tries : goal.returns-clause-tries
returns-clause-tries g c =
    let before = c.args.wired.now.line in
    let now = c.turn.new.self.line in
    turn_either (g.P.Program.steps c.args.wired.now.program) _ _ (now.tries ≡ before.tries)
    (λ same. ap (λ l. l.tries) same) (λ call r asks. asks.0.tries)
    _ _ _ _ c.turn.ensures.row
