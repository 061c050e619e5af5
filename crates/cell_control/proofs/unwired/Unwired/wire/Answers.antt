use Rattle.std.proofs.Common.{◌∙◌, sym, ap, subst}
use Rattle.cell_rules.specs.Restamping.{IsSameFor}
use Rattle.cell_control.proofs.Unwiring.{wired_again}
use Rattle.cell_control.proofs.unwired.Unwired.wire.Goals as goal

pub of-requires-clause-reached : goal.of-requires-clause-reached
of-requires-clause-reached g c = wired_again (g.P.Program.steps c.self.inside.controller.program) c.self.inside.machine (g.L.Line.machine c.args.line) c.self.inside.left (g.L.Line.opening c.args.line) (g.L.Line.seen c.args.line)
    c.self.inside.controller.stopped c.self.inside.controller.progress c.self.invariant (c.requires.own ∙ sym (ap (λ u. (g.P.Program.steps u.program).machine) c.self.view_is))
    (subst (λ u. IsSameFor (g.P.Program.steps u.program).machine u.left (g.L.Line.opening c.args.line)) (sym c.self.view_is) c.requires.same) c.requires.settled_none
