use Rattle.std.proofs.Common.{◌∙◌, ap, subst}
use Rattle.cell_rules.specs.History.{after, IsLegal}
use Rattle.cell_control.proofs.Unwiring.{unwired}
use Rattle.cell_control.proofs.wired.Wired.unwire.Goals as goal

pub invariant_of-result : goal.invariant_of-result
invariant_of-result g c =
    unwired (g.P.Program.steps c.self.inside.controller.program) (g.L.Line.machine c.self.inside.line) c.machine-machine.result (g.L.Line.opening c.self.inside.line) (g.L.Line.seen c.self.inside.line) (g.L.Line.seen c.survey-left.new.self)
    c.self.inside.controller.stopped c.self.inside.controller.progress c.survey-left.result c.self.invariant
    (c.machine-machine.ensures ∙ c.survey-left.ensures.machine) (g.met.L.Line.sound c.self.inside.line) (subst (λ o. IsLegal o (g.L.Line.seen c.survey-left.new.self)) c.survey-left.ensures.opening (g.met.L.Line.legal c.survey-left.new.self)) c.survey-left.ensures.seen (c.survey-left.ensures.state ∙ ap (λ o. after o (g.L.Line.seen c.survey-left.new.self)) c.survey-left.ensures.opening)
