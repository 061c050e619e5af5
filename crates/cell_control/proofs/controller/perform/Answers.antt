use Rattle.std.proofs.Common.{ap, sym, ◌∙◌}
use Rattle.cell_control.proofs.lemmas.StepLemmas.{asks_on, drives_on, reached_by}
use Rattle.cell_control.proofs.controller.perform.Goals as goal

pub returns-in-Ok-after_call-clause-goes_on : goal.returns-in-Ok-after_call-clause-goes_on
returns-in-Ok-after_call-clause-goes_on g c =
    asks_on (g.P.Program.steps c.args.program.now) c.args.progress c.in-Ok-after_call.led c.in-Some.call c.ask-answered.result (g.L.Line.opening c.args.line.now) (g.L.Line.seen c.args.line.now) (g.L.Line.seen c.ask-answered.new.self)
    (ap (λ r. r.call) (sym c.row-row.ensures) ∙ c.in-Some.is) (rw c.requires.own at c.ask-answered.ensures.seen) (sym c.after_call.ensures ∙ c.in-Ok-after_call.is)

pub returns-in-Ok-after_call-clause-reached : goal.returns-in-Ok-after_call-clause-reached
returns-in-Ok-after_call-clause-reached g c =
    rw c.ask-answered.ensures.opening (
    reached_by (g.P.Program.steps c.args.program.now) c.args.progress c.in-Ok-after_call.led (g.L.Line.opening c.args.line.now) (g.L.Line.seen c.args.line.now) (g.L.Line.seen c.ask-answered.new.self)
    (returns-in-Ok-after_call-clause-goes_on g c) c.requires.reached
    )

pub returns-in-Ok-check-clause-goes_on : goal.returns-in-Ok-check-clause-goes_on
returns-in-Ok-check-clause-goes_on g c =
    drives_on (g.P.Program.steps c.args.program.now) c.args.progress c.after_drive.result (g.L.Line.seen c.args.line.now)
    (record {
      asks_nothing = ap (λ r. r.call) (sym c.row-row.ensures) ∙ c.in-None.is;
      sense = c.read-in-None.result;
      reading = c.in-Ok-check.reading;
      senses = c.in-Ok-check.ensures;
      act = c.drive-act.result;
      drives = c.drive-act.ensures.drives;
      is = c.after_drive.ensures;
    })

pub returns-in-Ok-check-clause-reached : goal.returns-in-Ok-check-clause-reached
returns-in-Ok-check-clause-reached g c =
    reached_by (g.P.Program.steps c.args.program.now) c.args.progress c.after_drive.result (g.L.Line.opening c.args.line.now) (g.L.Line.seen c.args.line.now) (g.L.Line.seen c.args.line.now)
    (returns-in-Ok-check-clause-goes_on g c) c.requires.reached
