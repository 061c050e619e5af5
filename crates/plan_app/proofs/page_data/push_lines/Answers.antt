use Rattle.plan_app.specs.PageData as spec
use Rattle.plan_header.proofs.lemmas.Lines.{one_more}
use Rattle.plan_app.proofs.page_data.push_lines.Goals as goal

pub lines-preserved : goal.lines-preserved
lines-preserved c =
    one_more (spec.next_item (spec.line_item c.args.plan.now.named c.args.plan.now.motors.names c.args.plan.now.sensors.items c.args.machine c.args.steps.now)) _ _ _
    c.lines.line c.lines.invariant c.in_ok-push_line.ensures
