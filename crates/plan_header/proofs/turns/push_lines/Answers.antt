use Rattle.std.proofs.Common.{length}
use Rattle.plan_header.specs.Turns as spec
use Rattle.plan_header.proofs.lemmas.Lines.{three_parts}
use Rattle.plan_header.proofs.turns.push_lines.Goals as goal

pub returns : goal.returns
returns c =
    let n = c.args.named.now in
    let machine = c.args.machine in
    three_parts c.push_closed.result _ _ _ _ (spec.program_opened n machine)
    (spec.step_rows n c.args.sensors.now machine c.args.steps.now)
    (spec.program_closed n machine (length c.args.steps.now)) c.in_ok-push_opened.ensures c.in_ok-push_steps.ensures
    c.push_closed.ensures
