use Rattle.std.proofs.Common.{map}
use Rattle.plan_header.specs.Turns as spec
use Rattle.plan_header.proofs.lemmas.Lines.{three_parts}
use Rattle.plan_header.proofs.turns.push_turns.Goals as goal

pub returns : goal.returns
returns c =
    let n = c.args.named.now in
    let sensors = c.args.sensors.now in
    three_parts c.push_all_programs.result _ _ _ _ (spec.motor_lines c.args.motors.now) (spec.all_sensors n sensors)
    (spec.all_programs n sensors (map (λ own. own.items) c.args.steps.now)) c.in_ok-push_motors.ensures
    c.in_ok-push_all_sensors.ensures c.push_all_programs.ensures
