use Rattle.std.proofs.Common.{◌++◌, map}
use Rattle.plan_header.specs.Headers as spec
use Rattle.plan_header.specs.Printed.{header_text}
use Rattle.plan_header.specs.Turns.{lists_part, turns_part}
use Rattle.plan_header.proofs.lemmas.Lines.{three_parts}
use Rattle.plan_header.proofs.header.push_header.Goals as goal

pub returns : goal.returns
unfolding header_text
returns c =
    let p = c.args.plan.now in
    let n = p.named in
    let word = spec.word_part n in
    let motors = spec.motors_part n p.motors.names p.motors.motors.items in
    let lists = lists_part n p.motors.names in
    let turns = turns_part n p.motors.names p.sensors.items (map (λ steps. steps.items) p.steps.items) in
    let bytes = spec.bytes_part n in
    three_parts c.push_bytes_part.result _ _ _ _ (spec.names_part n) (spec.parties_part n)
    (word ++ (motors ++ (lists ++ (turns ++ bytes)))) c.in_ok-push_names_part.ensures c.in_ok-push_parties_part.ensures
    (three_parts c.push_bytes_part.result _ _ _ _ word motors (lists ++ (turns ++ bytes))
    c.in_ok-push_word_part.ensures c.in_ok-push_motors_part.ensures
    (three_parts c.push_bytes_part.result _ _ _ _ lists turns bytes c.in_ok-push_lists_part.ensures
    c.in_ok-push_turns_part.ensures c.push_bytes_part.ensures))
