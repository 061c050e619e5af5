use Rattle.std.proofs.Common.{arith, rules}
use Rattle.std.proofs.lemmas.Str.Pattern.{split_parts}
use Rattle.plan_document.specs.Saying.{own_motor}
use Rattle.plan_document.proofs.Running.{all_read, none_read, read_more}
use Rattle.plan_document.proofs.lines.motors_in.Goals as goal

pub names-init : goal.names-init
names-init c = (none_read _ _, search rules)

pub names-preserved : goal.names-preserved
names-preserved c =
    let l = c.names in
    let cut = rw c.in-Some.is at (split_parts 32 l.rest.now c.split_once.result c.split_once.ensures.cases (omega arith)) in
    (read_more (own_motor c.args.motors.now c.args.machine) _ _ _ _ _ _ c.in_ok-bits.ensures.number c.in_ok-bits.ensures.few cut.0 cut.1 l.invariant.0, search rules)

pub returns : goal.returns
returns c =
    let l = c.names in
    let lacks = rw c.in_default.is at (split_parts 32 l.rest.now c.split_once.result c.split_once.ensures.cases (omega arith)) in
    let all = all_read (own_motor c.args.motors.now c.args.machine) _ _ _ _ c.in_ok-motor_in.ensures.number c.in_ok-motor_in.ensures.few lacks l.invariant.0 in
    record { known = all.0; bits = all.1 }
