use Rattle.std.proofs.Common.{map}
use Rattle.plan_header.specs.Turns as spec
use Rattle.plan_header.proofs.lemmas.Lines.{one_more}
use Rattle.plan_header.proofs.turns.push_each_program.Goals as goal

pub machines-preserved : goal.machines-preserved
machines-preserved c =
    let steps = map (λ own. own.items) c.args.steps.now in
    one_more (spec.own_program c.args.named.now c.args.sensors.now steps) _ _ _ c.machines.machine c.machines.invariant
    (rw (c.steps_at.ensures) at c.in_ok-push_program.ensures)
