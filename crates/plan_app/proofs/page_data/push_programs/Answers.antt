use Rattle.plan_app.specs.PageData as spec
use Rattle.plan_header.proofs.lemmas.Lines.{one_more}
use Rattle.plan_app.proofs.page_data.push_programs.Goals as goal

pub machines-preserved : goal.machines-preserved
machines-preserved c =
    one_more (spec.next_item (spec.program_item c.args.plan.now.named c.args.plan.now.motors.names c.args.plan.now.sensors.items (spec.programs_of c.args.plan.now))) _ _ _
    c.machines.machine c.machines.invariant c.in_ok-push_program.ensures
