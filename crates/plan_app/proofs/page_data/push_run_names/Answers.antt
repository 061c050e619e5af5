use Rattle.plan_app.specs.PageData as spec
use Rattle.plan_header.proofs.lemmas.Lines.{one_more}
use Rattle.plan_app.proofs.page_data.push_run_names.Goals as goal

pub motors-preserved : goal.motors-preserved
motors-preserved c =
    one_more (spec.run_name c.args.names.now c.args.motors) _ _ _
    c.motors.motor c.motors.invariant c.in_ok-push_run_name.ensures
