use Rattle.plan_app.specs.RunPages as spec
use Rattle.plan_header.proofs.lemmas.Lines.{one_more}
use Rattle.plan_app.proofs.run_page.push_stops.Goals as goal

pub machines-preserved : goal.machines-preserved
machines-preserved c =
    one_more (spec.stop_note_of c.args.named.now c.args.stops.now) _ _ _ c.machines.machine c.machines.invariant c.in_ok-push_stop_of.ensures
