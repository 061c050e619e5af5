use Rattle.std.proofs.Common.{rules, ◌≡◌, length}
use Rattle.plan_app.proofs.Running.{same_tables}
use Rattle.plan_app.proofs.run.run_machines.Goals as goal

pub end_run-requires-clause-own : goal.end_run-requires-clause-own
end_run-requires-clause-own g c =
    let many : length c.in_ok-backs.backs.items ≡ length c.in_ok-jobs.jobs.items = search rules in
    same_tables c.args.plan.now c.in-Ok.interlock _ c.args.turns c.in_ok-jobs.jobs.items c.in_ok-backs.backs.items c.in_ok-jobs.ensures.each c.in_ok-backs.ensures.each many
