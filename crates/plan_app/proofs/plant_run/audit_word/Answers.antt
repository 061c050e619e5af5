use Rattle.std.proofs.Common.{rules, Some, subst}
use Rattle.plan_workers.specs.Audited.{HasNoHistory, journals_in}
use Rattle.plan_app.proofs.plant_run.audit_word.Goals as goal

pub returns-in-Err : goal.returns-in-Err
returns-in-Err c =
    let end = c.args.end.now in
    let none = c.in-Err.ensures.refused (search rules) in
    let all = journals_in c.args.journals.now in
    let of_plan = subst (λ t. HasNoHistory t c.args.start.now all (Some end)) c.plan.ensures none in
    record { history = tt; fault = (end, of_plan) }
