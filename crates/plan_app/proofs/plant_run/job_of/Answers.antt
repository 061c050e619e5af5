use Rattle.std.proofs.Common.{IsNone, inr, refl, subst, sym}
use Rattle.plan_app.proofs.plant_run.job_of.Goals as goal

pub returns-in-None-clause-fault : goal.returns-in-None-clause-fault
returns-in-None-clause-fault c =
    inr (inr (c.args.machine, c.in_ok-steps.ensures.none (subst IsNone (sym c.in-None.is) refl)))
