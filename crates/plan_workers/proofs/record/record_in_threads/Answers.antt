use Rattle.std.proofs.Common.{sym, subst}
use Rattle.std.specs.Prelude.{slice_index_or}
use Rattle.plan_workers.specs.Recording.{HasRecorded}
use Rattle.plan_workers.proofs.Jobs.{if_ok}
use Rattle.plan_workers.proofs.record.record_in_threads.Goals as goal

pub returns-clause-each : goal.returns-clause-each
returns-clause-each g c =
    if_ok _ _ c.map_vec.result c.map_vec.ensures.each (λ backs given. λ k job back below.
    let gives = (given k back below).1 in
    subst (λ x. HasRecorded g.D.PlanDevices.reads g.D.PlanDevices.drives c.args.interlock.now (g.G.PlanGate.may_answer c.args.gate.now) c.args.turns x (slice_index_or backs.items k back)) (sym (gives.job_is job)) gives.call.met)
