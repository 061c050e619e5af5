use Rattle.std.proofs.Common.{◌≡◌, ◌<◌, length, sym, ◌∙◌, subst}
use Rattle.std.specs.Prelude.{Ok, slice_index_or}
use Rattle.plan_workers.specs.PlantRecording.{HasPlantRecorded}
use Rattle.plan_workers.proofs.Jobs.{if_ok}
use Rattle.plan_workers.proofs.PlantRecording.{each_found, many_found}
use Rattle.plan_workers.proofs.plant_record.record_plant_in_threads.Goals as goal

pub returns-clause-many : goal.returns-clause-many
returns-clause-many g c =
    if_ok _ _ c.all_recorded.result c.all_recorded.ensures (λ backs all.
    let same = c.in_ok-found.ensures.len in
    backs.ok.0 ∙ (many_found c.in_ok-found.found.items backs.items all ∙ (sym c.in_ok-found.found.ok.0 ∙ same)))

pub returns-clause-each : goal.returns-clause-each
returns-clause-each g c =
    if_ok _ _ c.all_recorded.result c.all_recorded.ensures (λ backs all. λ k job back below.
    let found = c.in_ok-found.found in
    let same : length c.args.jobs.items ≡ length found.items = sym c.args.jobs.ok.0 ∙ (sym c.in_ok-found.ensures.len ∙ found.ok.0) in
    let gives = (c.in_ok-found.ensures.each k (Ok back) below).1 in
    let done = each_found (HasPlantRecorded g.D.PlanDevices.reads g.D.PlanDevices.drives c.args.interlock.now (g.G.PlanGate.may_answer c.args.gate.now) c.args.turns gives.job) found.items backs.items k back all (subst (λ n. k < n) same below) gives.call.met in
    subst (λ x. HasPlantRecorded g.D.PlanDevices.reads g.D.PlanDevices.drives c.args.interlock.now (g.G.PlanGate.may_answer c.args.gate.now) c.args.turns x (slice_index_or backs.items k back)) (sym (gives.job_is job)) done)
