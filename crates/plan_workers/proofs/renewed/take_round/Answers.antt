use Rattle.std.proofs.Common.{rules, ◌≡◌, ◌∙◌, All, length, ap, refl, sym, subst}
use Rattle.plan_drives.specs.Facts.{OpensByPoses}
use Rattle.plan_interlock.specs.Book.{plan_book, plan_of}
use Rattle.word_interlock.specs.Bunches.{IsEnd}
use Rattle.plan_workers.specs.Jobs.{IsReady}
use Rattle.plan_workers.specs.Recording.{HaveRecorded}
use Rattle.plan_workers.specs.Renewing.{AreReadyAt, MayAllGoOn, given_back, watch_alone}
use Rattle.plan_workers.proofs.Renewing.{all_ready, jobs_many, ready_after, same_tables}
use Rattle.plan_workers.proofs.renewed.take_round.Goals as goal

pub record_in_threads-requires-clause-ready : goal.record_in_threads-requires-clause-ready
record_in_threads-requires-clause-ready g c κs within =
    let i = c.in-Some.interlock in
    let s = c.args.before.state in
    let machines = c.args.before.machines.items in
    let may = subst (λ t. MayAllGoOn t s 0 machines) (sym c.in-Some.ensures.plan) c.requires.ready.each in
    subst (λ jobs. All (λ job. IsReady i job) jobs) (sym c.in_ok-jobs.ensures.jobs) (all_ready g.D.PlanDevices.reads g.D.PlanDevices.drives (g.G.PlanGate.may_answer c.args.gate.now) c.args.renewal.turns i s 0 machines c.in-Some.ensures.opening may)

pub take_apart-requires-clause-own : goal.take_apart-requires-clause-own
take_apart-requires-clause-own g c =
    let i = c.in-Some.interlock in
    let machines = c.args.before.machines.items in
    let reads = g.D.PlanDevices.reads in
    let drives = g.D.PlanDevices.drives in
    let gate = g.G.PlanGate.may_answer c.args.gate.now in
    let turns = c.args.renewal.turns in
    let backs = c.in_ok-backs.backs.items in
    let same : length backs ≡ length c.in_ok-jobs.jobs.items = search rules in
    let many = same ∙ (ap length c.in_ok-jobs.ensures.jobs ∙ jobs_many reads drives gate turns i 0 machines) in
    let recorded = subst (λ jobs. HaveRecorded reads drives i gate turns jobs backs) c.in_ok-jobs.ensures.jobs c.in_ok-backs.ensures.each in
    same_tables reads drives gate turns i 0 machines backs many recorded

pub returns-clause-round : goal.returns-clause-round
returns-clause-round g c =
    let i = c.in-Some.interlock in
    let s = c.args.before.state in
    let machines = c.args.before.machines.items in
    let reads = g.D.PlanDevices.reads in
    let drives = g.D.PlanDevices.drives in
    let gate = g.G.PlanGate.may_answer c.args.gate.now in
    let turns = c.args.renewal.turns in
    let backs = c.in_ok-backs.backs.items in
    let end = c.close-end.result in
    let plan = c.in-Some.ensures.plan in
    let same : length backs ≡ length c.in_ok-jobs.jobs.items = search rules in
    let all_back = c.in_ok-machines.ensures.passes ∙ ap (λ ps. given_back ps backs) c.in_ok-jobs.ensures.watch in
    let ended = subst (λ ps. IsEnd (plan_book (plan_of i.rules)) i.opening ps end) all_back c.close-end.ensures.end in
    record {
      interlock = i;
      plan = plan;
      limit = c.in-Some.ensures.limit;
      opens = c.in-Some.ensures.opening;
      by_poses = subst (λ o. OpensByPoses c.args.plan.now o) (sym c.in-Some.ensures.opening) c.requires.ready.by_poses;
      all = c.requires.ready.all;
      backs = backs;
      many = same ∙ (ap length c.in_ok-jobs.ensures.jobs ∙ jobs_many reads drives gate turns i 0 machines);
      recorded = subst (λ jobs. HaveRecorded reads drives i gate turns jobs backs) c.in_ok-jobs.ensures.jobs c.in_ok-backs.ensures.each;
      ended = subst (λ t. IsEnd (plan_book t) i.opening (given_back (watch_alone i) backs) end) plan ended;
      unworn = c.if-end-ge-LAST_STAMP.false;
      round = record { opening = record s { stamp = 0 }; journals = c.in_ok-machines.journals; end = end };
      noted = record { opening = sym c.in-Some.ensures.opening; journals = c.in_ok-machines.ensures.journals; end = refl };
      taken = c.in_default-take.ensures;
      go_on = c.in_ok-machines.ensures.machines;
    }

pub returns-clause-ready : goal.returns-clause-ready
returns-clause-ready g c =
    let i = c.in-Some.interlock in
    let s = c.args.before.state in
    let machines = c.args.before.machines.items in
    let reads = g.D.PlanDevices.reads in
    let drives = g.D.PlanDevices.drives in
    let gate = g.G.PlanGate.may_answer c.args.gate.now in
    let turns = c.args.renewal.turns in
    let backs = c.in_ok-backs.backs.items in
    let end = c.close-end.result in
    let plan = c.in-Some.ensures.plan in
    let same : length backs ≡ length c.in_ok-jobs.jobs.items = search rules in
    let many = same ∙ (ap length c.in_ok-jobs.ensures.jobs ∙ jobs_many reads drives gate turns i 0 machines) in
    let recorded = subst (λ jobs. HaveRecorded reads drives i gate turns jobs backs) c.in_ok-jobs.ensures.jobs c.in_ok-backs.ensures.each in
    let all_back = c.in_ok-machines.ensures.passes ∙ ap (λ ps. given_back ps backs) c.in_ok-jobs.ensures.watch in
    let ended = subst (λ ps. IsEnd (plan_book (plan_of i.rules)) i.opening ps end) all_back c.close-end.ensures.end in
    let ready = subst (λ t. AreReadyAt t s machines) (sym plan) c.requires.ready in
    let after = ready_after reads drives gate turns i s end machines backs (watch_alone i) c.in-Some.ensures.opening ready many recorded ended in
    subst (λ t. AreReadyAt t end c.in_ok-machines.machines.items) plan (subst (λ ms. AreReadyAt (plan_of i.rules) end ms) (sym c.in_ok-machines.ensures.machines) after)
