use Rattle.std.proofs.Common.{◌≡◌, ◌<◌, ◌≤◌, ◌+◌, ◌∷◌, ◌∙◌, [], ap, length, subst, map, arith}
use Rattle.std.proofs.lemmas.List.{length-append}
use Rattle.word_interlock.specs.Rule.{new_view}
use Rattle.plan_app.proofs.Running.{all_callers, is_job, is_next, push_job, taken}
use Rattle.plan_app.proofs.run.jobs_of.Goals as goal

pub loop-machine-init : goal.loop-machine-init
loop-machine-init c =
    let end : c.machines-machine-end.result ≡ c.args.plan.now.named.plan.machines = c.machines-machine-end.ensures.machines ∙ ap (λ t. t.machines) c.plan.ensures in
    let none : length c.new-jobs.result.items ≡ 0 = ap length c.new-jobs.ensures.items in
    record {
      table = ap (λ p. p.table) c.requires.fresh;
      left = ap (λ p. p.actors) c.requires.fresh
          ∙ ap (map (new_view c.args.interlock.now.rules c.args.interlock.now.opening)) (all_callers c.args.plan.now.named.plan (subst (λ n. n ≤ 30) end c.machines-machine-end.ensures.few));
      many = none;
      each = λ m job few. absurd (omega (arith, few, none));
    }

pub take_pass-pass-requires-clause-next : goal.take_pass-pass-requires-clause-next
take_pass-pass-requires-clause-next c =
    let end : c.machines-machine-end.result ≡ c.args.plan.now.named.plan.machines = c.machines-machine-end.ensures.machines ∙ ap (λ t. t.machines) c.plan.ensures in
    is_next c.args.interlock.now c.loop-machine.machine c.args.plan.now.named.plan.machines c.loop-machine.passes.actors c.loop-machine.invariant.left
    (subst (λ n. c.loop-machine.machine < n) end c.loop-machine-test.true)

pub loop-machine-preserved : goal.loop-machine-preserved
loop-machine-preserved c =
    let end : c.machines-machine-end.result ≡ c.args.plan.now.named.plan.machines = c.machines-machine-end.ensures.machines ∙ ap (λ t. t.machines) c.plan.ensures in
    let few : c.loop-machine.machine < c.args.plan.now.named.plan.machines = subst (λ n. c.loop-machine.machine < n) end c.loop-machine-test.true in
    let took = taken c.args.interlock.now c.loop-machine.machine c.args.plan.now.named.plan.machines c.take_pass-pass.result c.loop-machine.passes.actors c.take_pass-pass.new.passes.actors
    c.loop-machine.invariant.left few c.take_pass-pass.ensures.taken in
    let job = is_job c.args.plan.now c.args.interlock.now c.loop-machine.machine c.take_pass-pass.result c.in_ok-job_of.field-0 took.rules took.actor (c.take_pass-pass.ensures.table ∙ c.loop-machine.invariant.table)
    c.in_ok-job_of.ensures.pass c.in_ok-job_of.ensures.controller c.in_ok-job_of.ensures.devices c.in_ok-job_of.ensures.ready in
    record {
      table = c.take_pass-pass.ensures.same ∙ c.loop-machine.invariant.table;
      left = took.left;
      many = ap length c.in_ok-push.ensures.items ∙ length-append c.loop-machine.jobs.items (c.in_ok-job_of.field-0 ∷ []) ∙ ap (λ n. n + 1) c.loop-machine.invariant.many;
      each = push_job c.args.plan.now c.args.interlock.now c.loop-machine.machine c.loop-machine.jobs.items c.push.new.self.items c.in_ok-job_of.field-0 c.loop-machine.invariant.each c.loop-machine.invariant.many job c.in_ok-push.ensures.items;
    }
