use Rattle.std.proofs.Common.{◌<◌, ◌+◌, ◌∷◌, [], ◌∙◌, ap, sym, refl, arith}
use Rattle.std.proofs.lemmas.Iterator.Adapters.{YieldsList-from_vec}
use Rattle.std.proofs.lemmas.Iterator.Consumers.{YieldsList-end, YieldsList-turn}
use Rattle.std.proofs.lemmas.List.{length-append}
use Rattle.plan_workers.proofs.Passes.{is_next, left_none, push_job, taken}
use Rattle.plan_workers.proofs.renewed.jobs_of.Goals as goal

pub take_pass-pass-requires-clause-next : goal.take_pass-pass-requires-clause-next
take_pass-pass-requires-clause-next g c =
    let given = c.into_iter-machine-iterator.ensures.into_iter_gives in
    let turn = YieldsList-turn (YieldsList-from_vec c.args.machines.items given.0 (given.1 ∙ c.args.machines.ok.0)) c.machines.yielded c.machines.machine-iterator c.machines.yielded_by c.next.result c.next.new.self c.in-Some.machine c.in-Some.is c.next.ensures.steps in
    let below = turn.0 in
    let few : c.machines.number < c.args.plan.now.machines = omega (arith, below, c.machines.invariant.number, c.requires.all) in
    is_next c.args.interlock.now c.machines.number c.args.plan.now.machines c.machines.passes.actors c.machines.invariant.left few

pub machines-preserved : goal.machines-preserved
machines-preserved g c =
    let i = c.args.interlock.now in
    let n = c.machines.number in
    let old = c.machines.invariant in
    let given = c.into_iter-machine-iterator.ensures.into_iter_gives in
    let turn = YieldsList-turn (YieldsList-from_vec c.args.machines.items given.0 (given.1 ∙ c.args.machines.ok.0)) c.machines.yielded c.machines.machine-iterator c.machines.yielded_by c.next.result c.next.new.self c.in-Some.machine c.in-Some.is c.next.ensures.steps in
    let below = turn.0 in
    let few : n < c.args.plan.now.machines = omega (arith, below, old.number, c.requires.all) in
    let took = taken i n c.args.plan.now.machines c.take_pass-pass.result c.machines.passes.actors c.take_pass-pass.new.passes.actors old.left few c.take_pass-pass.ensures.taken (c.take_pass-pass.ensures.table ∙ old.table) in record {
      table = c.take_pass-pass.ensures.same ∙ old.table;
      number = ap (λ k. k + 1) old.number ∙ sym (length-append c.machines.yielded (c.in-Some.machine ∷ []));
      left = took.left;
      jobs = push_job i c.machines.yielded c.in-Some.machine n c.take_pass-pass.result _ c.machines.jobs.items c.push.new.self.items old.jobs old.number took.pass refl c.in_ok-push.ensures.items;
    }

pub returns-clause-watch : goal.returns-clause-watch
returns-clause-watch g c =
    let given = c.into_iter-machine-iterator.ensures.into_iter_gives in
    let end = YieldsList-end (YieldsList-from_vec c.args.machines.items given.0 (given.1 ∙ c.args.machines.ok.0)) c.machines.yielded c.machines.machine-iterator c.machines.yielded_by c.next.result c.next.new.self c.in-None.is c.next.ensures.steps in
    let whole = end.1 in
    left_none c.args.interlock.now c.machines.number c.args.plan.now.machines c.machines.passes.actors c.machines.invariant.left (omega (arith, whole, c.machines.invariant.number, c.requires.all))
