use Rattle.std.proofs.Common.{arith}
use Rattle.plan_motors.proofs.Leading.{at_first, further, grows, all_found}
use Rattle.plan_motors.proofs.poses.any_of.Goals as goal

pub loop-found-init : goal.loop-found-init
loop-found-init c = record { lead = at_first c.args.plan.now c.args.first.now c.args.second.now c.args.host c.args.moving; many = omega arith }

pub loop-found-preserved : goal.loop-found-preserved
loop-found-preserved c =
    let plan = c.machines.ensures.plan in
    let before = c.loop-found.any in
    let now = c.with_given-any.result in
    let there = c.in-Some.ensures.there in
    let leads = c.in-Some.ensures.further in
    let many = c.loop-found.invariant.many in
    let more = grows c.args.plan.now c.args.first.now c.args.second.now c.args.host c.args.moving before now c.in-Some.pose plan leads c.with_given-any.ensures in
    record {
      lead = further c.args.plan.now c.args.first.now c.args.second.now c.args.host c.args.moving before now c.in-Some.pose plan there leads c.with_given-any.ensures c.loop-found.invariant.lead;
      many = omega (arith, many, more);
    }

pub returns : goal.returns
returns c =
    let end = c.loop-found-test.false in
    let many = c.loop-found.invariant.many in
    record {
      all = all_found c.args.plan.now c.args.first.now c.args.second.now c.args.host c.args.moving c.loop-found.any c.machines.ensures.plan (omega (arith, end, many));
      lead = c.loop-found.invariant.lead;
    }
