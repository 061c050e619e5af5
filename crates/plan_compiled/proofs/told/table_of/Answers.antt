use Rattle.std.proofs.Common.{◌≡◌, ◌<◌, Bool, true, false, length, ◌∙◌, arith}
use Rattle.std.proofs.lemmas.List.{length-set}
use Rattle.plan_types.specs.Table.{zone_count}
use Rattle.plan_compiled.proofs.StateTold.{table_with, barred_table}
use Rattle.plan_compiled.proofs.told.table_of.Goals as goal

not_both : (b : Bool) → b ≡ true → b ≡ false → ⊥
not_both true e f = cc
not_both false e f = cc

pub loop-zone-preserved : goal.loop-zone-preserved
loop-zone-preserved c =
    let n = c.loop-zone.zone in
    let xs = c.loop-zone.table in
    let all = c.loop-zone.invariant.all in
    let few = c.zone_count-zones.ensures.few in
    let there : n < length xs = omega (arith, all, few, c.loop-zone-test.true) in
    record {
      all = length-set xs c.from.result c.ends_of.result ∙ all;
      ends = table_with c.args.plan.now n c.from.result xs c.ends_of.result c.from.ensures there c.loop-zone.invariant.ends (c.ends_of.ensures.ends, c.ends_of.ensures.few, λ _. c.ends_of.ensures.bits);
    }

pub returns : goal.returns
returns c =
    let t = c.args.plan.now in
    let all = c.loop-zone.invariant.all in
    let few = c.zone_count-zones.ensures.few in
    let count = c.zone_count-zones.ensures.count in
    let end : c.loop-zone.zone ≡ zone_count t = omega (arith, count) in
    record {
      zones = omega (arith, all, few, count);
      ends = λ z d l. (c.loop-zone.invariant.ends z d (omega (arith, l, end))).0;
      few = λ z d l. (c.loop-zone.invariant.ends z d (omega (arith, l, end))).1;
      bits = λ z d l. (c.loop-zone.invariant.ends z d (omega (arith, l, end))).2;
    }

pub returns-then-not-is_plain : goal.returns-then-not-is_plain
returns-then-not-is_plain c =
    let few = c.zone_count-zones.ensures.few in
    let count = c.zone_count-zones.ensures.count in
    barred_table c.args.plan.now (λ plain. not_both c.is_plain.result (c.is_plain.ensures.1 plain) c.if-not-is_plain.true) (omega (arith, few, count))
