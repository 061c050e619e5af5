use Rattle.std.proofs.Common.{◌∙◌, ◌<◌, length, arith, rules}
use Rattle.std.proofs.lemmas.List.{length-set}
use Rattle.std.proofs.lemmas.List.Edits.{fill_by_more}
use Rattle.std.proofs.lemmas.List.FromFn.{fill_by_all}
use Rattle.plan_motors.specs.Motor.{no_need}
use Rattle.plan_drives.specs.Facts.{zone_facts}
use Rattle.plan_drives.proofs.facts.all_zone_facts.Goals as goal

pub loop-zone-preserved : goal.loop-zone-preserved
loop-zone-preserved c =
    let f = zone_facts c.args.plan.now c.args.known.now c.args.call in
    let zones = c.loop-zone.zones in
    let i = c.loop-zone.zone in
    let all = c.loop-zone.invariant.0 in
    let inside : i < length zones = omega (arith, all, c.loop-zone-test.true) in
    rw c.zone_facts.ensures (length-set zones i (f i) ∙ all, fill_by_more f zones i no_need inside c.loop-zone.invariant.1)

pub returns : goal.returns
returns c = fill_by_all (zone_facts c.args.plan.now c.args.known.now c.args.call) c.loop-zone.zones 10 no_need c.loop-zone.invariant.0 (search rules)
