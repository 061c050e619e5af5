use Rattle.std.proofs.Common.{◌∙◌, ◌<◌, length, arith, rules}
use Rattle.std.proofs.lemmas.List.{length-set}
use Rattle.std.proofs.lemmas.List.Edits.{fill_by_more}
use Rattle.std.proofs.lemmas.List.FromFn.{fill_by_all}
use Rattle.plan_rules.specs.State.{free_zone}
use Rattle.plan_word.specs.Reading.{zone_in_word}
use Rattle.plan_word.proofs.word.zones_in_word.Goals as goal

pub loop-zone-preserved : goal.loop-zone-preserved
loop-zone-preserved c =
    let f = zone_in_word c.args.plan.now c.args.word in
    let zones = c.loop-zone.zones in
    let i = c.loop-zone.zone in
    let ten = c.loop-zone.invariant.0 in
    let inside : i < length zones = omega (arith, ten, c.loop-zone-test.true) in
    rw c.zone_in_word.ensures.bits (length-set zones i (f i) ∙ ten, fill_by_more f zones i free_zone inside c.loop-zone.invariant.1)

pub returns : goal.returns
returns c = fill_by_all (zone_in_word c.args.plan.now c.args.word) c.loop-zone.zones 10 free_zone c.loop-zone.invariant.0 (search rules)
