use Rattle.std.proofs.Common.{◌≡◌, pos, ◌-ℤ◌, arith, rules, w32}
use Rattle.std.proofs.lemmas.Int.{ints, to_z-of_z}
use mir.Val.{SFits}
use Rattle.cell_parts.proofs.RawLemmas.{raw_rounded_down, raw_at_start, raw_at_end}
use Rattle.cell_parts.proofs.potentiometer.raw_at.Goals as goal

pub returns : goal.returns
returns c =
    let s = c.args.points.now in
    let long : s.at_hi -ℤ s.at_lo ≡ pos c.distance-length.result = omega (arith, ints) in
    let fits : SFits w32 c.args.position = search rules in
    let along = rw (to_z-of_z w32 c.args.position fits) at c.along.ensures in
    let part = rw (c.raw_lo-raw_lo.ensures.value, c.raw_hi.ensures.value) at c.part_of.ensures.value in
    rw c.raw_lo-raw_lo.ensures.value (record {
      between = λ low high. raw_rounded_down s c.args.position c.along.result c.distance-length.result c.part_of.result c.raw_lo-raw_lo.ensures.limits long (along.is low high) part;
      below = λ beyond. raw_at_start s c.along.result c.distance-length.result c.part_of.result (along.below beyond) part;
      above = λ beyond. raw_at_end s c.along.result c.distance-length.result c.part_of.result c.raw_lo-raw_lo.ensures.limits long (along.above beyond) part;
    })
