use Rattle.std.proofs.Common.{arith, ◌≡◌, pos, ◌+ℤ◌, ◌-ℤ◌, to_z, of_z, w32}
use Rattle.std.proofs.lemmas.Int.{ints}
use Rattle.std.specs.Int.RustNames.{unsigned_abs}
use Rattle.cell_sensors.proofs.lemmas.LineLemmas.{rounded_down, reading_of_floor}
use Rattle.cell_sensors.proofs.line.position_on_line.Goals as goal

pub returns-clause-floor : goal.returns-clause-floor
returns-clause-floor c =
    let s = c.args.points.now in
    let k = c.raw_lo-raw_lo.ensures.limits in
    let rise = unsigned_abs (to_z w32 (of_z w32 (to_z w32 (of_z w32 c.at_hi.result) -ℤ to_z w32 (of_z w32 c.at_lo-at_lo.result)))) in
    let rises : s.at_hi -ℤ s.at_lo ≡ pos rise = omega (arith, ints) in
    let is : to_z w32 (of_z w32 (to_z w32 (of_z w32 c.at_lo-at_lo.result) +ℤ to_z w32 c.part_of.result)) ≡ s.at_lo +ℤ pos c.part_of.result = omega (arith, ints) in
    rounded_down s c.args.raw _ rise c.part_of.result k c.requires.low rises is (rw (c.raw_lo-raw_lo.ensures.value, c.raw_hi.ensures.value) at c.part_of.ensures.value)

pub returns-clause-reading : goal.returns-clause-reading
returns-clause-reading c = reading_of_floor c.args.points.now c.args.raw _ c.raw_lo-raw_lo.ensures.limits (returns-clause-floor c) (omega (arith, ints)) (omega (arith, ints))
