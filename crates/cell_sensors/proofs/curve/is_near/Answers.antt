use Rattle.std.proofs.Common.{◌≡◌, ◌-◌, ◌*◌, ◌+ℤ◌, ◌≤ℤ◌, pos, arith, refl}
use Rattle.std.proofs.lemmas.Int.{ints}
use Rattle.std.proofs.lemmas.Nat.{mul-lt}
use Rattle.cell_sensors.proofs.CurveLemmas.{near_pair_iff}
use Rattle.cell_sensors.proofs.curve.is_near.Goals as goal
use Rattle.cell_sensors.proofs.curve.is_near.Goals.{then-position-at_lo-via-then-position-at_lo, then-position-at_lo-via-else-position-at_lo+then-at_hi-position}

pub overflow_mul-height : goal.overflow_mul-height
overflow_mul-height c = omega (arith, mul-lt c.from.result c.from-width.result 4294967296 4294967296 (omega arith) (omega arith))

pub overflow_mul-line : goal.overflow_mul-line
overflow_mul-line c = omega (arith, mul-lt c.from-2.result c.from-3.result 4294967296 4294967296 (omega arith) (omega arith))

pub overflow_mul-slack : goal.overflow_mul-slack
overflow_mul-slack c = omega (arith, mul-lt c.from-4.result c.from-width.result 4294967296 4294967296 (omega arith) (omega arith))

pub returns : goal.returns
returns c =
    let s = c.args.points in
    let width : c.from-width.result ≡ s.raw_hi - s.raw_lo = omega arith in
    let high : c.from.result ≡ c.above.result = omega arith in
    let along : c.from-2.result ≡ c.args.pair.0 - s.raw_lo = omega arith in
    let rise : c.from-3.result ≡ c.above-2.result = omega arith in
    let left : c.from-4.result ≡ c.slack.result = omega arith in
    let slack : c.from-4.result * c.from-width.result ≡ c.slack.result * (s.raw_hi - s.raw_lo) = rw (left, width) refl in
    let first : s.at_lo ≤ℤ c.args.pair.1 = omega (arith, ints) in
    let last : c.args.pair.1 ≤ℤ s.at_hi = omega (arith, ints) in
    let position : c.args.pair.1 ≡ s.at_lo +ℤ pos c.above.result = omega (arith, ints) in
    let top : s.at_hi ≡ s.at_lo +ℤ pos c.above-2.result = omega (arith, ints) in
    near_pair_iff s c.args.pair c.above.result c.above-2.result c.slack.result c.abs_diff.result (c.from-4.result * c.from-width.result) c.at_lo.ensures.limits c.requires first last position top c.slack.ensures.value (rw (high, width, along, rise) at c.abs_diff.ensures) slack

pub returns-then-position-at_lo : goal.returns-then-position-at_lo
returns-then-position-at_lo c = (
  λ yes. cc,
  λ near. elim c.then-position-at_lo.branch [
    | then-position-at_lo-via-then-position-at_lo w ↦ absurd (omega (arith, ints))
    | then-position-at_lo-via-else-position-at_lo+then-at_hi-position w ↦ absurd (omega (arith, ints))
  ],
)
