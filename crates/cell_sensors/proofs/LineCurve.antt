-- The curve of a scale's line.
use Rattle.std.proofs.Common.{◌≡◌, ℕ, zero, suc, ◌+◌, ◌-◌, ◌*◌, ℤ, pos, ◌-ℤ◌, ◌≤ℤ◌, refl, arith, zero-mul}
use Rattle.std.proofs.lemmas.Int.{ints}
use Rattle.std.specs.Int.RustNames.{unsigned_abs}
use Rattle.cell_sensors.specs.Names.{Scale, IsScale, IsLineRoundedDown, pair_at, IsRising, IsNearPair, IsCurve}
use Rattle.cell_sensors.specs.Names.{IsOnCurve, AreNeighbours, line_through, ends_of}
use Rattle.cell_sensors.specs.Curve.{AreNearLine}
use Rattle.cell_sensors.proofs.CurveLemmas.{IsClose, near_of_close}

ends_rise : (s : Scale) → IsScale s → IsRising (ends_of s)
ends_rise s k zero h = k.raws_rise
ends_rise s k (suc i) h = absurd (omega arith)

low_ends : (s : Scale) → IsScale s → s.at_lo ≤ℤ s.at_hi
low_ends s k = omega (arith, ints, k.ats_rise)

nothing : (n rise : ℕ) → (n - n) * rise ≡ 0
nothing n rise = let zero_width : n - n ≡ 0 = omega arith in rw zero_width (zero-mul rise)

first_near : (s : Scale) → IsScale s → IsNearPair s (s.raw_lo, s.at_lo)
first_near s k =
    let rise = unsigned_abs (s.at_hi -ℤ s.at_lo) in
    let rises : s.at_hi -ℤ s.at_lo ≡ pos rise = omega (arith, ints, k.ats_rise) in
    let t = unsigned_abs (s.tol -ℤ pos 1) in
    let slack : s.tol -ℤ pos 1 ≡ pos t = omega (arith, ints, k.finest) in
    let none : (s.raw_lo - s.raw_lo) * rise ≡ 0 = nothing s.raw_lo rise in
    let close : IsClose s s.raw_lo rise 0 t = record { high = omega arith; low = omega arith } in
    record {
      near = near_of_close s s.raw_lo s.at_lo (s.tol -ℤ pos 1) rise 0 t k (omega arith) rises (omega (arith, ints)) slack close;
      first = omega (arith, ints);
      last = low_ends s k;
    }

last_near : (s : Scale) → IsScale s → IsNearPair s (s.raw_hi, s.at_hi)
last_near s k =
    let rise = unsigned_abs (s.at_hi -ℤ s.at_lo) in
    let rises : s.at_hi -ℤ s.at_lo ≡ pos rise = omega (arith, ints, k.ats_rise) in
    let t = unsigned_abs (s.tol -ℤ pos 1) in
    let slack : s.tol -ℤ pos 1 ≡ pos t = omega (arith, ints, k.finest) in
    let close : IsClose s s.raw_hi rise rise t = record { high = omega arith; low = omega arith } in
    record {
      near = near_of_close s s.raw_hi s.at_hi (s.tol -ℤ pos 1) rise rise t k (omega (arith, k.raws_rise)) rises (omega (arith, ints)) slack close;
      first = low_ends s k;
      last = omega (arith, ints);
    }

ends_near : (s : Scale) → IsScale s → AreNearLine s (ends_of s)
ends_near s k zero h = first_near s k
ends_near s k (suc zero) h = last_near s k
ends_near s k (suc (suc i)) h = absurd (omega arith)

pub ends_make_curve : (s : Scale) → IsScale s → IsCurve s (ends_of s)
ends_make_curve s k = record {
  number = record { least = omega arith; most = omega arith };
  ends = record { first = refl; last = refl };
  rising = ends_rise s k;
  near = ends_near s k;
}

only_part : (s : Scale) (raw : ℕ) (v : ℤ) (i : ℕ) → AreNeighbours (ends_of s) i raw → IsLineRoundedDown (line_through (pair_at (ends_of s) i) (pair_at (ends_of s) (i + 1))) raw v → IsLineRoundedDown s raw v
only_part s raw v zero between rounded = record { not_above = rounded.not_above; next_above = rounded.next_above }
only_part s raw v (suc i) between rounded = absurd (omega (arith, between.within))

pub ends_read_line : (s : Scale) (raw : ℕ) (v : ℤ) → IsOnCurve (ends_of s) raw v → IsLineRoundedDown s raw v
ends_read_line s raw v on = only_part s raw v on.left on.neighbours on.rounded
