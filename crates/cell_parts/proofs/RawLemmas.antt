-- The raw value that an ideal sensor gives at a position.
use Rattle.std.proofs.Common.{◌≡◌, ℕ, ◌+◌, ◌-◌, ◌*◌, ◌/◌, ◌<◌, ◌≤◌, ℤ, pos, ◌-ℤ◌, arith}
use Rattle.std.proofs.lemmas.Int.{ints}
use Rattle.std.proofs.Math.Nat.{div-mul-le_self, lt-div-mul-add, mul-div_cancel_left}
use Rattle.cell_sensors.specs.Names.{Scale, IsScale, IsRawAt}

floor_naturals : (along width rise q : ℕ) → 0 < rise → q ≡ along * width / rise → (q * rise ≤ along * width) × (along * width < q * rise + rise)
floor_naturals along width rise q some e = rw e (div-mul-le_self (along * width) rise, lt-div-mul-add some)

raw_gap : (lo n : ℕ) → lo ≤ n → pos n -ℤ pos lo ≡ pos (n - lo)
raw_gap lo n h = omega (arith, ints)

-- the share of the raw width that a position's distance from the first point is of the length, rounded down
pub raw_rounded_down : (s : Scale) (position : ℤ) (along rise q : ℕ) → IsScale s → s.at_hi -ℤ s.at_lo ≡ pos rise → position -ℤ s.at_lo ≡ pos along → q ≡ along * (s.raw_hi - s.raw_lo) / rise
    → IsRawAt s position (s.raw_lo + q)
raw_rounded_down s position along rise q k rises is part =
    let some : 0 < rise = omega (arith, ints) in
    let naturals = floor_naturals along (s.raw_hi - s.raw_lo) rise q some part in
    let up : pos (s.raw_lo + q) -ℤ pos s.raw_lo ≡ pos q = omega (arith, ints) in
    let next : pos ((s.raw_lo + q) + 1) -ℤ pos s.raw_lo ≡ pos (q + 1) = omega (arith, ints) in
    let width = raw_gap s.raw_lo s.raw_hi (omega arith) in
    record {
      not_above = rw (up, width, is, rises) (omega (arith, ints));
      next_above = rw (next, width, is, rises) (omega (arith, ints));
    }

-- the whole length gives the whole raw width
pub raw_at_end : (s : Scale) (along rise q : ℕ) → IsScale s → s.at_hi -ℤ s.at_lo ≡ pos rise → pos along ≡ s.at_hi -ℤ s.at_lo → q ≡ along * (s.raw_hi - s.raw_lo) / rise
    → s.raw_lo + q ≡ s.raw_hi
raw_at_end s along rise q k rises whole part =
    let some : 0 < rise = omega (arith, ints) in
    let same : along ≡ rise = omega (arith, ints) in
    let width : q ≡ s.raw_hi - s.raw_lo = rw (part, same) (mul-div_cancel_left (s.raw_hi - s.raw_lo) some) in
    omega arith

-- zero length gives zero raw width
pub raw_at_start : (s : Scale) (along rise q : ℕ) → along ≡ 0 → q ≡ along * (s.raw_hi - s.raw_lo) / rise → s.raw_lo + q ≡ s.raw_lo
raw_at_start s along rise q nothing part = let none : q ≡ 0 = rw (part, nothing) (grind arith) in omega arith
