-- Curves: means of two heights, near pairs, and the line through two pairs.
use Rattle.std.proofs.Common.{◌≡◌, ℕ, zero, suc, ◌+◌, ◌-◌, ◌*◌, ◌/◌, ◌<◌, ◌≤◌, ℤ, pos, ◌+ℤ◌, ◌-ℤ◌, ◌*ℤ◌, ◌≤ℤ◌, ◌<ℤ◌, List, length, sym, ap, ◌∙◌, subst, arith, add-zero, mul-le-mul_left, mul-le-mul_right, le_of_mul-le-mul_right, div-mul-le_self, IsTrue, nat_le, leb-true, le-leb}
use Rattle.std.proofs.lemmas.Int.{ints}
use Rattle.std.proofs.Math.Nat.{lt-div-mul-add}
use Rattle.std.specs.Int.RustNames.{unsigned_abs}
use lib.IntN.{pos-*ℤ-pos, *ℤ_comm}
use Rattle.cell_sensors.specs.Names.{Scale, IsScale, raw_width, height_of, line_height, IsLineNear, IsReading}
use Rattle.cell_sensors.specs.Names.{IsLineRoundedDown, Pair, raw_at, IsRising, IsNearPair, line_through}
use Rattle.cell_sensors.proofs.lemmas.LineLemmas.{add-mul_ℤ, raw_gap}

-- ---- the mean of two heights, as numbers: e and d are their weights

pub mean_within : (q low high d e most : ℕ) → 0 < d + e → q * (d + e) ≤ e * low + d * high → low ≤ most → high ≤ most → q ≤ most
mean_within q low high d e most some mean below above =
    let a = mul-le-mul_left e below in
    let b = mul-le-mul_left d above in
    le_of_mul-le-mul_right {m = q} {n = most} {k = d + e} (omega (arith, a, b)) some

-- if two heights are at most the line and a slack, so is their mean
mean_low : (d e y y0 y1 x0 rise width t : ℕ) → 0 < d + e → y * (d + e) ≤ e * y0 + d * y1
    → y0 * width ≤ x0 * rise + t * width → y1 * width ≤ (x0 + (d + e)) * rise + t * width → y * width ≤ (x0 + d) * rise + t * width
mean_low d e y y0 y1 x0 rise width t some mean left right =
    let a = mul-le-mul_right width mean in
    let b = mul-le-mul_left e left in
    let c = mul-le-mul_left d right in
    le_of_mul-le-mul_right {m = y * width} {n = (x0 + d) * rise + t * width} {k = d + e} (omega (arith, a, b, c)) some

-- if the line is at most two heights and a slack, it is at most their mean rounded down, that slack and 1
mean_high : (d e y y0 y1 x0 rise width t : ℕ) → 0 < d + e → e * y0 + d * y1 < y * (d + e) + (d + e)
    → x0 * rise ≤ y0 * width + t * width → (x0 + (d + e)) * rise ≤ y1 * width + t * width → (x0 + d) * rise ≤ y * width + (t + 1) * width
mean_high d e y y0 y1 x0 rise width t some mean left right =
    let a = mul-le-mul_right width mean in
    let b = mul-le-mul_left e left in
    let c = mul-le-mul_left d right in
    le_of_mul-le-mul_right {m = (x0 + d) * rise} {n = y * width + (t + 1) * width} {k = d + e} (omega (arith, a, b, c)) some

-- ---- heights of positions from the first on, as numbers

height_number : (s : Scale) (v : ℤ) (y : ℕ) → s.raw_lo ≤ s.raw_hi → v ≡ s.at_lo +ℤ pos y → height_of s v ≡ pos (y * (s.raw_hi - s.raw_lo))
height_number s v y k is =
    let up : v -ℤ s.at_lo ≡ pos y = omega (arith, ints) in
    let width = raw_gap s.raw_lo s.raw_hi k in
    rw (up, width) (pos-*ℤ-pos y (s.raw_hi - s.raw_lo))

line_number : (s : Scale) (raw rise : ℕ) → s.raw_lo ≤ raw → s.at_hi -ℤ s.at_lo ≡ pos rise → line_height s raw ≡ pos ((raw - s.raw_lo) * rise)
line_number s raw rise low rises =
    let along = raw_gap s.raw_lo raw low in
    rw (along, rises) (pos-*ℤ-pos (raw - s.raw_lo) rise)

slack_number : (s : Scale) (d : ℤ) (t : ℕ) → s.raw_lo ≤ s.raw_hi → d ≡ pos t → d *ℤ raw_width s ≡ pos (t * (s.raw_hi - s.raw_lo))
slack_number s d t k is =
    let width = raw_gap s.raw_lo s.raw_hi k in
    rw (is, width) (pos-*ℤ-pos t (s.raw_hi - s.raw_lo))

at_most_numbers : (h l d : ℤ) (a b c : ℕ) → h ≡ pos a → l ≡ pos b → d ≡ pos c → h ≤ℤ (l +ℤ d) → a ≤ b + c
at_most_numbers h l d a b c p q r le = omega (arith, ints)

at_most_of_numbers : (h l d : ℤ) (a b c : ℕ) → h ≡ pos a → l ≡ pos b → d ≡ pos c → a ≤ b + c → h ≤ℤ (l +ℤ d)
at_most_of_numbers h l d a b c p q r le = omega (arith, ints)

-- the line is within a distance of a position, as numbers
pub record IsClose (s : Scale) (raw rise y t : ℕ) : Type 0 where
  pub high : y * (s.raw_hi - s.raw_lo) ≤ (raw - s.raw_lo) * rise + t * (s.raw_hi - s.raw_lo)
  pub low : (raw - s.raw_lo) * rise ≤ y * (s.raw_hi - s.raw_lo) + t * (s.raw_hi - s.raw_lo)

pub close_of_near : (s : Scale) (raw : ℕ) (v d : ℤ) (rise y t : ℕ) → IsScale s → s.raw_lo ≤ raw → s.at_hi -ℤ s.at_lo ≡ pos rise → v ≡ s.at_lo +ℤ pos y → d ≡ pos t → IsLineNear s raw v d → IsClose s raw rise y t
close_of_near s raw v d rise y t k low rises is slack near =
    let wide : s.raw_lo ≤ s.raw_hi = omega (arith, k.raws_rise) in
    let h = height_number s v y wide is in
    let l = line_number s raw rise low rises in
    let n = slack_number s d t wide slack in
    record {
      high = at_most_numbers (height_of s v) (line_height s raw) (d *ℤ raw_width s) _ _ _ h l n near.not_below;
      low = at_most_numbers (line_height s raw) (height_of s v) (d *ℤ raw_width s) _ _ _ l h n near.not_above;
    }

pub near_of_close : (s : Scale) (raw : ℕ) (v d : ℤ) (rise y t : ℕ) → IsScale s → s.raw_lo ≤ raw → s.at_hi -ℤ s.at_lo ≡ pos rise → v ≡ s.at_lo +ℤ pos y → d ≡ pos t → IsClose s raw rise y t → IsLineNear s raw v d
near_of_close s raw v d rise y t k low rises is slack close =
    let wide : s.raw_lo ≤ s.raw_hi = omega (arith, k.raws_rise) in
    let h = height_number s v y wide is in
    let l = line_number s raw rise low rises in
    let n = slack_number s d t wide slack in
    record {
      not_below = at_most_of_numbers (height_of s v) (line_height s raw) (d *ℤ raw_width s) _ _ _ h l n close.high;
      not_above = at_most_of_numbers (line_height s raw) (height_of s v) (d *ℤ raw_width s) _ _ _ l h n close.low;
    }

-- ---- the position between two pairs

difference_of_sum : (x a b : ℤ) → a ≡ x +ℤ b → x ≡ a -ℤ b
difference_of_sum x a b e = omega (arith, ints)

sub-mul_numbers : (a b w : ℕ) → (pos a -ℤ pos b) *ℤ pos w ≡ pos (a * w) -ℤ pos (b * w)
sub-mul_numbers a b w =
    let whole : (pos a -ℤ pos b) +ℤ pos b ≡ pos a = omega (arith, ints) in
    let parts = add-mul_ℤ (pos a -ℤ pos b) (pos b) (pos w) in
    let sum : pos a *ℤ pos w ≡ (pos a -ℤ pos b) *ℤ pos w +ℤ pos b *ℤ pos w = ap (λ (z : ℤ). z *ℤ pos w) (sym whole) ∙ parts in
    difference_of_sum ((pos a -ℤ pos b) *ℤ pos w) (pos (a * w)) (pos (b * w)) (sym (pos-*ℤ-pos a w) ∙ sum ∙ ap (λ (z : ℤ). (pos a -ℤ pos b) *ℤ pos w +ℤ z) (pos-*ℤ-pos b w))

mul-sub_numbers : (a b w : ℕ) → pos w *ℤ (pos a -ℤ pos b) ≡ pos (a * w) -ℤ pos (b * w)
mul-sub_numbers a b w = *ℤ_comm (pos w) (pos a -ℤ pos b) ∙ sub-mul_numbers a b w

lowers : (d e q y0 y1 : ℕ) → q * (d + e) ≤ e * y0 + d * y1 → (pos (q * (d + e)) -ℤ pos (y0 * (d + e))) ≤ℤ (pos (y1 * d) -ℤ pos (y0 * d))
lowers d e q y0 y1 h = omega (arith, ints)

uppers : (d e q y0 y1 : ℕ) → e * y0 + d * y1 < q * (d + e) + (d + e) → (pos (y1 * d) -ℤ pos (y0 * d)) <ℤ (pos ((q + 1) * (d + e)) -ℤ pos (y0 * (d + e)))
uppers d e q y0 y1 h = omega (arith, ints)

mean_numbers : (d e y0 y1 q : ℕ) → 0 < d + e → q ≡ (e * y0 + d * y1) / (d + e) → (q * (d + e) ≤ e * y0 + d * y1) × (e * y0 + d * y1 < q * (d + e) + (d + e))
mean_numbers d e y0 y1 q some is = rw is (div-mul-le_self (e * y0 + d * y1) (d + e), lt-div-mul-add some)

-- positions as distances from a first one
shifted : (v lo a : ℤ) (y y0 : ℕ) → v ≡ lo +ℤ pos y → a ≡ lo +ℤ pos y0 → v -ℤ a ≡ pos y -ℤ pos y0
shifted v lo a y y0 p q = omega (arith, ints)

next_shifted : (v lo : ℤ) (y : ℕ) → v ≡ lo +ℤ pos y → v +ℤ pos 1 ≡ lo +ℤ pos (y + 1)
next_shifted v lo y p = omega (arith, ints)

gap : (r0 raw r1 : ℕ) → r0 ≤ raw → raw ≤ r1 → pos r1 -ℤ pos r0 ≡ pos ((raw - r0) + (r1 - raw))
gap r0 raw r1 p q = omega (arith, ints)

-- the mean of two pairs' heights, which weigh what the raw value is away from the other, is the line through the pairs, rounded down
pub mean_on_line : (left right : Pair) (raw : ℕ) (lo v : ℤ) (y0 y1 q : ℕ) → left.0 ≤ raw → raw ≤ right.0 → left.0 < right.0
    → left.1 ≡ lo +ℤ pos y0 → right.1 ≡ lo +ℤ pos y1 → v ≡ lo +ℤ pos q
    → q ≡ ((right.0 - raw) * y0 + (raw - left.0) * y1) / ((raw - left.0) + (right.0 - raw)) → IsLineRoundedDown (line_through left right) raw v
mean_on_line left right raw lo v y0 y1 q low high rising first second is mean =
    let d = raw - left.0 in
    let e = right.0 - raw in
    let numbers = mean_numbers d e y0 y1 q (omega arith) mean in
    let width = gap left.0 raw right.0 low high in
    let along = raw_gap left.0 raw low in
    let rise = shifted right.1 lo left.1 y1 y0 second first in
    let up = shifted v lo left.1 q y0 is first in
    let next = shifted (v +ℤ pos 1) lo left.1 (q + 1) y0 (next_shifted v lo q is) first in
    record {
      not_above = rw (up, width, along, rise, sub-mul_numbers q y0 (d + e), mul-sub_numbers y1 y0 d) (lowers d e q y0 y1 numbers.0);
      next_above = rw (next, width, along, rise, sub-mul_numbers (q + 1) y0 (d + e), mul-sub_numbers y1 y0 d) (uppers d e q y0 y1 numbers.1);
    }

along_sum : (lo r0 raw : ℕ) → lo ≤ r0 → r0 ≤ raw → raw - lo ≡ (r0 - lo) + (raw - r0)
along_sum lo r0 raw p q = omega arith

whole_sum : (lo r0 raw r1 : ℕ) → lo ≤ r0 → r0 ≤ raw → raw ≤ r1 → r1 - lo ≡ (r0 - lo) + ((raw - r0) + (r1 - raw))
whole_sum lo r0 raw r1 p q r = omega arith

-- and it is a reading of the scale that the pairs are near
pub mean_is_reading : (s : Scale) (left right : Pair) (raw : ℕ) (v : ℤ) (y0 y1 q : ℕ) → IsScale s → s.raw_lo ≤ left.0 → IsNearPair s left → IsNearPair s right
    → left.0 ≤ raw → raw ≤ right.0 → left.0 < right.0 → left.1 ≡ s.at_lo +ℤ pos y0 → right.1 ≡ s.at_lo +ℤ pos y1 → v ≡ s.at_lo +ℤ pos q
    → q ≡ ((right.0 - raw) * y0 + (raw - left.0) * y1) / ((raw - left.0) + (right.0 - raw)) → IsReading s raw v
mean_is_reading s left right raw v y0 y1 q k inside nearl nearr low high rising first second is mean =
    let d = raw - left.0 in
    let e = right.0 - raw in
    let some : 0 < d + e = omega arith in
    let numbers = mean_numbers d e y0 y1 q some mean in
    let rise = unsigned_abs (s.at_hi -ℤ s.at_lo) in
    let rises : s.at_hi -ℤ s.at_lo ≡ pos rise = omega (arith, ints, k.ats_rise) in
    let t = unsigned_abs (s.tol -ℤ pos 1) in
    let slack : s.tol -ℤ pos 1 ≡ pos t = omega (arith, ints, k.finest) in
    let more : s.tol ≡ pos (t + 1) = omega (arith, ints) in
    let l = close_of_near s left.0 left.1 (s.tol -ℤ pos 1) rise y0 t k inside rises first slack nearl.near in
    let r = close_of_near s right.0 right.1 (s.tol -ℤ pos 1) rise y1 t k (omega arith) rises second slack nearr.near in
    let width = s.raw_hi - s.raw_lo in
    let along = along_sum s.raw_lo left.0 raw inside low in
    let whole = whole_sum s.raw_lo left.0 raw right.0 inside low high in
    let top = mean_low d e q y0 y1 (left.0 - s.raw_lo) rise width t some numbers.0 l.high (subst (λ (x : ℕ). y1 * width ≤ x * rise + t * width) whole r.high) in
    let foot = mean_high d e q y0 y1 (left.0 - s.raw_lo) rise width t some numbers.1 l.low (subst (λ (x : ℕ). x * rise ≤ y1 * width + t * width) whole r.low) in
    let close : IsClose s raw rise q (t + 1) = record {
      high = rw along (omega (arith, top));
      low = rw along foot;
    } in
    let most = mean_within q y0 y1 d e rise some numbers.0 (below_rise s left.1 y0 rise rises first nearl.last) (below_rise s right.1 y1 rise rises second nearr.last) in
    record {
      near = near_of_close s raw v s.tol rise q (t + 1) k (omega arith) rises is more close;
      first = above_first s.at_lo v q is;
      last = below_last s v q rise rises is most;
    }
  where
    below_rise : (s : Scale) (a : ℤ) (y rise : ℕ) → s.at_hi -ℤ s.at_lo ≡ pos rise → a ≡ s.at_lo +ℤ pos y → a ≤ℤ s.at_hi → y ≤ rise
    below_rise s a y rise p q r = omega (arith, ints)

    above_first : (lo v : ℤ) (q : ℕ) → v ≡ lo +ℤ pos q → lo ≤ℤ v
    above_first lo v q p = omega (arith, ints)

    below_last : (s : Scale) (v : ℤ) (q rise : ℕ) → s.at_hi -ℤ s.at_lo ≡ pos rise → v ≡ s.at_lo +ℤ pos q → q ≤ rise → v ≤ℤ s.at_hi
    below_last s v q rise p r h = omega (arith, ints)

-- the mean is at most the last position
pub mean_stays : (s : Scale) (left right : ℤ) (y0 y1 q : ℕ) → left ≡ s.at_lo +ℤ pos y0 → right ≡ s.at_lo +ℤ pos y1 → left ≤ℤ s.at_hi → right ≤ℤ s.at_hi
    → ((most : ℕ) → y0 ≤ most → y1 ≤ most → q ≤ most) → (s.at_lo +ℤ pos q) ≤ℤ s.at_hi
mean_stays s left right y0 y1 q first second low high within =
    let rise = unsigned_abs (s.at_hi -ℤ s.at_lo) in
    let rises : s.at_hi -ℤ s.at_lo ≡ pos rise = omega (arith, ints) in
    let most = within rise (omega (arith, ints)) (omega (arith, ints)) in
    omega (arith, ints)

-- ---- a test of a pair

difference_test : (diff h l n : ℕ) → diff ≡ (h - l) + (l - h) → (diff ≤ n → (h ≤ l + n) × (l ≤ h + n)) × ((h ≤ l + n) × (l ≤ h + n) → diff ≤ n)
difference_test diff h l n is = (λ d. (omega arith, omega arith), λ both. let a = both.0 in let b = both.1 in omega arith)

rise_of : (lo hi : ℤ) (rise : ℕ) → hi ≡ lo +ℤ pos rise → hi -ℤ lo ≡ pos rise
rise_of lo hi rise e = omega (arith, ints)

-- a pair between the ends is near exactly if its height and the line's differ by the slack at most
pub near_pair_iff : (s : Scale) (pair : Pair) (y rise t diff n : ℕ) → IsScale s → s.raw_lo ≤ pair.0 → s.at_lo ≤ℤ pair.1 → pair.1 ≤ℤ s.at_hi
    → pair.1 ≡ s.at_lo +ℤ pos y → s.at_hi ≡ s.at_lo +ℤ pos rise → s.tol -ℤ pos 1 ≡ pos t
    → diff ≡ (y * (s.raw_hi - s.raw_lo) - (pair.0 - s.raw_lo) * rise) + ((pair.0 - s.raw_lo) * rise - y * (s.raw_hi - s.raw_lo))
    → n ≡ t * (s.raw_hi - s.raw_lo) → (IsTrue (nat_le diff n) → IsNearPair s pair) × (IsNearPair s pair → IsTrue (nat_le diff n))
near_pair_iff s pair y rise t diff n k low first last is rises slack far slacks =
    let tests = difference_test diff (y * (s.raw_hi - s.raw_lo)) ((pair.0 - s.raw_lo) * rise) n far in
    let up = rise_of s.at_lo s.at_hi rise rises in (
      λ yes.
          let both = tests.0 (leb-true diff n yes) in
          let close : IsClose s pair.0 rise y t = record { high = subst (λ (m : ℕ). y * (s.raw_hi - s.raw_lo) ≤ (pair.0 - s.raw_lo) * rise + m) slacks both.0; low = subst (λ (m : ℕ). (pair.0 - s.raw_lo) * rise ≤ y * (s.raw_hi - s.raw_lo) + m) slacks both.1 } in
          record { near = near_of_close s pair.0 pair.1 (s.tol -ℤ pos 1) rise y t k low up is slack close; first = first; last = last },
      λ near.
          let close = close_of_near s pair.0 pair.1 (s.tol -ℤ pos 1) rise y t k low up is slack near.near in
          le-leb diff n (tests.1 (subst (λ (m : ℕ). y * (s.raw_hi - s.raw_lo) ≤ (pair.0 - s.raw_lo) * rise + m) (sym slacks) close.high, subst (λ (m : ℕ). (pair.0 - s.raw_lo) * rise ≤ y * (s.raw_hi - s.raw_lo) + m) (sym slacks) close.low)),
    )

-- ---- pairs in order

-- raw values that rise by 1 at least from each to the next rise by k from each to the k-th after it
rises_by : (pairs : List Pair) → IsRising pairs → (i k : ℕ) → i + k ≤ length pairs - 1 → raw_at pairs i + k ≤ raw_at pairs (i + k)
rises_by pairs rising i zero h = subst (λ (j : ℕ). raw_at pairs i + 0 ≤ raw_at pairs j) (sym (add-zero i)) (omega arith)
rises_by pairs rising i (suc k) h =
    let before = rises_by pairs rising i k (omega arith) in
    let step = rising (i + k) (omega arith) in
    let next : (i + k) + 1 ≡ i + suc k = omega arith in
    subst (λ (j : ℕ). raw_at pairs i + suc k ≤ raw_at pairs j) next (omega arith)

pub rises_to : (pairs : List Pair) → IsRising pairs → (i j : ℕ) → i ≤ j → j ≤ length pairs - 1 → raw_at pairs i + (j - i) ≤ raw_at pairs j
rises_to pairs rising i j h within =
    let whole : i + (j - i) ≡ j = omega arith in
    subst (λ (n : ℕ). raw_at pairs i + (j - i) ≤ raw_at pairs n) whole (rises_by pairs rising i (j - i) (omega arith))

-- no raw value is below the first
pub above_first_raw : (pairs : List Pair) → IsRising pairs → (i : ℕ) → i ≤ length pairs - 1 → raw_at pairs 0 ≤ raw_at pairs i
above_first_raw pairs rising i within = let more = rises_to pairs rising 0 i (omega arith) within in omega arith
