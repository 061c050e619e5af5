-- Heights and readings: how a reading's place bounds the exact line's, and the other way round.
use Rattle.std.proofs.Common.{◌≡◌, ℕ, ◌+◌, ◌-◌, ◌*◌, ◌/◌, ◌<◌, ◌≤◌, ℤ, pos, ◌+ℤ◌, ◌-ℤ◌, ◌*ℤ◌, ◌≤ℤ◌, ◌<ℤ◌, sym, ap, ◌∙◌, arith}
use Rattle.std.proofs.Math.IntN.{negsuc}
use Rattle.std.proofs.lemmas.Int.{ints, by_lt_z}
use Rattle.std.proofs.Math.Nat.{div-mul-le_self, lt-div-mul-add}
use borrow.Author.Differences.{up, down, sum_is_lem}
use Rattle.cell_sensors.specs.Names.{Scale, IsScale, raw_width, height_of, line_height, IsLineNear, IsLineBelow}
use Rattle.cell_sensors.specs.Names.{IsLineAbove, IsLineAtMost, IsLineAtLeast, IsWithinTolerance, IsReading}
use Rattle.cell_sensors.specs.Names.{IsLineRoundedDown, IsRawAt, IsNear}

pub add-mul_ℤ : (a b w : ℤ) → (a +ℤ b) *ℤ w ≡ a *ℤ w +ℤ b *ℤ w
add-mul_ℤ a b w = omega (arith, ints, ap (λ n. n * up w) (sum_is_lem a b), ap (λ n. n * down w) (sum_is_lem a b))

pub one-mul_ℤ : (w : ℤ) → pos 1 *ℤ w ≡ w
one-mul_ℤ w = omega (arith, ints)

mul_nonneg : (a b : ℤ) → pos 0 ≤ℤ a → pos 0 ≤ℤ b → pos 0 ≤ℤ (a *ℤ b)
mul_nonneg (pos m) (pos n) ha hb = omega (arith, ints)
mul_nonneg (pos m) (negsuc n) ha hb = absurd (omega (arith, ints))
mul_nonneg (negsuc m) b ha hb = absurd (omega (arith, ints))

-- multiplication by a number that isn't below 0 keeps an order
pub mul_mono : (a b w : ℤ) → a ≤ℤ b → pos 0 ≤ℤ w → (a *ℤ w) ≤ℤ (b *ℤ w)
mul_mono a b w h some =
    let rest = mul_nonneg (b -ℤ a) w (omega (arith, ints)) some in
    let whole : b ≡ a +ℤ (b -ℤ a) = omega (arith, ints) in
    let parts = add-mul_ℤ a (b -ℤ a) w in
    let sum : b *ℤ w ≡ a *ℤ w +ℤ (b -ℤ a) *ℤ w = ap (λ z. z *ℤ w) whole ∙ parts in
    omega (arith, ints)

pub width_positive : (s : Scale) → IsScale s → pos 0 <ℤ raw_width s
width_positive s k = omega (arith, ints)

height_of-add : (s : Scale) (p d : ℤ) → height_of s (p +ℤ d) ≡ height_of s p +ℤ d *ℤ raw_width s
height_of-add s p d =
    let shifted : (p +ℤ d) -ℤ s.at_lo ≡ (p -ℤ s.at_lo) +ℤ d = omega (arith, ints) in
    rw shifted (add-mul_ℤ (p -ℤ s.at_lo) d (raw_width s))

pub height_of-next : (s : Scale) (p : ℤ) → height_of s (p +ℤ pos 1) ≡ height_of s p +ℤ raw_width s
height_of-next s p = height_of-add s p (pos 1) ∙ ap (λ z. height_of s p +ℤ z) (one-mul_ℤ (raw_width s))

height_mono : (s : Scale) (p q : ℤ) → IsScale s → p ≤ℤ q → height_of s p ≤ℤ height_of s q
height_mono s p q k h = mul_mono (p -ℤ s.at_lo) (q -ℤ s.at_lo) (raw_width s) (omega (arith, ints)) (omega (arith, ints))

-- what is below the height of q + 1 is at most q
height_cancel : (s : Scale) (p q : ℤ) → IsScale s → height_of s p <ℤ height_of s (q +ℤ pos 1) → p ≤ℤ q
height_cancel s p q k h =
    by_lt_z q p
    (λ over. let more = height_mono s (q +ℤ pos 1) p k (omega (arith, ints)) in absurd (omega (arith, ints)))
    (λ under. under)

line_height-next : (s : Scale) (raw : ℕ) → line_height s (raw + 1) ≡ line_height s raw +ℤ (s.at_hi -ℤ s.at_lo)
line_height-next s raw =
    let rise = s.at_hi -ℤ s.at_lo in
    let next : pos (raw + 1) -ℤ pos s.raw_lo ≡ (pos raw -ℤ pos s.raw_lo) +ℤ pos 1 = omega (arith, ints) in
    rw next (add-mul_ℤ (pos raw -ℤ pos s.raw_lo) (pos 1) rise ∙ ap (λ z. line_height s raw +ℤ z) (one-mul_ℤ rise))

-- the same, as numbers
window_sum : (t v over under rest tol half line : ℤ) → rest +ℤ tol ≡ half → over ≡ v +ℤ rest → under ≡ t +ℤ rest → t ≤ℤ over → v ≤ℤ under → v ≤ℤ (line +ℤ tol) → line ≤ℤ (v +ℤ tol) → (t ≤ℤ (line +ℤ half)) × (line ≤ℤ (t +ℤ half))
window_sum t v over under rest tol half line a b c d e f g = (omega (arith, ints), omega (arith, ints))

-- if a reading is within a window less the tolerance, the line is within the window
pub line_in_window_lem : (s : Scale) (raw : ℕ) (v target half : ℤ) → IsScale s → IsWithinTolerance s raw v → IsNear v target (half -ℤ s.tol) → IsLineNear s raw target half
line_in_window_lem s raw v target half k near in_window =
    let rest = half -ℤ s.tol in
    let whole : rest +ℤ s.tol ≡ half = omega (arith, ints) in
    let parts : rest *ℤ raw_width s +ℤ s.tol *ℤ raw_width s ≡ half *ℤ raw_width s = sym (add-mul_ℤ rest s.tol (raw_width s)) ∙ ap (λ z. z *ℤ raw_width s) whole in
    let sums = window_sum (height_of s target) (height_of s v) (height_of s (v +ℤ rest)) (height_of s (target +ℤ rest)) (rest *ℤ raw_width s) (s.tol *ℤ raw_width s) (half *ℤ raw_width s) (line_height s raw) parts (height_of-add s v rest) (height_of-add s target rest) (height_mono s target (v +ℤ rest) k in_window.not_below) (height_mono s v (target +ℤ rest) k in_window.not_above) near.not_below near.not_above in
    record { not_below = sums.0; not_above = sums.1 }

-- a height that is below another by less than the tolerance and one raw width
next_above : (p v sum next tol width : ℤ) → next ≡ sum +ℤ width → sum ≡ v +ℤ tol → p <ℤ ((v +ℤ tol) +ℤ width) → p <ℤ next
next_above p v sum next tol width a b h = omega (arith, ints)

within_of_height : (s : Scale) (p v : ℤ) → IsScale s → height_of s p <ℤ ((height_of s v +ℤ s.tol *ℤ raw_width s) +ℤ raw_width s) → p ≤ℤ (v +ℤ s.tol)
within_of_height s p v k h =
    height_cancel s p (v +ℤ s.tol) k (next_above (height_of s p) (height_of s v) (height_of s (v +ℤ s.tol)) (height_of s ((v +ℤ s.tol) +ℤ pos 1)) (s.tol *ℤ raw_width s) (raw_width s) (height_of-next s (v +ℤ s.tol)) (height_of-add s v s.tol) h)

-- the heights of a position, of a reading and of the line, as numbers
ideal_sum : (p v line next rise tol width : ℤ) → pos 0 <ℤ width → rise ≤ℤ width → next ≡ line +ℤ rise → line ≤ℤ p → p <ℤ next → v ≤ℤ (line +ℤ tol) → line ≤ℤ (v +ℤ tol) → (p <ℤ ((v +ℤ tol) +ℤ width)) × (v <ℤ ((p +ℤ tol) +ℤ width))
ideal_sum p v line next rise tol width a b c d e f g = (omega (arith, ints), omega (arith, ints))

-- a reading of the raw value that an ideal sensor gives at a position is within the tolerance of the position
pub near_position_lem : (s : Scale) (position v : ℤ) (raw : ℕ) → IsScale s → (s.at_hi -ℤ s.at_lo) ≤ℤ raw_width s → IsRawAt s position raw → IsWithinTolerance s raw v → IsNear v position s.tol
near_position_lem s position v raw k wide ideal near =
    let sums = ideal_sum (height_of s position) (height_of s v) (line_height s raw) (line_height s (raw + 1)) (s.at_hi -ℤ s.at_lo) (s.tol *ℤ raw_width s) (raw_width s) (width_positive s k) wide (line_height-next s raw) ideal.not_above ideal.next_above near.not_below near.not_above in
    record { not_below = within_of_height s position v k sums.0; not_above = within_of_height s v position k sums.1 }

pub raw_gap : (lo n : ℕ) → lo ≤ n → pos n -ℤ pos lo ≡ pos (n - lo)
raw_gap lo n h = omega (arith, ints)

floor_naturals : (along rise width q : ℕ) → 0 < width → q ≡ along * rise / width → (q * width ≤ along * rise) × (along * rise < q * width + width)
floor_naturals along rise width q some e = rw e (div-mul-le_self (along * rise) width, lt-div-mul-add some)

-- the rise times the raw value's distance from the first, over the raw width, rounded down, is the line rounded down
pub rounded_down : (s : Scale) (raw : ℕ) (v : ℤ) (rise q : ℕ) → IsScale s → s.raw_lo ≤ raw → s.at_hi -ℤ s.at_lo ≡ pos rise → v ≡ s.at_lo +ℤ pos q → q ≡ (raw - s.raw_lo) * rise / (s.raw_hi - s.raw_lo) → IsLineRoundedDown s raw v
rounded_down s raw v rise q k low rises is part =
    let naturals = floor_naturals (raw - s.raw_lo) rise (s.raw_hi - s.raw_lo) q (omega arith) part in
    let up : v -ℤ s.at_lo ≡ pos q = omega (arith, ints) in
    let next : (v +ℤ pos 1) -ℤ s.at_lo ≡ pos (q + 1) = omega (arith, ints) in
    let along = raw_gap s.raw_lo raw low in
    let width = raw_gap s.raw_lo s.raw_hi (omega arith) in
    record {
      not_above = rw (up, width, along, rises) (omega (arith, ints));
      next_above = rw (next, width, along, rises) (omega (arith, ints));
    }

floor_sum : (v next line width tol : ℤ) → pos 0 <ℤ width → width ≤ℤ tol → next ≡ v +ℤ width → v ≤ℤ line → line <ℤ next → (v ≤ℤ (line +ℤ tol)) × (line ≤ℤ (v +ℤ tol))
floor_sum v next line width tol a b c d e = (omega (arith, ints), omega (arith, ints))

-- the line rounded down is within the tolerance, which is at least 1
pub reading_of_floor : (s : Scale) (raw : ℕ) (v : ℤ) → IsScale s → IsLineRoundedDown s raw v → s.at_lo ≤ℤ v → v ≤ℤ s.at_hi → IsReading s raw v
reading_of_floor s raw v k floor first last =
    let width = width_positive s k in
    let coarse : raw_width s ≤ℤ (s.tol *ℤ raw_width s) = rw one-mul_ℤ at (mul_mono (pos 1) s.tol (raw_width s) k.finest (omega (arith, ints))) in
    let sums = floor_sum (height_of s v) (height_of s (v +ℤ pos 1)) (line_height s raw) (raw_width s) (s.tol *ℤ raw_width s) width coarse (height_of-next s v) floor.not_above floor.next_above in
    record { near = record { not_below = sums.0; not_above = sums.1 }; first = first; last = last }

next_at_most : (p next q width : ℤ) → next ≡ p +ℤ width → pos 0 <ℤ width → next ≤ℤ q → p <ℤ q
next_at_most p next q width a b c = omega (arith, ints)

height_strict : (s : Scale) (p q : ℤ) → IsScale s → p <ℤ q → height_of s p <ℤ height_of s q
height_strict s p q k h =
    next_at_most (height_of s p) (height_of s (p +ℤ pos 1)) (height_of s q) (raw_width s) (height_of-next s p) (width_positive s k) (height_mono s (p +ℤ pos 1) q k (omega (arith, ints)))

-- the line is at most a reading plus the tolerance
line_top : (s : Scale) (raw : ℕ) (v : ℤ) → IsWithinTolerance s raw v → line_height s raw ≤ℤ height_of s (v +ℤ s.tol)
line_top s raw v near = rw (height_of-add s v s.tol) near.not_above

le_sums : (line top p : ℤ) → line ≤ℤ top → top ≤ℤ p → line ≤ℤ p
le_sums line top p a b = omega (arith, ints)

lt_sums : (line top p : ℤ) → line ≤ℤ top → top <ℤ p → line <ℤ p
lt_sums line top p a b = omega (arith, ints)

foot_sum : (p sum v line tol : ℤ) → sum ≡ p +ℤ tol → sum ≤ℤ v → v ≤ℤ (line +ℤ tol) → p ≤ℤ line
foot_sum p sum v line tol a b c = omega (arith, ints)

foot_strict : (p sum v line tol : ℤ) → sum ≡ p +ℤ tol → sum <ℤ v → v ≤ℤ (line +ℤ tol) → p <ℤ line
foot_strict p sum v line tol a b c = omega (arith, ints)

-- if a reading is below a position by the tolerance, the line is at most the position; if by more, the line is below it
-- (likewise above)
pub line_at_most : (s : Scale) (raw : ℕ) (v p : ℤ) → IsScale s → IsWithinTolerance s raw v → (v +ℤ s.tol) ≤ℤ p → IsLineAtMost s raw p
line_at_most s raw v p k near h = le_sums (line_height s raw) (height_of s (v +ℤ s.tol)) (height_of s p) (line_top s raw v near) (height_mono s (v +ℤ s.tol) p k h)

pub line_below : (s : Scale) (raw : ℕ) (v p : ℤ) → IsScale s → IsWithinTolerance s raw v → (v +ℤ s.tol) <ℤ p → IsLineBelow s raw p
line_below s raw v p k near h = lt_sums (line_height s raw) (height_of s (v +ℤ s.tol)) (height_of s p) (line_top s raw v near) (height_strict s (v +ℤ s.tol) p k h)

pub line_at_least : (s : Scale) (raw : ℕ) (v p : ℤ) → IsScale s → IsWithinTolerance s raw v → (p +ℤ s.tol) ≤ℤ v → IsLineAtLeast s raw p
line_at_least s raw v p k near h = foot_sum (height_of s p) (height_of s (p +ℤ s.tol)) (height_of s v) (line_height s raw) (s.tol *ℤ raw_width s) (height_of-add s p s.tol) (height_mono s (p +ℤ s.tol) v k h) near.not_below

pub line_above : (s : Scale) (raw : ℕ) (v p : ℤ) → IsScale s → IsWithinTolerance s raw v → (p +ℤ s.tol) <ℤ v → IsLineAbove s raw p
line_above s raw v p k near h = foot_strict (height_of s p) (height_of s (p +ℤ s.tol)) (height_of s v) (line_height s raw) (s.tol *ℤ raw_width s) (height_of-add s p s.tol) (height_strict s (p +ℤ s.tol) v k h) near.not_below

squeezed : (x y z : ℤ) → x ≤ℤ y → y ≤ℤ z → z <ℤ x → ⊥
squeezed x y z a b c = omega (arith, ints)

-- of two raw values that an ideal sensor gives at a position, neither is greater
not_later : (s : Scale) (position : ℤ) (a b : ℕ) → IsScale s → IsRawAt s position a → IsRawAt s position b → b ≤ a
not_later s position a b k one other =
    by_lt_z (pos a) (pos b)
    (λ later.
    let rise = s.at_hi -ℤ s.at_lo in
    let step = mul_mono (pos (a + 1) -ℤ pos s.raw_lo) (pos b -ℤ pos s.raw_lo) rise (omega (arith, ints)) (omega (arith, ints)) in
    absurd (squeezed (line_height s (a + 1)) (line_height s b) (height_of s position) step other.not_above one.next_above))
    (λ low. omega (arith, ints))

both_ways : (a b : ℕ) → b ≤ a → a ≤ b → b ≡ a
both_ways a b low high = omega arith

-- so it gives only one, and the line is at only one position
pub one_raw_at : (s : Scale) (position : ℤ) (a b : ℕ) → IsScale s → IsRawAt s position a → IsRawAt s position b → b ≡ a
one_raw_at s position a b k one other = both_ways a b (not_later s position a b k one other) (not_later s position b a k other one)

both_ways_ℤ : (v w : ℤ) → w ≤ℤ v → v ≤ℤ w → w ≡ v
both_ways_ℤ v w low high = omega (arith, ints)

lowered : (v w a : ℤ) → v <ℤ w → ((v +ℤ pos 1) -ℤ a) ≤ℤ (w -ℤ a)
lowered v w a h = omega (arith, ints)

-- of two positions on a line that goes from one raw value to a greater, neither is greater
no_higher : (s : Scale) (raw : ℕ) (v w : ℤ) → s.raw_lo < s.raw_hi → IsLineRoundedDown s raw v → IsLineRoundedDown s raw w → w ≤ℤ v
no_higher s raw v w wide one other =
    by_lt_z v w
    (λ later.
    let step = mul_mono ((v +ℤ pos 1) -ℤ s.at_lo) (w -ℤ s.at_lo) (raw_width s) (lowered v w s.at_lo later) (omega (arith, ints)) in
    absurd (squeezed (height_of s (v +ℤ pos 1)) (height_of s w) (line_height s raw) step other.not_above one.next_above))
    (λ low. low)

pub one_on_line : (s : Scale) (raw : ℕ) (v w : ℤ) → s.raw_lo < s.raw_hi → IsLineRoundedDown s raw v → IsLineRoundedDown s raw w → w ≡ v
one_on_line s raw v w wide one other = both_ways_ℤ v w (no_higher s raw v w wide one other) (no_higher s raw w v wide other one)

pub one_line_at : (s : Scale) (raw : ℕ) (v w : ℤ) → IsScale s → IsLineRoundedDown s raw v → IsLineRoundedDown s raw w → w ≡ v
one_line_at s raw v w k = one_on_line s raw v w k.raws_rise
