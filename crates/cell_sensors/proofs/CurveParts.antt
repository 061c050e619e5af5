-- Two neighbouring parts of a curve agree where they meet.
use Rattle.std.proofs.Common.{◌≡◌, ℕ, ◌+◌, ◌<◌, ◌≤◌, ℤ, pos, ◌+ℤ◌, ◌-ℤ◌, ◌*ℤ◌, ◌≤ℤ◌, ◌<ℤ◌, List, sym, ap, ◌∙◌, subst, arith}
use Rattle.std.proofs.lemmas.Int.{ints}
use lib.IntN.{*ℤ_comm, zero-*ℤ}
use Rattle.cell_sensors.specs.Names.{Scale, raw_width, height_of, line_height, IsLineRoundedDown, Pair, pair_at, raw_at}
use Rattle.cell_sensors.specs.Names.{IsRising, AreNeighbours, line_through}
use Rattle.cell_sensors.proofs.lemmas.LineLemmas.{height_of-next, one_on_line}

same_below : (h l next width : ℤ) → h ≡ l → next ≡ h +ℤ width → pos 0 <ℤ width → (h ≤ℤ l) × (l <ℤ next)
same_below h l next width a b c = (omega (arith, ints), omega (arith, ints))

wider : (s : Scale) → s.raw_lo < s.raw_hi → pos 0 <ℤ raw_width s
wider s h = omega (arith, ints)

self_sub : (a : ℤ) → a -ℤ a ≡ pos 0
self_sub a = omega (arith, ints)

-- the line through two pairs goes through both
through_left : (s : Scale) → s.raw_lo < s.raw_hi → IsLineRoundedDown s s.raw_lo s.at_lo
through_left s wide =
    let foot : height_of s s.at_lo ≡ pos 0 = ap (λ (z : ℤ). z *ℤ raw_width s) (self_sub s.at_lo) ∙ zero-*ℤ (raw_width s) in
    let start : line_height s s.raw_lo ≡ pos 0 = ap (λ (z : ℤ). z *ℤ (s.at_hi -ℤ s.at_lo)) (self_sub (pos s.raw_lo)) ∙ zero-*ℤ (s.at_hi -ℤ s.at_lo) in
    let sums = same_below (height_of s s.at_lo) (line_height s s.raw_lo) (height_of s (s.at_lo +ℤ pos 1)) (raw_width s) (foot ∙ sym start) (height_of-next s s.at_lo) (wider s wide) in
    record { not_above = sums.0; next_above = sums.1 }

through_right : (s : Scale) → s.raw_lo < s.raw_hi → IsLineRoundedDown s s.raw_hi s.at_hi
through_right s wide =
    let top : height_of s s.at_hi ≡ line_height s s.raw_hi = *ℤ_comm (s.at_hi -ℤ s.at_lo) (pos s.raw_hi -ℤ pos s.raw_lo) in
    let sums = same_below (height_of s s.at_hi) (line_height s s.raw_hi) (height_of s (s.at_hi +ℤ pos 1)) (raw_width s) top (height_of-next s s.at_hi) (wider s wide) in
    record { not_above = sums.0; next_above = sums.1 }

-- a raw value is from the i-th pair's to the next one's, and v on their line
pub record OnPart (pairs : List Pair) (i raw : ℕ) (v : ℤ) : Type 0 where
  pub neighbours : AreNeighbours pairs i raw
  pub rounded : IsLineRoundedDown (line_through (pair_at pairs i) (pair_at pairs (i + 1))) raw v

meet_at : (x y z : ℕ) → x ≤ y → y ≤ z → z ≤ x → x ≡ y
meet_at x y z a b c = omega arith

-- two parts that share a raw value share the pair between them
pub touching : (pairs : List Pair) → IsRising pairs → (i raw : ℕ) (v w : ℤ) → OnPart pairs i raw v → OnPart pairs (i + 1) raw w → w ≡ v
touching pairs rising i raw v w before after =
    let here : raw ≡ raw_at pairs (i + 1) = meet_at raw (raw_at pairs (i + 1)) raw before.neighbours.to after.neighbours.from (omega arith) in
    let left = line_through (pair_at pairs i) (pair_at pairs (i + 1)) in
    let right = line_through (pair_at pairs (i + 1)) (pair_at pairs ((i + 1) + 1)) in
    let position = (pair_at pairs (i + 1)).1 in
    let wide_left = rising i before.neighbours.within in
    let wide_right = rising (i + 1) after.neighbours.within in
    let end = subst (λ (r : ℕ). IsLineRoundedDown left r position) (sym here) (through_right left wide_left) in
    let start = subst (λ (r : ℕ). IsLineRoundedDown right r position) (sym here) (through_left right wide_right) in
    let first : v ≡ position = one_on_line left raw position v wide_left end before.rounded in
    let second : w ≡ position = one_on_line right raw position w wide_right start after.rounded in
    second ∙ sym first
