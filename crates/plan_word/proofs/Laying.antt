-- What a layout keeps of its plan's zones.
use Rattle.std.proofs.Common.{◌≡◌, ℕ, ◌+◌, ◌<◌, ◌≤◌, inl, inr, zero, suc, refl, List, [], ◌∷◌, length, get_or, map, sym, ap, ◌∙◌, subst, arith}
use Rattle.std.specs.List.{range_with_len}
use Rattle.std.proofs.lemmas.Bool.{cases_lt}
use Rattle.std.proofs.lemmas.List.{get_or_past}
use Rattle.std.proofs.lemmas.List.FromFn.{fill_by_all, get_or-map-range_with_len, length-map-range_with_len}
use Rattle.plan_types.specs.declared.shape.ZoneShape.{ZoneShape}
use Rattle.plan_types.specs.Table.{PlanTable, zone_count, place_count, zone_shape, no_shape, shape_bits, word_width}
use Rattle.plan_rules.proofs.lemmas.Below.{sum_below_same}
use Rattle.plan_word.specs.declared.layout.Layout.TheInside.{Inside}
use Rattle.plan_word.specs.Layout.{Counts, counts_of, shape_at, zones_end, width_of}
use Rattle.plan_word.specs.Kept.{shape_in, ends_in, ends_from, layout_in, IsKept, kept_shape}
use Rattle.plan_word.proofs.lemmas.Fields.{ends_before}
use Rattle.plan_word.proofs.lemmas.Shapes.{past_shape, ends_are}

-- ---- what a layout tells
-- a row that is there tells the same, whatever stands past the end
pub row_there : (xs : List ZoneShape) (i : ℕ) (d e : ZoneShape) → i < length xs → get_or xs i d ≡ get_or xs i e
row_there [] i d e l = absurd (omega (arith, l))
row_there (x ∷ xs) zero d e l = refl
row_there (x ∷ xs) (suc i) d e l = row_there xs i d e (omega (arith, l))

pub end_kept : (a : Inside) (c : Counts) (n : ℕ) → IsKept a → layout_in a ≡ c → n < 11 → get_or a.ends n 0 ≡ zones_end c n
end_kept a c n is view l =
    ap (λ (xs : List ℕ). get_or xs n 0) is.ends_are
    ∙ get_or-map-range_with_len (ends_in a.shapes) 0 11 n n 0 l (omega arith)
    ∙ sum_below_same (λ z. shape_bits (shape_at (layout_in a) z)) (λ z. shape_bits (shape_in a.shapes z)) n (λ j m. ap shape_bits (kept_shape a is j))
    ∙ ap (λ (k : Counts). zones_end k n) view

pub shape_kept : (a : Inside) (c : Counts) (z : ℕ) → IsKept a → layout_in a ≡ c → shape_in a.shapes z ≡ shape_at c z
shape_kept a c z is view = kept_shape a is z ∙ ap (λ (k : Counts). shape_at k z) view

pub zone_within : (c : Counts) (z : ℕ) → width_of c ≤ 64 → z < c.zones → zones_end c z + shape_bits (shape_at c z) ≤ 64
zone_within c z fits l =
    let before = ends_before (λ x. shape_bits (shape_at c x)) z c.zones l in
    omega (arith, fits, before)

pub zone_low : (c : Counts) (z : ℕ) → width_of c ≤ 64 → z < c.zones → zones_end c z < 64
zone_low c z fits l =
    let before = ends_before (λ x. shape_bits (shape_at c x)) z c.zones l in
    omega (arith, fits, before)

-- ---- the layout of a plan
abbrev pub IsShapesOf : PlanTable → List ZoneShape → Type 0
IsShapesOf t xs = xs ≡ map (zone_shape t) (range_with_len 0 10)

-- ten shapes tell each zone's, as there are no more zones
shape_seen : (t : PlanTable) (xs : List ZoneShape) → zone_count t ≤ 10 → IsShapesOf t xs → (z : ℕ) → shape_in xs z ≡ zone_shape t z
shape_seen t xs few is z =
    ap (λ (ys : List ZoneShape). shape_in ys z) is
    ∙ elim (cases_lt z 10) [
      | inl l ↦ get_or-map-range_with_len (zone_shape t) 0 10 z z no_shape l (omega arith)
      | inr past ↦ get_or_past (map (zone_shape t) (range_with_len 0 10)) z no_shape past ∙ sym (past_shape t z (omega arith))
    ]

shapes_seen : (t : PlanTable) (xs : List ZoneShape) (n : ℕ) → zone_count t ≤ 10 → IsShapesOf t xs → map (shape_in xs) (range_with_len 0 n) ≡ map (zone_shape t) (range_with_len 0 n)
shapes_seen t xs n few is =
    fill_by_all (zone_shape t) (map (shape_in xs) (range_with_len 0 n)) n no_shape (length-map-range_with_len (shape_in xs) 0 n)
    (λ k l. get_or-map-range_with_len (shape_in xs) 0 n k k no_shape l (omega arith) ∙ shape_seen t xs few is k)

abbrev pub counts_with : ℕ → ℕ → List ZoneShape → Counts
counts_with zones places xs =
    record { zones = zones; places = places; shapes = map (shape_in xs) (range_with_len 0 zones) }

pub layout_seen : (t : PlanTable) (zones places : ℕ) (xs : List ZoneShape) → zones ≡ zone_count t → places ≡ place_count t → zone_count t ≤ 10 → IsShapesOf t xs
    → counts_with zones places xs ≡ counts_of t
layout_seen t zones places xs z p few is =
    let shapes = ap (λ n. map (shape_in xs) (range_with_len 0 n)) z ∙ shapes_seen t xs (zone_count t) few is in
    λ i. record { zones = z i; places = p i; shapes = shapes i }

-- what is kept is a plan's layout
pub keeps_layout : (t : PlanTable) (a : Inside) → a.zones ≡ zone_count t → a.places ≡ place_count t → zone_count t ≤ 10 → word_width t ≤ 64 → length a.shapes ≡ 10
    → IsShapesOf t a.shapes → a.ends ≡ ends_from a.shapes → IsKept a
keeps_layout t a z p few fits ten is ends_is =
    let wide = ends_are t (zone_count t) in
    let narrow : width_of (counts_of t) ≤ 64 = omega (arith, wide, fits) in
    record {
      few = omega (arith, z, few);
      ten = ten;
      blank = λ y past. shape_seen t a.shapes few is y ∙ past_shape t y (omega (arith, z, past));
      ends_are = ends_is;
      fits = subst (λ (c : Counts). width_of c ≤ 64) (sym (layout_seen t a.zones a.places a.shapes z p few is)) narrow;
    }
