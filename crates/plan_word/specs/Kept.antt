-- How a layout is kept: what each of ten zones has, and where the first zones end, by how many they are.
use Rattle.std.specs.Prelude.{◌≡◌, ℕ, ◌≤◌, List, length, get_or, map}
use Rattle.std.proofs.Common.{inl, inr, sym, ap, ap₂, ◌∙◌, arith}
use Rattle.std.specs.List.{range_with_len}
use Rattle.std.proofs.lemmas.Bool.{cases_lt}
use Rattle.std.proofs.lemmas.List.{get_or_past}
use Rattle.std.proofs.lemmas.List.FromFn.{fill_by_all, get_or-map-range_with_len, length-map-range_with_len}
use Rattle.plan_types.specs.declared.shape.ZoneShape.{ZoneShape}
use Rattle.plan_types.specs.Below.{sum_below}
use Rattle.plan_types.specs.Table.{no_shape, shape_bits}
use Rattle.plan_word.specs.declared.layout.Layout.TheInside.{Inside}
use Rattle.plan_word.specs.Layout.{Counts, shape_at, width_of}

abbrev pub shape_in : List ZoneShape → ℕ → ZoneShape
shape_in shapes z = get_or shapes z no_shape

abbrev pub ends_in : List ZoneShape → ℕ → ℕ
ends_in shapes n = sum_below (λ z. shape_bits (shape_in shapes z)) n

abbrev pub ends_from : List ZoneShape → List ℕ
ends_from shapes = map (ends_in shapes) (range_with_len 0 11)

abbrev pub layout_in : Inside → Counts
layout_in a = record {
  zones = a.zones;
  places = a.places;
  shapes = map (shape_in a.shapes) (range_with_len 0 a.zones);
}

abbrev pub kept_with : Counts → List ZoneShape → List ℕ → Inside
kept_with c shapes ends = record { zones = c.zones; places = c.places; shapes = shapes; ends = ends }

abbrev pub ten_shapes : Counts → List ZoneShape
ten_shapes c = map (shape_at c) (range_with_len 0 10)

abbrev pub kept : Counts → Inside
kept c = kept_with c (ten_shapes c) (ends_from (ten_shapes c))

pub record IsKept (a : Inside) : Type 0 where
  pub few : a.zones ≤ 10
  pub ten : length a.shapes ≡ 10
  pub blank : (z : ℕ) → a.zones ≤ z → shape_in a.shapes z ≡ no_shape
  pub ends_are : a.ends ≡ ends_from a.shapes
  pub fits : width_of (layout_in a) ≤ 64

pub kept_shape : (a : Inside) → IsKept a → (z : ℕ) → shape_in a.shapes z ≡ shape_at (layout_in a) z
kept_shape a is z =
    elim (cases_lt z a.zones) [
      | inl l ↦ sym (get_or-map-range_with_len (shape_in a.shapes) 0 a.zones z z no_shape l (omega arith))
      | inr past ↦
          let long = length-map-range_with_len (shape_in a.shapes) 0 a.zones in
          is.blank z past ∙ sym (get_or_past (layout_in a).shapes z no_shape (omega (arith, long, past)))
    ]

pub kept_back : (a : Inside) → IsKept a → kept (layout_in a) ≡ a
kept_back a is =
    let shapes = sym (fill_by_all (shape_at (layout_in a)) a.shapes 10 no_shape is.ten (λ k l. kept_shape a is k)) in
    ap₂ (kept_with (layout_in a)) shapes (ap ends_from shapes ∙ sym is.ends_are)
