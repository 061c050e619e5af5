-- No two fields overlap.
use Rattle.std.proofs.Common.{◌≡◌, ◌≢◌, ℕ, ◌+◌, ◌<◌, ◌≤◌, ◌⊎◌, inl, inr, true, nat_lt, IsTrue, refl, ap, ltb-true, arith}
use Rattle.std.proofs.lemmas.Bool.{cases_lt}
use Rattle.plan_types.specs.Table.{zone_count, place_count, shape_bits}
use Rattle.plan_word.specs.declared.layout.Field.{Field}
use Rattle.plan_word.specs.declared.layout.Field.TheVariants.{Zone, Place, Stamp, Stop}
use Rattle.plan_word.specs.Layout.{Counts, shape_at, has, zones_end, start_of, end_of, width_of, FieldsAreApart}
use Rattle.plan_word.proofs.lemmas.Fields.{ends_before}
use Rattle.plan_word.proofs.lemmas.Shapes.{ends_are}

-- a zone ends where a later one begins, or before it
zone_ends : (c : Counts) (y z : ℕ) → y < z → zones_end c y + shape_bits (shape_at c y) ≤ zones_end c z
zone_ends c y z l = ends_before (λ x. shape_bits (shape_at c x)) y z l

apart_zones : (c : Counts) (y z : ℕ) → y ≢ z
    → (zones_end c y + shape_bits (shape_at c y) ≤ zones_end c z) ⊎ (zones_end c z + shape_bits (shape_at c z) ≤ zones_end c y)
apart_zones c y z ne = elim (cases_lt y z) [ inl l ↦ inl (zone_ends c y z l) | inr l ↦ inr (zone_ends c z y (omega arith)) ]

apart_places : (n p q : ℕ) → p ≢ q → (n + p + 1 ≤ n + q) ⊎ (n + q + 1 ≤ n + p)
apart_places n p q ne = elim (cases_lt p q) [ inl l ↦ inl (omega arith) | inr l ↦ inr (omega arith) ]

below : (a b : ℕ) → nat_lt a b ≡ true → a < b
below a b e = ltb-true a b e

last : (c : Counts) (z : ℕ) → IsTrue (has c (Zone z)) → zones_end c z + shape_bits (shape_at c z) ≤ zones_end c c.zones
last c z a = zone_ends c z c.zones (below z c.zones a)

apart : (c : Counts) (f g : Field) → IsTrue (has c f) → IsTrue (has c g) → f ≢ g → (end_of c f ≤ start_of c g) ⊎ (end_of c g ≤ start_of c f)
apart c (Zone y) (Zone z) a b ne = apart_zones c y z (λ e. ne (ap (λ x. Zone x) e))
apart c (Zone y) (Place p) a b ne = let l = last c y a in inl (omega (arith, l))
apart c (Zone y) Stamp a b ne = let l = last c y a in inl (omega (arith, l))
apart c (Zone y) Stop a b ne = let l = last c y a in inl (omega (arith, l))
apart c (Place p) (Zone z) a b ne = let l = last c z b in inr (omega (arith, l))
apart c (Place p) (Place q) a b ne = apart_places (zones_end c c.zones) p q (λ e. ne (ap (λ x. Place x) e))
apart c (Place p) Stamp a b ne = let l = below p c.places a in inl (omega (arith, l))
apart c (Place p) Stop a b ne = let l = below p c.places a in inl (omega (arith, l))
apart c Stamp (Zone z) a b ne = let l = last c z b in inr (omega (arith, l))
apart c Stamp (Place q) a b ne = let l = below q c.places b in inr (omega (arith, l))
apart c Stamp Stamp a b ne = absurd (ne refl)
apart c Stamp Stop a b ne = inl (omega arith)
apart c Stop (Zone z) a b ne = let l = last c z b in inr (omega (arith, l))
apart c Stop (Place q) a b ne = let l = below q c.places b in inr (omega (arith, l))
apart c Stop Stamp a b ne = inr (omega arith)
apart c Stop Stop a b ne = absurd (ne refl)

pub within : (c : Counts) (f : Field) → IsTrue (has c f) → end_of c f ≤ width_of c
within c (Zone z) a = let l = last c z a in omega (arith, l)
within c (Place p) a = let l = below p c.places a in omega (arith, l)
within c Stamp a = omega arith
within c Stop a = omega arith

pub fields_are_apart : FieldsAreApart
fields_are_apart = record { width = λ t. ap (λ n. n + place_count t + 21) (ends_are t (zone_count t)); apart = apart; within = within }
