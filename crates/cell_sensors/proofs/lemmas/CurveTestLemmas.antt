-- Pairs pass the tests of a curve exactly if they make one.
use Rattle.std.proofs.Common.{◌≡◌, ℕ, zero, suc, ◌+◌, ◌-◌, ◌<◌, ℤ, ◌≤ℤ◌, Bool, true, false, ◌&&◌, List, [], ◌∷◌, length, refl, sym, subst, arith, leb-true, le-leb, ltb-true, lt-ltb, eqb-true, eq-eqb}
use Rattle.std.specs.Prelude.{int_le, T}
use Rattle.std.specs.List.{list_all}
use Rattle.std.specs.Int.Signed.{le_z, le_z_yes}
use Rattle.cell_sensors.specs.Names.{Scale, Pair, pair_at, raw_at, HasCount, IsRising, IsNearPair, IsCurve, is_curve}
use Rattle.cell_sensors.specs.Names.{is_rising}
use Rattle.cell_sensors.specs.CurveTests.{is_near_pair, has_count, has_ends}

left : (a b : Bool) → (a && b) ≡ true → a ≡ true
left true b h = refl
left false b h = absurd (cc)

right : (a b : Bool) → (a && b) ≡ true → b ≡ true
right true b h = h
right false b h = absurd (cc)

both : (a b : Bool) → a ≡ true → b ≡ true → (a && b) ≡ true
both true b p q = q
both false b p q = absurd (cc)

at_most : (a b : ℤ) → int_le a b ≡ true → a ≤ℤ b
at_most a b h = le_z_yes (subst T (sym h) tt)

int_le_yes : (b : Bool) → T b → b ≡ true
int_le_yes true t = refl
int_le_yes false t = absurd t

passes : (a b : ℤ) → a ≤ℤ b → int_le a b ≡ true
passes a b h = int_le_yes (int_le a b) h.le

near_passes : (s : Scale) (pair : Pair) → IsNearPair s pair → is_near_pair s pair ≡ true
near_passes s pair near = both _ _ (both _ _ (passes _ _ near.near.not_below) (passes _ _ near.near.not_above)) (both _ _ (passes _ _ near.first) (passes _ _ near.last))

near_of_pass : (s : Scale) (pair : Pair) → is_near_pair s pair ≡ true → IsNearPair s pair
near_of_pass s pair h =
    let close = left _ _ h in
    let inside = right _ _ h in
    record { near = record { not_below = at_most _ _ (left _ _ close); not_above = at_most _ _ (right _ _ close) }; first = at_most _ _ (left _ _ inside); last = at_most _ _ (right _ _ inside) }

all_at : (p : Pair → Bool) (pairs : List Pair) (i : ℕ) → list_all p pairs ≡ true → i < length pairs → p (pair_at pairs i) ≡ true
all_at p [] i h l = absurd (omega arith)
all_at p (pair ∷ more) zero h l = left _ _ h
all_at p (pair ∷ more) (suc i) h l = all_at p more i (right _ _ h) (omega arith)

all_of : (p : Pair → Bool) (pairs : List Pair) → ((i : ℕ) → i < length pairs → p (pair_at pairs i) ≡ true) → list_all p pairs ≡ true
all_of p [] h = refl
all_of p (pair ∷ more) h = both _ _ (h 0 (omega arith)) (all_of p more (λ i l. h (suc i) (omega arith)))

pub rises_at : (pairs : List Pair) (i : ℕ) → is_rising pairs ≡ true → i < length pairs - 1 → raw_at pairs i < raw_at pairs (i + 1)
rises_at [] i h l = absurd (omega arith)
rises_at (pair ∷ []) i h l = absurd (omega arith)
rises_at (pair ∷ next ∷ more) zero h l = ltb-true pair.0 next.0 (left _ _ h)
rises_at (pair ∷ next ∷ more) (suc i) h l =
    let rest = rises_at (next ∷ more) i (right _ _ h) (omega arith) in
    let same : suc (i + 1) ≡ suc i + 1 = omega arith in
    subst (λ (j : ℕ). raw_at (next ∷ more) i < raw_at (pair ∷ next ∷ more) j) same rest

rises_of : (pairs : List Pair) → IsRising pairs → is_rising pairs ≡ true
rises_of [] rising = refl
rises_of (pair ∷ []) rising = refl
rises_of (pair ∷ next ∷ more) rising =
    both _ _ (lt-ltb pair.0 next.0 (rising 0 (omega arith)))
    (rises_of (next ∷ more) (λ i l. let same : suc i + 1 ≡ suc (i + 1) = omega arith in subst (λ (j : ℕ). raw_at (next ∷ more) i < raw_at (pair ∷ next ∷ more) j) same (rising (suc i) (omega arith))))

pub passes_as_curve : (s : Scale) (pairs : List Pair) → IsCurve s pairs → is_curve s pairs ≡ true
passes_as_curve s pairs curve =
    both _ _ (both _ _ (le-leb 2 (length pairs) curve.number.least) (le-leb (length pairs) 32 curve.number.most))
    (both _ _ (both _ _ (eq-eqb _ _ curve.ends.first) (eq-eqb _ _ curve.ends.last))
    (both _ _ (rises_of pairs curve.rising) (all_of (is_near_pair s) pairs (λ i l. near_passes s (pair_at pairs i) (curve.near i l)))))

pub count_of_pass : (pairs : List Pair) → has_count pairs ≡ true → HasCount pairs
count_of_pass pairs h = record { least = leb-true 2 (length pairs) (left _ _ h); most = leb-true (length pairs) 32 (right _ _ h) }

pub curve_of_pass : (s : Scale) (pairs : List Pair) → is_curve s pairs ≡ true → IsCurve s pairs
curve_of_pass s pairs h =
    let number = left (has_count pairs) _ h in
    let rest = right (has_count pairs) _ h in
    let ends = left (has_ends s pairs) _ rest in
    let others = right (has_ends s pairs) _ rest in
    let rising = left (is_rising pairs) _ others in
    let near = right (is_rising pairs) _ others in
    record {
      number = count_of_pass pairs number;
      ends = record { first = eqb-true _ _ (left _ _ ends); last = eqb-true _ _ (right _ _ ends) };
      rising = λ i l. rises_at pairs i rising l;
      near = λ i l. near_of_pass s (pair_at pairs i) (all_at (is_near_pair s) pairs i near l);
    }
