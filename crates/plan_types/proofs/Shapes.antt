-- What a zone has in the word, by its row and by the poses.
use Rattle.std.proofs.Common.{◌≡◌, ◌⊎◌, inl, inr, ℕ, zero, suc, ◌<◌, Bool, true, false, ◌&&◌, ◌||◌, nat_lt, length, Option, Some, None, is_some, refl, sym, ap, ap₂, ◌∙◌, arith, ltb-true}
use Rattle.std.specs.Option.{option_eq}
use Rattle.std.specs.Cmp.{first_so, second_so}
use Rattle.std.proofs.lemmas.Bool.{lt-ltb}
use Rattle.plan_types.specs.declared.posture.Posture.{Posture}
use Rattle.plan_types.specs.declared.posture.Posture.TheVariants.{Closed, Moving, OpenIn, OpenOut}
use Rattle.plan_types.specs.declared.table.Way.{Way}
use Rattle.plan_types.specs.Below.{any_below}
use Rattle.plan_types.specs.Same.{same_posture, one_posture}
use Rattle.plan_types.specs.Table.{PlanTable, zone_count, pose_count, zone_row, posture_of, gives, is_given}
use Rattle.plan_types.specs.TableLaws.{ShapesByRow}
use Rattle.plan_types.proofs.lemmas.Below.{below_next}

-- ---- what one of the numbers below passes
either : (a b : Bool) → (a || b) ≡ true → (a ≡ true) ⊎ (b ≡ true)
either true b e = inl refl
either false b e = inr e

or_true : (b : Bool) → (b || true) ≡ true
or_true true = refl
or_true false = refl

abbrev pub Passed : (ℕ → Bool) → ℕ → Type 0
Passed f n = (i : ℕ) × (i < n) × (f i ≡ true)

pub any_found : (f : ℕ → Bool) (n : ℕ) → any_below f n ≡ true → Passed f n
any_found f zero e = cc
any_found f (suc n) e =
    elim (either (any_below f n) (f n) e) [
      | inl h ↦ let r = any_found f n h in let l = r.1 in (r.0, omega arith, r.2)
      | inr h ↦ (n, omega arith, h)
    ]

any_at : (f : ℕ → Bool) (i n : ℕ) → i < n → f i ≡ true → any_below f n ≡ true
any_at f i zero l e = absurd (omega arith)
any_at f i (suc n) l e =
    elim (below_next i n l) [
      | inl k ↦ ap (λ b. b || f n) (any_at f i n k e)
      | inr k ↦ ap (λ b. any_below f n || b) (sym (ap f k) ∙ e) ∙ or_true (any_below f n)
    ]

-- ---- a posture that is given
same_self : (q : Posture) → same_posture q q ≡ true
same_self Closed = refl
same_self Moving = refl
same_self OpenIn = refl
same_self OpenOut = refl

is_it : (o : Option Posture) (q : Posture) → option_eq same_posture o (Some q) ≡ true → o ≡ Some q
is_it None q e = cc
is_it (Some r) q e = ap (λ x. Some x) (one_posture r q e)

it_is : (o : Option Posture) (q : Posture) → o ≡ Some q → option_eq same_posture o (Some q) ≡ true
it_is o q e = ap (λ x. option_eq same_posture x (Some q)) e ∙ same_self q

abbrev Given : PlanTable → ℕ → Posture → Type 0
Given t z q = (z < length t.zones) × ((p : ℕ) × (p < length t.poses) × (posture_of t p z ≡ Some q))

given_by : (t : PlanTable) (z : ℕ) (q : Posture) → is_given t z q ≡ true → Given t z q
given_by t z q e =
    let inside = nat_lt z (zone_count t) in
    let any = any_below (gives t z q) (pose_count t) in
    let found = any_found (gives t z q) (pose_count t) (second_so inside any e) in
    (ltb-true z (zone_count t) (first_so inside any e), (found.0, found.1, is_it (posture_of t found.0 z) q found.2))

by_given : (t : PlanTable) (z : ℕ) (q : Posture) → Given t z q → is_given t z q ≡ true
by_given t z q g =
    ap₂ (λ a b. a && b) (lt-ltb z (zone_count t) g.0)
    (any_at (gives t z q) g.1.0 (pose_count t) g.1.1 (it_is (posture_of t g.1.0 z) q g.1.2))

-- ---- a way
no_way : (a b : Option Way) → (is_some a || is_some b) ≡ false → (a ≡ None) × (b ≡ None)
no_way None None e = (refl, refl)
no_way None (Some w) e = cc
no_way (Some w) b e = cc

pub shapes_by_row : (t : PlanTable) (z : ℕ) → ShapesByRow t z
shapes_by_row t z = record {
  flag = (no_way (zone_row t z).inward (zone_row t z).outward, λ e. ap₂ (λ a b. is_some a || is_some b) e.0 e.1);
  given = λ q. (given_by t z q, by_given t z q);
}
