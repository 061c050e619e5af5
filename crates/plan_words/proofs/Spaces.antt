-- The spaces of a group: its rows have those of the plan.
use Rattle.std.proofs.Common.{◌≡◌, ℕ, zero, suc, ◌<◌, inl, inr, Bool, true, false, nat_eq, length, refl, sym, subst, ap, ◌∙◌, arith, if◌then◌else◌}
use Rattle.std.proofs.lemmas.Bool.{eqb-true, cases_order, false_from_ne_true}
use Rattle.plan_types.specs.declared.table.PlanZone.{PlanZone}
use Rattle.plan_types.specs.Table.{PlanTable, zone_count, joins, space_of, same_space}
use Rattle.plan_types.proofs.lemmas.Spaces.{first_alone, no_later}
use Rattle.plan_rules.proofs.lemmas.Puts.{nat_eq-self}
use Rattle.plan_words.specs.Group.{Group, zone_out, HasZone, IsGroup, IsTableOf}
use Rattle.plan_words.proofs.Below.{Misses}

pub joins_same : (t : PlanTable) (g : Group) (u : PlanTable) → IsTableOf t g u → (i : ℕ) → i < length g.zones → joins t (zone_out g i) ≡ joins u i
joins_same t g u k i l = ap (λ (r : PlanZone). r.joins) (k.zone i l)

joined_by : (t : PlanTable) (z : ℕ) → joins t (suc z) ≡ true → space_of t (suc z) ≡ space_of t z
joined_by t z e = ap (λ b. if b then space_of t z else suc z) e

-- the zone before a zone that joins is of its space: so it is the group's, just before
module _ (t : PlanTable) (g : Group) (is : IsGroup t g) where
  numbers : (i j : ℕ) → i < j → j < length g.zones → zone_out g i < zone_out g j
  numbers = is.zones.rises

  before_in : (y i : ℕ) → i < length g.zones → zone_out g i ≡ suc y → joins t (suc y) ≡ true → HasZone g y
  before_in y i l at e =
      let below = is.zones.below i l in
      is.by_space y (suc y) (i, l, at) (omega (arith, below, at)) (sym (joined_by t y e))

  -- it isn't the first one of the group
  not_first : (y : ℕ) → 0 < length g.zones → zone_out g 0 ≡ suc y → joins t (suc y) ≡ true → ⊥
  not_first y l at e = by (before_in y 0 l at e)
    where
      by : HasZone g y → ⊥
      by (zero, m, same) = absurd (omega (arith, at, same))
      by (suc k, m, same) = let h = numbers 0 (suc k) (omega arith) m in absurd (omega (arith, h, at, same))

  just_before : (y i : ℕ) → suc i < length g.zones → zone_out g (suc i) ≡ suc y → joins t (suc y) ≡ true → zone_out g i ≡ y
  just_before y i l at e =
      let has = before_in y (suc i) l at e in
      let k = has.0 in
      let m = has.1 in
      let same = has.2 in
      elim (cases_order k i) [
        | inl s ↦ subst (λ j. zone_out g j ≡ y) s same
        | inr (inl h) ↦
            let a = numbers k i h (omega (arith, l)) in
            let b = numbers i (suc i) (omega arith) l in
            absurd (omega (arith, a, b, at, same))
        | inr (inr h) ↦ elim (cases_order k (suc i)) [
          | inl s ↦ let c : zone_out g (suc i) ≡ y = subst (λ j. zone_out g j ≡ y) s same in absurd (omega (arith, c, at))
          | inr (inl a) ↦ absurd (omega (arith, a, h))
          | inr (inr a) ↦ let b = numbers (suc i) k a m in absurd (omega (arith, b, at, same))
        ]
      ]

first_out : (t : PlanTable) (g : Group) → IsGroup t g → 0 < length g.zones → (z : ℕ) → zone_out g 0 ≡ z → space_of t z ≡ z
first_out t g is l zero at = refl
first_out t g is l (suc y) at = first_alone t (suc y) (false_from_ne_true (joins t (suc y)) (λ e. not_first t g is y l at e))

next_out : (t : PlanTable) (g : Group) (u : PlanTable) → IsGroup t g → IsTableOf t g u → (i : ℕ) → suc i < length g.zones → space_of t (zone_out g i) ≡ zone_out g (space_of u i)
    → (z : ℕ) → zone_out g (suc i) ≡ z → (b : Bool) → joins u (suc i) ≡ b → space_of t z ≡ zone_out g (space_of u (suc i))
next_out t g u is k i l before zero at b e = let h = is.zones.rises i (suc i) (omega arith) l in absurd (omega (arith, h, at))
next_out t g u is k i l before (suc y) at true e =
    let there : joins t (suc y) ≡ true = ap (joins t) (sym at) ∙ (joins_same t g u k (suc i) l ∙ e) in
    let y_is = just_before t g is y i l at there in
    joined_by t y there ∙ (ap (space_of t) (sym y_is) ∙ (before ∙ ap (zone_out g) (sym (joined_by u i e))))
next_out t g u is k i l before (suc y) at false e =
    first_alone t (suc y) (ap (joins t) (sym at) ∙ (joins_same t g u k (suc i) l ∙ e)) ∙ (sym at ∙ ap (zone_out g) (sym (first_alone u (suc i) e)))

pub space_out : (t : PlanTable) (g : Group) (u : PlanTable) → IsGroup t g → IsTableOf t g u → (i : ℕ) → i < length g.zones → space_of t (zone_out g i) ≡ zone_out g (space_of u i)
space_out t g u is k zero l = first_out t g is l (zone_out g 0) refl
space_out t g u is k (suc i) l = next_out t g u is k i l (space_out t g u is k i (omega (arith, l))) (zone_out g (suc i)) refl (joins u (suc i)) refl

-- numbers of the group are told apart by those of the plan
pub apart_numbers : (t : PlanTable) (g : Group) → IsGroup t g → (i j : ℕ) → i < length g.zones → j < length g.zones → zone_out g i ≡ zone_out g j → i ≡ j
apart_numbers t g is i j l m e = elim (cases_order i j) [
  | inl s ↦ s
  | inr (inl h) ↦ let x = is.zones.rises i j h m in absurd (omega (arith, x, e))
  | inr (inr h) ↦ let x = is.zones.rises j i h l in absurd (omega (arith, x, e))
]

pub same_test : (a b c d : ℕ) → (a ≡ b → c ≡ d) → (c ≡ d → a ≡ b) → nat_eq a b ≡ nat_eq c d
same_test a b c d f g = by (nat_eq c d) refl
  where
    by : (x : Bool) → nat_eq c d ≡ x → nat_eq a b ≡ nat_eq c d
    by true e = ap (λ n. nat_eq n b) (g (eqb-true c d e)) ∙ (nat_eq-self b ∙ sym e)
    by false e = false_from_ne_true (nat_eq a b) (λ x. let h = sym (ap (λ n. nat_eq n d) (f (eqb-true a b x)) ∙ nat_eq-self d) ∙ e in cc) ∙ sym e

pub same_space_out : (t : PlanTable) (g : Group) (u : PlanTable) → IsGroup t g → IsTableOf t g u → (i j : ℕ) → i < length g.zones → j < length g.zones
    → same_space t (zone_out g i) (zone_out g j) ≡ same_space u i j
same_space_out t g u is k i j l m =
    let a = space_out t g u is k i l in
    let b = space_out t g u is k j m in
    let first = no_later u i in
    let second = no_later u j in
    same_test _ _ _ _
    (λ e. apart_numbers t g is (space_of u i) (space_of u j) (omega (arith, first, l)) (omega (arith, second, m)) (sym a ∙ (e ∙ b)))
    (λ e. a ∙ (ap (zone_out g) e ∙ sym b))

-- a zone that isn't the group's is of another space
pub other_space : (t : PlanTable) (g : Group) → IsGroup t g → (i z : ℕ) → i < length g.zones → z < zone_count t → Misses (zone_out g) (length g.zones) z
    → same_space t z (zone_out g i) ≡ false
other_space t g is i z l in_plan miss =
    false_from_ne_true (same_space t z (zone_out g i)) (λ e.
    let has = is.by_space z (zone_out g i) (i, l, refl) in_plan (eqb-true (space_of t z) (space_of t (zone_out g i)) e) in
    miss has.0 has.1 has.2)

pub space_turned : (t : PlanTable) (y z : ℕ) → same_space t y z ≡ same_space t z y
space_turned t y z = same_test (space_of t y) (space_of t z) (space_of t z) (space_of t y) sym sym
