-- What makes a state sound, tested zone by zone and place by place.
use Rattle.std.proofs.Common.{◌≡◌, ◌≢◌, ℕ, zero, suc, ◌<◌, ◌≤◌, inl, inr, Bool, true, false, ◌&&◌, length, Option, Some, None, refl, sym, ap, arith}
use Rattle.std.proofs.lemmas.Bool.{cases_lt, false_from_ne_true}
use Rattle.plan_types.specs.declared.table.Transfer.{Transfer}
use Rattle.plan_types.specs.Below.{any_below, sum_below}
use Rattle.plan_types.specs.Table.{PlanTable, zone_count, place_count, transfer_of, space_of, same_space}
use Rattle.plan_types.specs.Plan.{IsPlan}
use Rattle.plan_rules.specs.declared.state.ZoneState.{ZoneState}
use Rattle.plan_rules.specs.declared.state.State.{State}
use Rattle.plan_rules.specs.State.{zone_at, is_full, one_if, leads_to, is_coming, coming, plates_for}
use Rattle.plan_rules.specs.Sound.{IsSound, IsLawfulZone, IsOfSpace}
use Rattle.plan_word.specs.Spaces.{second_plate, second_plates}
use Rattle.plan_types.proofs.lemmas.Below.{any_below_all}
use Rattle.plan_rules.proofs.lemmas.Spaces.{same_by, by_same}
use Rattle.plan_rules.proofs.lemmas.Below.{any_below_none, sum_below_same}
use Rattle.plan_rules.proofs.lemmas.Puts.{same_or_not, nat_eq-apart}
use Rattle.plan_rules.proofs.lemmas.Ways.{way_leads}

not_there : (f : Bool) (o : Option Transfer) (p : ℕ) → ((way : Transfer) → o ≡ Some way → way.to ≢ p) → (f && leads_to o p) ≡ false
not_there false o p k = refl
not_there true None p k = refl
not_there true (Some way) p k = nat_eq-apart way.to p (k way refl)

-- no plate is on its way to a place past the tables
not_coming : (t : PlanTable) → IsPlan t → (z p : ℕ) (v : ZoneState) → z < zone_count t → place_count t ≤ p → is_coming t v p z ≡ false
not_coming t k z p v l past =
    not_there v.flag (transfer_of t z v.posture) p (λ way is. let leads = way_leads t k z v.posture way l is in let there = leads.to in let ne : way.to ≢ p = omega arith in ne)

none_at_all : (n : ℕ) → sum_below (λ _. 0) n ≡ 0
none_at_all zero = refl
none_at_all (suc n) = let rest = none_at_all n in omega (arith, rest)

at_most_one : (b : Bool) → one_if b ≤ 1
at_most_one true = omega arith
at_most_one false = omega arith

one_past : (t : PlanTable) (s : State) (p : ℕ) → IsPlan t → place_count t ≤ p → plates_for t s p ≤ 1
one_past t s p k past =
    let none : coming t s p ≡ sum_below (λ _. 0) (zone_count t) =
    sum_below_same (λ _. 0) (λ z. one_if (is_coming t (zone_at s z) p z)) (zone_count t) (λ z l. ap one_if (not_coming t k z p (zone_at s z) l past)) in
    let nothing = none_at_all (zone_count t) in
    let one = at_most_one (is_full s p) in
    omega (arith, none, nothing, one)

-- where no later zone of a space has a plate, too, one has it
none_of : (f : ℕ → Bool) (n : ℕ) → any_below f n ≡ false → (i : ℕ) → i < n → f i ≡ false
none_of f n e i l = any_below_none f n e i l

three_false : (a b c : Bool) → (a && b && c) ≡ false → a ≡ true → b ≡ true → c ≡ true → ⊥
three_false true true true e f g h = cc
three_false true true false e f g h = cc
three_false true false c e f g h = cc
three_false false b c e f g h = cc

no_second : (t : PlanTable) (s : State) → second_plates t s ≡ false → (y z : ℕ) → y < z → z < zone_count t → space_of t y ≡ space_of t z → (zone_at s y).flag ≡ true → (zone_at s z).flag ≡ true → ⊥
no_second t s none y z before l same fy fz =
    let here = none_of (λ z. any_below (second_plate t s z) z) (zone_count t) none z l in
    three_false (same_space t y z) (zone_at s y).flag (zone_at s z).flag (none_of (second_plate t s z) z here y before) (same_by t y z same) fy fz

pub one_of_space : (t : PlanTable) (s : State) → second_plates t s ≡ false → (y z : ℕ) → y < zone_count t → z < zone_count t → space_of t y ≡ space_of t z
    → (zone_at s y).flag ≡ true → (zone_at s z).flag ≡ true → y ≡ z
one_of_space t s none y z ly lz same fy fz =
    elim (same_or_not y z) [
      | inl e ↦ e
      | inr ne ↦ elim (cases_lt y z) [
        | inl before ↦ absurd (no_second t s none y z before lz same fy fz)
        | inr after ↦ absurd (no_second t s none z y (omega (arith, ne, after)) ly (sym same) fz fy)
      ]
    ]

three_true : (a b c : Bool) → (a && b && c) ≡ true → (a ≡ true) × (b ≡ true) × (c ≡ true)
three_true true true true e = (refl, refl, refl)
three_true true true false e = cc
three_true true false c e = cc
three_true false b c e = cc

pub none_second : (t : PlanTable) (s : State) → ((y z : ℕ) → y < zone_count t → z < zone_count t → space_of t y ≡ space_of t z → (zone_at s y).flag ≡ true → (zone_at s z).flag ≡ true → y ≡ z) → second_plates t s ≡ false
none_second t s one =
    any_below_all (λ z. any_below (second_plate t s z) z) (zone_count t) (λ z lz.
    any_below_all (second_plate t s z) z (λ y before.
    false_from_ne_true (second_plate t s z y) (λ yes.
    let all = three_true (same_space t y z) (zone_at s y).flag (zone_at s z).flag yes in
    let same = one y z (omega (arith, before, lz)) lz (by_same t y z all.0) all.1 all.2 in
    absurd (omega (arith, before, same)))))

pub sound_by : (t : PlanTable) (s : State) → IsPlan t → length s.zones ≡ 10 → length s.full ≡ 16 → s.stamp ≤ 1048575
    → ((z : ℕ) → z < zone_count t → IsLawfulZone t z (zone_at s z)) → ((z : ℕ) → z < zone_count t → IsOfSpace t s z) → second_plates t s ≡ false
    → ((p : ℕ) → p < place_count t → plates_for t s p ≤ 1) → IsSound t s
sound_by t s k ten sixteen small zones spaces none plates = record {
  stamp_in_range = small;
  has_ten_zones = ten;
  has_sixteen_places = sixteen;
  zone_is_lawful = zones;
  zone_is_of_space = spaces;
  one_plate_a_space = one_of_space t s none;
  one_plate_a_place = λ p. elim (cases_lt p (place_count t)) [ inl l ↦ plates p l | inr past ↦ one_past t s p k past ];
}
