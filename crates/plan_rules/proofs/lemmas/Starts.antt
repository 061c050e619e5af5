-- Starts are sound.
use Rattle.std.proofs.Common.{◌≡◌, ℕ, zero, suc, ◌≤◌, Bool, true, false, get_or, replicate, refl, sym, ap, ◌∙◌, subst, length, arith}
use Rattle.plan_types.specs.Table.{PlanTable, zone_count, space_of}
use Rattle.plan_types.specs.declared.posture.Posture.TheVariants.{Moving}
use Rattle.plan_types.specs.Same.{same_posture}
use Rattle.plan_rules.specs.declared.state.ZoneState.{ZoneState}
use Rattle.plan_types.specs.Below.{sum_below}
use Rattle.plan_types.specs.Plan.{IsPlan}
use Rattle.plan_rules.specs.declared.state.State.{State}
use Rattle.plan_rules.specs.State.{free_zone, start_state, zone_at, is_full, one_if, is_coming}
use Rattle.plan_rules.specs.Sound.{IsSound, IsStart, IsLawfulZone}
use Rattle.plan_rules.proofs.lemmas.Below.{sum_below_same}

-- a list of free zones has a free zone at each index
all_free : (n z : ℕ) → get_or (replicate n free_zone) z free_zone ≡ free_zone
all_free zero z = refl
all_free (suc n) zero = refl
all_free (suc n) (suc z) = all_free n z

lawful_free : (t : PlanTable) (z : ℕ) → IsLawfulZone t z free_zone
lawful_free t z = record { owner_is_party = refl; flag_has_transfer = refl; guest_only_while_open = refl; moving_belongs_to_host = refl }

none_at_all : (n : ℕ) → sum_below (λ _. 0) n ≡ 0
none_at_all zero = refl
none_at_all (suc n) = let rest = none_at_all n in omega (arith, rest)

at_most_one : (b : Bool) → one_if b ≤ 1
at_most_one true = omega arith
at_most_one false = omega arith

pub start_is_sound : (t : PlanTable) (s : State) → IsPlan t → IsStart s → IsSound t s
start_is_sound t s p k =
    let is : (z : ℕ) → zone_at (start_state s.full s.stamp) z ≡ free_zone = all_free 10 in
    let at : (z : ℕ) → zone_at s z ≡ free_zone = λ z. ap (λ (x : State). zone_at x z) k.same ∙ is z in
    record {
      stamp_in_range = k.stamp_in_range;
      has_ten_zones = ap (λ (x : State). length x.zones) k.same;
      has_sixteen_places = k.has_sixteen_places;
      zone_is_lawful = λ z l. subst (IsLawfulZone t z) (sym (at z)) (lawful_free t z);
      zone_is_of_space = λ z l. record {
        owner = ap (λ (v : ZoneState). v.owner) (at z) ∙ sym (ap (λ (v : ZoneState). v.owner) (at (space_of t z)));
        motion = ap (λ (v : ZoneState). same_posture v.posture Moving) (at z) ∙ sym (ap (λ (v : ZoneState). same_posture v.posture Moving) (at (space_of t z)));
      };
      one_plate_a_space = λ y z ly lz same flag also. let none : false ≡ true = sym (ap (λ (v : ZoneState). v.flag) (at y)) ∙ flag in cc;
      one_plate_a_place = λ q.
          let none = sum_below_same (λ _. 0) (λ z. one_if (is_coming t (zone_at s z) q z)) (zone_count t) (λ z l. ap (λ v. one_if (is_coming t v q z)) (at z)) in
          let nothing = none_at_all (zone_count t) in
          let one = at_most_one (is_full s q) in
          omega (arith, none, nothing, one);
    }
