-- Two motors exclude each other exactly if a zone, or a place, keeps them apart.
use Rattle.std.proofs.Common.{◌≡◌, ℕ, zero, suc, ◌<◌, ◌≤◌, inl, inr, ◌⊎◌, Bool, true, false, ◌&&◌, not, nat_eq, nat_lt, if◌then◌else◌, Option, Some, None, refl, sym, ap, ap₂, ◌∙◌, subst, arith, IsTrue, unwrap_or}
use Rattle.std.specs.Option.{option_or}
use Rattle.std.specs.Bool.{then_some}
use Rattle.std.proofs.lemmas.Bool.{and_parts, cases_lt, lt-ltb, false_from_ne_true}
use Rattle.std.proofs.Common.{ltb-true}
use Rattle.std.proofs.lemmas.List.{get_or_past}
use Rattle.std.proofs.lemmas.List.FromFn.{get_or-map-range_with_len}
use Rattle.plan_types.specs.declared.posture.Posture.{Posture}
use Rattle.plan_types.specs.declared.posture.Posture.TheVariants.{Closed, Moving, OpenIn}
use Rattle.plan_types.specs.Same.{same_posture}
use Rattle.plan_types.specs.Below.{first_below, any_below, sum_below}
use Rattle.plan_types.specs.Table.{PlanTable, zone_count, place_count, space_of, is_moving}
use Rattle.plan_types.specs.Plan.{IsPlan}
use Rattle.plan_types.proofs.lemmas.Below.{first_below_none}
use Rattle.plan_types.proofs.lemmas.Spaces.{named}
use Rattle.plan_rules.specs.declared.state.ZoneState.{ZoneState}
use Rattle.plan_rules.specs.declared.state.State.{State}
use Rattle.plan_rules.specs.State.{zone_at, is_full, free_zone, one_if, is_coming, coming, plates_for}
use Rattle.plan_rules.specs.Sound.{IsSound, IsLawfulZone, IsOfSpace}
use Rattle.plan_rules.proofs.lemmas.Below.{sum_below_same}
use Rattle.plan_rules.proofs.lemmas.Spaces.{first_inside, shared_owner, shared_motion}
use Rattle.plan_word.specs.OfPlan.{IsWithin}
use Rattle.plan_motors.specs.declared.motor.Motor.{Motor}
use Rattle.plan_motors.specs.declared.exclusion.Cause.{Cause}
use Rattle.plan_motors.specs.declared.exclusion.Cause.TheVariants.{Zone, Place}
use Rattle.plan_motors.specs.declared.exclusion.Exclusion.TheVariants.{Excluded, Possible}
use Rattle.plan_motors.specs.Motor.{need_of, place_need, meets, meets_place, Permits}
use Rattle.plan_motors.specs.Exclusion.{owner_needed, posture_needed, moves_in, zone_for, is_lawful, is_shared, zone_cause, are_opposite, place_cause, cause, zone_in, place_in, state_for}
use Rattle.plan_motors.specs.Decided.{NeverBoth, KeepsRules, IsApartByZone, IsShown}
use Rattle.plan_motors.proofs.Wanted.{shared_if, stays_still}

-- ---- what is found
found_one : (a b : Option Cause) (c : Cause) → option_or a b ≡ Some c → (a ≡ Some c) ⊎ ((a ≡ None) × (b ≡ Some c))
found_one None b c e = inr (refl, e)
found_one (Some x) b c e = inl e

first_found : (f : ℕ → Option Cause) (n : ℕ) (c : Cause) → first_below f n ≡ Some c → (i : ℕ) × (i < n) × (f i ≡ Some c)
first_found f zero c e = cc
first_found f (suc n) c e =
    elim (found_one (first_below f n) (f n) c e) [
      | inl h ↦ let k = first_found f n c h in (k.0, omega (arith, k.1), k.2)
      | inr h ↦ (n, omega arith, h.1)
    ]

then_is : (b : Bool) (x c : Cause) → then_some b x ≡ Some c → (b ≡ true) × (x ≡ c)
then_is true x c e = (refl, cc)
then_is false x c e = cc

then_not : (b : Bool) (x : Cause) → then_some b x ≡ None → b ≡ false
then_not true x e = cc
then_not false x e = refl

not_shared : (b : Bool) → not b ≡ true → b ≡ true → ⊥
not_shared true e f = cc
not_shared false e f = cc

shared : (b : Bool) → not b ≡ false → b ≡ true
shared true e = refl
shared false e = cc

-- ---- a cause keeps two motors apart
apart_by_zone : (t : PlanTable) (a b : Motor) (z : ℕ) → z < zone_count t → not (is_shared t a b z (zone_for t a b z)) ≡ true → IsApartByZone t a b z
apart_by_zone t a b z l e = λ v k x y. not_shared (is_shared t a b z (zone_for t a b z)) e (shared_if t a b z v l k x y)

apart_by_need : (x y : Option Bool) → are_opposite x y ≡ true → (full : Bool) → IsTrue (meets_place x full) → IsTrue (meets_place y full) → ⊥
apart_by_need (Some true) (Some false) e true h k = cc
apart_by_need (Some true) (Some false) e false h k = cc
apart_by_need (Some false) (Some true) e true h k = cc
apart_by_need (Some false) (Some true) e false h k = cc
apart_by_need (Some true) (Some true) e full h k = cc
apart_by_need (Some false) (Some false) e full h k = cc
apart_by_need (Some true) None e full h k = cc
apart_by_need (Some false) None e full h k = cc
apart_by_need None y e full h k = cc

pub cause_shown : (t : PlanTable) (a b : Motor) (c : Cause) → cause t a b ≡ Some c → IsShown t a b (Excluded c)
cause_shown t a b c e =
    elim (found_one (first_below (zone_cause t a b) (zone_count t)) (first_below (place_cause a b) (place_count t)) c e) [
      | inl h ↦
          let k = first_found (zone_cause t a b) (zone_count t) c h in
          let is = then_is (not (is_shared t a b k.0 (zone_for t a b k.0))) (Zone k.0) c k.2 in
          subst (λ x. IsShown t a b (Excluded x)) is.1 (k.1, apart_by_zone t a b k.0 k.1 is.0)
      | inr h ↦
          let k = first_found (place_cause a b) (place_count t) c h.1 in
          let is = then_is (are_opposite (place_need a k.0) (place_need b k.0)) (Place k.0) c k.2 in
          subst (λ x. IsShown t a b (Excluded x)) is.1 (k.1, apart_by_need (place_need a k.0) (place_need b k.0) is.0)
    ]

keeps_rules : (t : PlanTable) (s : State) (z : ℕ) → IsSound t s → z < zone_count t → KeepsRules t z (zone_at s)
keeps_rules t s z k l = record {
  lawful = λ y o. k.zone_is_lawful y o.there;
  owner = λ y o. shared_owner t s y z k o.there l o.same;
  motion = λ y o. shared_motion t s y z k o.there l o.same;
}

pub never_both : (t : PlanTable) (a b : Motor) (c : Cause) → IsShown t a b (Excluded c) → NeverBoth t a b
never_both t a b (Zone z) k s sound x y = k.1 (zone_at s) (keeps_rules t s z sound k.0) (λ i o. x.zones i o.there) (λ i o. y.zones i o.there)
never_both t a b (Place p) k s sound x y = k.1 (is_full s p) (x.places p k.0) (y.places p k.0)

-- ---- the state that two motors need
no_cause : (a b : Option Cause) → option_or a b ≡ None → (a ≡ None) × (b ≡ None)
no_cause None b e = (refl, e)
no_cause (Some x) b e = cc

zone_there : (t : PlanTable) (a b : Motor) (z : ℕ) → IsPlan t → z < zone_count t → zone_at (state_for t a b) z ≡ zone_for t a b z
zone_there t a b z p l =
    let few = p.zones_at_most in
    let ten : z < 10 = omega arith in
    get_or-map-range_with_len (zone_in t a b) 0 10 z z free_zone ten (omega arith)
    ∙ ap (λ n. if n then zone_for t a b z else free_zone) (lt-ltb z (zone_count t) l)

not_there : (a b : ℕ) → b ≤ a → nat_lt a b ≡ false
not_there a b past = false_from_ne_true (nat_lt a b) (λ e. let l = ltb-true a b e in absurd (omega arith))

zone_past : (t : PlanTable) (a b : Motor) (z : ℕ) → zone_count t ≤ z → zone_at (state_for t a b) z ≡ free_zone
zone_past t a b z past =
    elim (cases_lt z 10) [
      | inl ten ↦ get_or-map-range_with_len (zone_in t a b) 0 10 z z free_zone ten (omega arith)
          ∙ ap (λ n. if n then zone_for t a b z else free_zone) (not_there z (zone_count t) past)
      | inr more ↦ get_or_past (state_for t a b).zones z free_zone more
    ]

place_there : (t : PlanTable) (a b : Motor) (p : ℕ) → IsPlan t → p < place_count t
    → is_full (state_for t a b) p ≡ unwrap_or (option_or (place_need a p) (place_need b p)) false
place_there t a b p k l =
    let few = k.places_at_most in
    let sixteen : p < 16 = omega arith in
    get_or-map-range_with_len (place_in t a b) 0 16 p p false sixteen (omega arith)
    ∙ ap (λ n. n && unwrap_or (option_or (place_need a p) (place_need b p)) false) (lt-ltb p (place_count t) l)

place_past : (t : PlanTable) (a b : Motor) (p : ℕ) → place_count t ≤ p → is_full (state_for t a b) p ≡ false
place_past t a b p past =
    elim (cases_lt p 16) [
      | inl sixteen ↦ get_or-map-range_with_len (place_in t a b) 0 16 p p false sixteen (omega arith)
          ∙ ap (λ n. n && unwrap_or (option_or (place_need a p) (place_need b p)) false) (not_there p (place_count t) past)
      | inr more ↦ get_or_past (state_for t a b).full p false more
    ]

-- its zones have the owner of their space, and move if it does
abbrev owner_by : PlanTable → Motor → Motor → ℕ → ℕ → Option ℕ
owner_by t a b host space =
    option_or (first_below (λ y. if nat_eq (space_of t y) space then owner_needed a b y else None) (zone_count t))
    (then_some (is_moving (then_some (any_below (λ y. nat_eq (space_of t y) space && is_moving (posture_needed a b y)) (zone_count t)) Moving)) host)

one_owner : (t : PlanTable) (a b : Motor) (z : ℕ) → IsPlan t → z < zone_count t → (zone_for t a b z).owner ≡ (zone_for t a b (space_of t z)).owner
one_owner t a b z p l = ap₂ (owner_by t a b) (sym (p.one_host_a_space z l)) (sym (named t z))

moves_by : (moves guest : Bool) (needed : Option Posture) → (moves ≡ false → is_moving needed ≡ false)
    → same_posture (unwrap_or (option_or (then_some moves Moving) needed) (if guest then OpenIn else Closed)) Moving ≡ moves
moves_by true guest needed still = refl
moves_by false guest (Some q) still = still refl
moves_by false true None still = refl
moves_by false false None still = refl

motion : (t : PlanTable) (a b : Motor) (z : ℕ) → z < zone_count t → same_posture (zone_for t a b z).posture Moving ≡ moves_in t a b z
motion t a b z l = moves_by (moves_in t a b z) _ (posture_needed a b z) (stays_still t a b z l)

one_motion : (t : PlanTable) (a b : Motor) (z : ℕ) → z < zone_count t → same_posture (zone_for t a b z).posture Moving ≡ same_posture (zone_for t a b (space_of t z)).posture Moving
one_motion t a b z l =
    motion t a b z l
    ∙ ap (λ space. any_below (λ y. nat_eq (space_of t y) space && is_moving (posture_needed a b y)) (zone_count t)) (sym (named t z))
    ∙ sym (motion t a b (space_of t z) (first_inside t z l))

has_space : (t : PlanTable) (a b : Motor) (z : ℕ) → IsPlan t → z < zone_count t → IsOfSpace t (state_for t a b) z
has_space t a b z p l =
    let here = zone_there t a b z p l in
    let first = zone_there t a b (space_of t z) p (first_inside t z l) in
    record {
      owner = ap (λ (v : ZoneState). v.owner) here ∙ one_owner t a b z p l ∙ sym (ap (λ (v : ZoneState). v.owner) first);
      motion = ap (λ (v : ZoneState). same_posture v.posture Moving) here ∙ one_motion t a b z l ∙ sym (ap (λ (v : ZoneState). same_posture v.posture Moving) first);
    }

no_plate : (t : PlanTable) (a b : Motor) (z : ℕ) → IsPlan t → z < zone_count t → (zone_at (state_for t a b) z).flag ≡ true → ⊥
no_plate t a b z p l e = let none : false ≡ true = sym (ap (λ (v : ZoneState). v.flag) (zone_there t a b z p l)) ∙ e in cc

-- no zone of it has a plate
none_at_all : (n : ℕ) → sum_below (λ _. 0) n ≡ 0
none_at_all zero = refl
none_at_all (suc n) = let rest = none_at_all n in omega (arith, rest)

at_most_one : (b : Bool) → one_if b ≤ 1
at_most_one true = omega arith
at_most_one false = omega arith

one_plate : (t : PlanTable) (a b : Motor) (p : ℕ) → IsPlan t → plates_for t (state_for t a b) p ≤ 1
one_plate t a b p k =
    let s = state_for t a b in
    let none : coming t s p ≡ sum_below (λ _. 0) (zone_count t) =
    sum_below_same (λ _. 0) (λ z. one_if (is_coming t (zone_at s z) p z)) (zone_count t) (λ z l. ap (λ v. one_if (is_coming t v p z)) (zone_there t a b z k l)) in
    let nothing = none_at_all (zone_count t) in
    let one = at_most_one (is_full s p) in
    omega (arith, none, nothing, one)

lawful : (t : PlanTable) (z : ℕ) (v : ZoneState) → v.flag ≡ false → is_lawful t z v ≡ true → IsLawfulZone t z v
lawful t z v none e =
    let outer = and_parts _ _ e in
    let inner = and_parts _ _ outer.0 in
    record {
      owner_is_party = inner.0;
      flag_has_transfer = rw none refl;
      guest_only_while_open = inner.1;
      moving_belongs_to_host = outer.1;
    }

record Both (t : PlanTable) (a b : Motor) (z : ℕ) (v : ZoneState) : Type 0 where
  lawful : is_lawful t z v ≡ true
  first : IsTrue (meets a.machine (need_of a z) v)
  second : IsTrue (meets b.machine (need_of b z) v)

both : (t : PlanTable) (a b : Motor) (z : ℕ) (v : ZoneState) → is_shared t a b z v ≡ true → Both t a b z v
both t a b z v e =
    let outer = and_parts (is_lawful t z v && meets a.machine (need_of a z) v) (meets b.machine (need_of b z) v) e in
    let inner = and_parts (is_lawful t z v) (meets a.machine (need_of a z) v) outer.0 in
    record { lawful = inner.0; first = inner.1; second = outer.1 }

-- a place is full or empty as both need it
first_place : (x y : Option Bool) → are_opposite x y ≡ false → IsTrue (meets_place x (unwrap_or (option_or x y) false))
first_place None y e = refl
first_place (Some true) y e = refl
first_place (Some false) y e = refl

second_place : (x y : Option Bool) → are_opposite x y ≡ false → IsTrue (meets_place y (unwrap_or (option_or x y) false))
second_place None None e = refl
second_place None (Some true) e = refl
second_place None (Some false) e = refl
second_place (Some x) None e = refl
second_place (Some true) (Some true) e = refl
second_place (Some false) (Some false) e = refl
second_place (Some true) (Some false) e = cc
second_place (Some false) (Some true) e = cc

pub state_shown : (t : PlanTable) (a b : Motor) → IsPlan t → cause t a b ≡ None → IsShown t a b (Possible (state_for t a b))
state_shown t a b k e =
    let s = state_for t a b in
    let none = no_cause (first_below (zone_cause t a b) (zone_count t)) (first_below (place_cause a b) (place_count t)) e in
    let zone : (z : ℕ) → z < zone_count t → Both t a b z (zone_for t a b z) = λ z l.
    both t a b z (zone_for t a b z) (shared (is_shared t a b z (zone_for t a b z)) (then_not (not (is_shared t a b z (zone_for t a b z))) (Zone z) (first_below_none (zone_cause t a b) (zone_count t) none.0 z l))) in
    let apart : (p : ℕ) → p < place_count t → are_opposite (place_need a p) (place_need b p) ≡ false = λ p l.
    then_not (are_opposite (place_need a p) (place_need b p)) (Place p) (first_below_none (place_cause a b) (place_count t) none.1 p l) in
    let sound : IsSound t s = record {
      stamp_in_range = omega arith;
      has_ten_zones = refl;
      has_sixteen_places = refl;
      zone_is_lawful = λ z l. subst (IsLawfulZone t z) (sym (zone_there t a b z k l)) (lawful t z (zone_for t a b z) refl (zone z l).lawful);
      zone_is_of_space = λ z l. has_space t a b z k l;
      one_plate_a_space = λ y z ly lz same plate _. absurd (no_plate t a b y k ly plate);
      one_plate_a_place = λ p. one_plate t a b p k;
    } in
    let of_plan : IsWithin t s = record { sound = sound; no_more_zones = zone_past t a b; no_more_plates = place_past t a b } in
    let first : Permits t s a = record {
      zones = λ z l. subst (λ v. IsTrue (meets a.machine (need_of a z) v)) (sym (zone_there t a b z k l)) (zone z l).first;
      places = λ p l. subst (λ f. IsTrue (meets_place (place_need a p) f)) (sym (place_there t a b p k l)) (first_place (place_need a p) (place_need b p) (apart p l));
    } in
    let second : Permits t s b = record {
      zones = λ z l. subst (λ v. IsTrue (meets b.machine (need_of b z) v)) (sym (zone_there t a b z k l)) (zone z l).second;
      places = λ p l. subst (λ f. IsTrue (meets_place (place_need b p) f)) (sym (place_there t a b p k l)) (second_place (place_need a p) (place_need b p) (apart p l));
    } in
    (of_plan, first, second)
