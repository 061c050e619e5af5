-- Where no zone joins another, motors need each zone by itself.
use Rattle.std.proofs.Common.{◌≡◌, ℕ, zero, suc, ◌+◌, ◌-◌, ◌*◌, ◌<◌, ◌^◌, Bool, true, false, not, ◌&&◌, ◌||◌, nat_eq, nat_lt, if◌then◌else◌, Option, Some, None, is_none, [], refl, sym, ap, ap₂, ◌∙◌, subst, arith, ltb-true, IsTrue}
use Rattle.std.specs.Option.{option_or}
use Rattle.std.specs.Bool.{then_some}
use Rattle.std.proofs.lemmas.Bool.{eqb-true}
use mir.Val.{bool_byte}
use Rattle.plan_types.specs.declared.posture.Posture.{Posture}
use Rattle.plan_types.specs.declared.posture.Posture.TheVariants.{Closed, Moving, OpenIn, OpenOut}
use Rattle.plan_types.specs.declared.shape.ZoneShape.{ZoneShape}
use Rattle.plan_types.specs.Below.{first_below, any_below, sum_below}
use Rattle.plan_types.specs.Same.{same_posture}
use Rattle.plan_types.specs.Table.{PlanTable, zone_count, host_of, guest_of, is_moving, space_of, same_space, enters, joined_to, owner_bits, flag_bits, postures_of, zone_shape}
use Rattle.plan_types.proofs.lemmas.Below.{any_below_all, first_below_none, first_of}
use Rattle.plan_types.proofs.lemmas.Spaces.{first_alone}
use Rattle.plan_rules.specs.declared.state.ZoneState.{ZoneState}
use Rattle.plan_rules.specs.declared.state.State.{State}
use Rattle.plan_rules.specs.State.{start_state}
use Rattle.plan_rules.specs.Sound.{IsLawfulZone, implies, is_open, is_owned_by, is_entrant}
use Rattle.plan_rules.specs.PlainLaws.{IsPlain, PlainPlansStay}
use Rattle.plan_rules.proofs.lemmas.Below.{any_below_at}
use Rattle.plan_rules.proofs.lemmas.Puts.{nat_eq-self, nat_eq-apart}
use Rattle.plan_word.specs.Packed.{owner_code, owner_part}
use Rattle.plan_word.proofs.lemmas.Guests.{shape_guests}
use Rattle.plan_motors.specs.declared.motor.Motor.{Motor}
use Rattle.plan_motors.specs.Motor.{need_of, meets}
use Rattle.plan_motors.specs.Exclusion.{owner_needed, posture_needed, owner_in, moves_in, owner_for, posture_for, zone_for}
use Rattle.plan_motors.specs.Decided.{SharesSpace, IsApartByZone}
use Rattle.plan_motors.specs.Mask.{is_never, holds_in, never_in, owner_mask, owner_pattern, posture_start, posture_mask, posture_pattern, zone_mask, zone_pattern}
use Rattle.plan_motors.specs.PlainMotors.{party_code, PlainMotorsStay}
use Rattle.plan_motors.proofs.Wanted.{near}
use Rattle.plan_motors.proofs.lemmas.Masking.{first_part, guest_below}

both_of : (a b : Bool) → a ≡ true → b ≡ true → (a && b) ≡ true
both_of a b e f = rw (e, f) refl

none_of : (a b : Bool) → (a ≡ true → b ≡ false) → (a && b) ≡ false
none_of true b f = f refl
none_of false b f = refl

-- a state of which nothing is asked
abbrev some_state : State
some_state = start_state [] 0

module _ (t : PlanTable) (z : ℕ) (plain : IsPlain t) (l : z < zone_count t) where
  alone : (y : ℕ) → space_of t y ≡ y
  alone y = first_alone t y (plain y)

  same : (y : ℕ) → same_space t y z ≡ nat_eq y z
  same y = ap₂ nat_eq (alone y) (alone z)

  same_self : same_space t z z ≡ true
  same_self = same z ∙ nat_eq-self z

  one_zone : (y : ℕ) → same_space t y z ≡ true → y ≡ z
  one_zone y e = eqb-true y z (sym (same y) ∙ e)

  -- what holds of some zone of the space, and what the first one of it has
  any_is : (test : ℕ → Bool) (b : Bool) → test z ≡ b → any_below (λ y. same_space t y z && test y) (zone_count t) ≡ b
  any_is test true e = any_below_at (λ y. same_space t y z && test y) z (zone_count t) l (both_of (same_space t z z) (test z) same_self e)
  any_is test false e = any_below_all (λ y. same_space t y z && test y) (zone_count t) (λ y m. none_of (same_space t y z) (test y) (λ here. ap test (one_zone y here) ∙ e))

  first_by : (f : ℕ → Option ℕ) (o : Option ℕ) → first_below (λ y. if same_space t y z then f y else None) (zone_count t) ≡ o → o ≡ f z
  first_by f None e =
      sym (first_below_none (λ y. if same_space t y z then f y else None) (zone_count t) e z l) ∙ ap (λ b. if b then f z else None) same_self
  first_by f (Some x) e =
      let first = first_of (λ y. if same_space t y z then f y else None) (zone_count t) x e in
      let at = near (same_space t first.at z) (f first.at) x first.has in
      sym at.1 ∙ ap f (one_zone first.at at.0)

  first_is : (f : ℕ → Option ℕ) → first_below (λ y. if same_space t y z then f y else None) (zone_count t) ≡ f z
  first_is f = first_by f (first_below (λ y. if same_space t y z then f y else None) (zone_count t)) refl

  -- ---- one guest
  none_joined : (n : ℕ) → sum_below (λ y. bool_byte (joined_to t z y)) n ≡ 0
  none_joined zero = refl
  none_joined (suc n) =
      let rest = none_joined n in
      let here : bool_byte (joined_to t z n) ≡ 0 = ap bool_byte (none_of (nat_lt z n) (nat_eq (space_of t n) z) (λ before.
      let less = ltb-true z n before in
      ap (λ x. nat_eq x z) (alone n) ∙ nat_eq-apart n z (λ e. absurd (omega (arith, less, e))))) in
      omega (arith, rest, here)

  one_guest : (zone_shape t z).guests ≡ 1
  one_guest = let none = none_joined (zone_count t) in let is = shape_guests t z (alone z) in omega (arith, none, is)

-- ---- exclusions
moves_so : (q : Option Posture) → option_or (then_some (is_moving q) Moving) q ≡ q
moves_so None = refl
moves_so (Some Closed) = refl
moves_so (Some Moving) = refl
moves_so (Some OpenIn) = refl
moves_so (Some OpenOut) = refl

moves_back : (q : Option Posture) → is_moving (then_some (is_moving q) Moving) ≡ is_moving q
moves_back None = refl
moves_back (Some Closed) = refl
moves_back (Some Moving) = refl
moves_back (Some OpenIn) = refl
moves_back (Some OpenOut) = refl

apart_alone : (t : PlanTable) (a b : Motor) (z : ℕ) → IsPlain t → z < zone_count t → IsApartByZone t a b z
    → (v : ZoneState) → IsLawfulZone t z v → IsTrue (meets a.machine (need_of a z) v) → ¬ IsTrue (meets b.machine (need_of b z) v)
apart_alone t a b z plain l apart v lawful x y =
    let here : (P : ℕ → Type 0) → P z → (i : ℕ) → SharesSpace t z i → P i = λ P p i s.
    let is : i ≡ z = sym (first_alone t i (plain i)) ∙ s.same ∙ first_alone t z (plain z) in subst P (sym is) p in
    apart (λ _. v) (record { lawful = here (λ i. IsLawfulZone t i v) lawful; owner = λ i s. refl; motion = λ i s. refl })
    (here (λ i. IsTrue (meets a.machine (need_of a i) v)) x) (here (λ i. IsTrue (meets b.machine (need_of b i) v)) y)

alone_apart : (t : PlanTable) (a b : Motor) (z : ℕ) → z < zone_count t
    → ((v : ZoneState) → IsLawfulZone t z v → IsTrue (meets a.machine (need_of a z) v) → ¬ IsTrue (meets b.machine (need_of b z) v)) → IsApartByZone t a b z
alone_apart t a b z l apart v keeps x y =
    let here : SharesSpace t z z = record { there = l; same = refl } in
    apart (v z) (keeps.lawful z here) (x z here) (y z here)

zone_alone : (t : PlanTable) (a b : Motor) (z : ℕ) → IsPlain t → z < zone_count t → zone_for t a b z ≡ record {
  owner = owner_for t z (owner_needed a b z) (posture_needed a b z);
  flag = false;
  posture = posture_for t z (owner_needed a b z) (posture_needed a b z);
}
zone_alone t a b z plain l =
    let owner : owner_in t a b z ≡ owner_needed a b z = first_is t z plain l (owner_needed a b) in
    let moves : moves_in t a b z ≡ is_moving (posture_needed a b z) = any_is t z plain l (λ y. is_moving (posture_needed a b y)) (is_moving (posture_needed a b z)) refl in
    let posture = posture_needed a b z in
    ap₂ (λ (o : Option ℕ) m. record {
      owner = owner_for t z o (then_some m Moving);
      flag = false;
      posture = posture_for t z o (option_or (then_some m Moving) posture);
    }) owner moves
    ∙ ap₂ (λ (m : Bool) (q : Option Posture). record {
      owner = option_or (owner_needed a b z) (then_some m (host_of t z));
      flag = false;
      posture = posture_for t z (owner_needed a b z) q;
    }) (moves_back posture) (moves_so posture)

entrant_alone : PlainPlansStay → (t : PlanTable) (z : ℕ) → IsPlain t → z < zone_count t → (o : Option ℕ)
    → is_entrant t z o ≡ (is_none o || is_owned_by o (host_of t z) || is_owned_by o (guest_of t z))
entrant_alone stay t z plain l None = refl
entrant_alone stay t z plain l (Some m) = (stay t some_state z plain).enter m l

-- ---- masks
abbrev pick : Bool → ℕ → ℕ → ℕ
pick b m n = if b then m else n

mask_by : (s : ZoneShape) (holds never strange : Bool) → s.guests ≡ 1 → owner_mask s holds (never || (holds && strange)) ≡ (if holds || never then 3 else 0)
mask_by s holds never strange one =
    ap (λ g. if never || (holds && strange) then (if nat_eq g 1 then 2 ^ owner_bits g - 1 else 0) else if holds then 2 ^ owner_bits g - 1 else 0) one ∙ go holds never strange
  where
    go : (holds never strange : Bool) → pick (never || (holds && strange)) 3 (pick holds 3 0) ≡ pick (holds || never) 3 0
    go true true strange = refl
    go false true strange = refl
    go true false true = refl
    go true false false = refl
    go false false strange = refl

pattern_by : (s : ZoneShape) (owner party : ℕ) (holds never strange : Bool) → s.guests ≡ 1 → (strange ≡ true → party ≡ 3) → (strange ≡ false → owner ≡ party)
    → owner_pattern s owner holds (never || (holds && strange)) ≡ (if never then 3 else if holds then party else 0)
pattern_by s owner party holds never strange one out inside =
    ap (λ g. if never || (holds && strange) then 2 ^ owner_bits g - 1 else if holds then owner else 0) one ∙ go holds never strange out inside
  where
    go : (holds never strange : Bool) → (strange ≡ true → party ≡ 3) → (strange ≡ false → owner ≡ party)
        → pick (never || (holds && strange)) 3 (pick holds owner 0) ≡ pick never 3 (pick holds party 0)
    go holds true strange out inside = refl
    go true false true out inside = sym (out refl)
    go true false false out inside = inside refl
    go false false strange out inside = refl

start_is : (s : ZoneShape) → s.guests ≡ 1 → posture_start s ≡ 2 + flag_bits s.flag
start_is s one = ap (λ g. owner_bits g + flag_bits s.flag) one

no_party : (a b : Bool) → not (a || b) ≡ true → pick a 1 (pick b 2 3) ≡ 3
no_party true b e = cc
no_party false true e = cc
no_party false false e = refl

a_party : (a b : Bool) (n : ℕ) → n ≡ 0 → not (a || b) ≡ false → pick a 1 (2 + n) ≡ pick a 1 (pick b 2 3)
a_party true b n none e = refl
a_party false true n none e = ap (λ k. 2 + k) none
a_party false false n none e = cc

module _ (stay : PlainPlansStay) (t : PlanTable) (a : Motor) (z : ℕ) (plain : IsPlain t) (l : z < zone_count t) where
  abbrev shape : ZoneShape
  shape = zone_shape t z

  one : (zone_shape t z).guests ≡ 1
  one = one_guest t z plain l

  enter : enters t a.machine z ≡ (nat_eq a.machine (host_of t z) || nat_eq a.machine (guest_of t z))
  enter = (stay t some_state z plain).enter a.machine l

  abbrev strange : Bool
  strange = not (nat_eq a.machine (host_of t z) || nat_eq a.machine (guest_of t z))

  holds_alone : holds_in t a z ≡ (need_of a z).holds
  holds_alone = any_is t z plain l (λ y. (need_of a y).holds) (need_of a z).holds refl

  never_alone : never_in t a z ≡ (is_never shape (need_of a z).posture || ((need_of a z).holds && strange))
  never_alone =
      ap₂ (λ n h. n || (h && not (enters t a.machine z))) (any_is t z plain l (λ y. is_never (zone_shape t y) (need_of a y).posture) (is_never shape (need_of a z).posture) refl) holds_alone
      ∙ ap (λ e. is_never shape (need_of a z).posture || ((need_of a z).holds && not e)) enter

  mask_alone : zone_mask t a z
      ≡ (if (need_of a z).holds || is_never shape (need_of a z).posture then 3 else 0) + posture_mask (postures_of shape) (need_of a z).posture * 2 ^ (2 + flag_bits shape.flag)
  mask_alone =
      ap₂ (λ o k. o + posture_mask (postures_of shape) (need_of a z).posture * 2 ^ k)
      (ap₂ (owner_mask shape) holds_alone never_alone ∙ mask_by shape (need_of a z).holds (is_never shape (need_of a z).posture) strange one) (start_is shape one)

  guest_none : (m : ℕ) → owner_part t z (Some m) ≡ owner_code t z (Some m)
  guest_none m = first_part t z (Some m) (alone t z plain l z)

  party_out : strange ≡ true → party_code t z a.machine ≡ 3
  party_out e = no_party (nat_eq a.machine (host_of t z)) (nat_eq a.machine (guest_of t z)) e

  party_in : strange ≡ false → owner_part t z (Some a.machine) ≡ party_code t z a.machine
  party_in e =
      let below = guest_below t z a.machine (omega (arith, one)) in
      guest_none a.machine
      ∙ a_party (nat_eq a.machine (host_of t z)) (nat_eq a.machine (guest_of t z)) _ (omega (arith, below, one)) e

  pattern_alone : zone_pattern t a z
      ≡ (if is_never shape (need_of a z).posture then 3 else if (need_of a z).holds then party_code t z a.machine else 0) + posture_pattern (postures_of shape) (need_of a z).posture * 2 ^ (2 + flag_bits shape.flag)
  pattern_alone =
      ap₂ (λ o k. o + posture_pattern (postures_of shape) (need_of a z).posture * 2 ^ k)
      (ap₂ (owner_pattern shape (owner_part t z (Some a.machine))) holds_alone never_alone
      ∙ pattern_by shape (owner_part t z (Some a.machine)) (party_code t z a.machine) (need_of a z).holds (is_never shape (need_of a z).posture) strange one party_out party_in)
      (start_is shape one)

pub plain_motors : PlainPlansStay → PlainMotorsStay
plain_motors stay t a b z plain l = record {
  apart = (apart_alone t a b z plain l, alone_apart t a b z l);
  zone = zone_alone t a b z plain l;
  lawful = λ v. ap (λ e. e && implies (is_owned_by v.owner (guest_of t z)) (is_open v.posture) && implies (same_posture v.posture Moving) (is_owned_by v.owner (host_of t z)))
      (entrant_alone stay t z plain l v.owner);
  mask = mask_alone stay t a z plain l;
  pattern = pattern_alone stay t a z plain l;
}
