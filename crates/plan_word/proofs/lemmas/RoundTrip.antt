-- The word of a state of a plan tells that state.
use Rattle.std.proofs.Common.{◌≡◌, ℕ, ◌+◌, ◌*◌, ◌/◌, ◌%◌, ◌<◌, ◌≤◌, Bool, true, false, ◌||◌, ◌&&◌, if◌then◌else◌, nat_eq, nat_lt, Option, Some, None, is_some, IsTrue, refl, sym, ap, ◌∙◌, subst, arith, ◌↔◌, ltb-true, eq-eqb, inl, inr}
use Rattle.std.proofs.lemmas.Bool.{cases_lt, lt-ltb, false_from_ne_true}
use Rattle.std.proofs.lemmas.List.{get_or_past}
use Rattle.std.proofs.lemmas.List.FromFn.{fill_by_all, get_or-map-range_with_len}
use Rattle.plan_types.specs.declared.posture.Posture.{Posture}
use Rattle.plan_types.specs.declared.posture.Posture.TheVariants.{Closed, Moving, OpenIn, OpenOut}
use Rattle.plan_types.specs.declared.shape.Postures.{Postures}
use Rattle.plan_types.specs.declared.shape.Postures.TheVariants.{Shut, Two, All}
use Rattle.plan_types.specs.declared.table.Way.{Way}
use Rattle.plan_types.specs.declared.table.Transfer.{Transfer}
use Rattle.plan_types.specs.Same.{same_posture, one_posture}
use Rattle.plan_types.specs.Table.{postures_of, PlanTable, zone_count, place_count, host_of, guest_of, zone_row, space_of, transfer_by, transfer_of, zone_shape}
use Rattle.plan_types.specs.Plan.{IsPlan}
use Rattle.plan_types.proofs.lemmas.Spaces.{named}
use Rattle.plan_rules.proofs.lemmas.Spaces.{first_inside}
use Rattle.std.proofs.lemmas.Nat.{div-mul-add, mod-mul-add}
use Rattle.plan_rules.specs.declared.state.ZoneState.{ZoneState}
use Rattle.plan_rules.specs.declared.state.State.{State}
use Rattle.plan_rules.specs.State.{zone_at, posture_at, is_full, one_if, free_zone}
use Rattle.plan_rules.specs.Sound.{IsSound, IsLawfulZone, implies, is_received_by}
use Rattle.plan_word.specs.declared.layout.Field.TheVariants.{Zone, Place, Stamp, Stop}
use Rattle.plan_word.specs.Layout.{counts_of}
use Rattle.plan_word.specs.OfPlan.{IsOfPlan, can_have}
use Rattle.plan_word.specs.Packed.{owner_code, owner_part, owner_values, posture_code, code_of, flag_values, rest_in, zone_code, packed}
use Rattle.plan_word.specs.Reading.{told, owner_of_code, owner_in, posture_of_code, posture_told, zone_of_code, zone_in_word, place_told, state_told}
use Rattle.plan_word.proofs.lemmas.Guests.{owner_part_fits, owner_back}
use Rattle.plan_word.proofs.lemmas.LaidOut.{flag_in_field, held_back}

-- ---- the codes
pub flag_back : (b : Bool) → nat_eq (one_if b) 1 ≡ b
flag_back true = refl
flag_back false = refl

posture_back : (p : Posture) → posture_of_code (posture_code p) ≡ p
posture_back Closed = refl
posture_back Moving = refl
posture_back OpenIn = refl
posture_back OpenOut = refl

-- of two postures the first is Closed
two_back : (other q : Posture) → (same_posture q Closed || same_posture q other) ≡ true → posture_told (Two other) (code_of (Two other) q) ≡ q
two_back other Closed h = refl
two_back other Moving h = sym (one_posture Moving other h)
two_back other OpenIn h = sym (one_posture OpenIn other h)
two_back other OpenOut h = sym (one_posture OpenOut other h)

pub told_posture : (p : Postures) (q : Posture) → can_have p q ≡ true → posture_told p (code_of p q) ≡ q
told_posture Shut q h = sym (one_posture q Closed h)
told_posture (Two other) q h = two_back other q h
told_posture All q h = posture_back q

-- a plate in a zone has its way, so the zone has a flag
no_flag : (flag : Bool) → (flag && false) ≡ false
no_flag true = refl
no_flag false = refl

flag_kept : (flag f : Bool) (owner : Option ℕ) (o : Option Transfer) → implies f (is_received_by owner o) ≡ true → ((way : Transfer) → o ≡ Some way → flag ≡ true) → (flag && f) ≡ f
flag_kept flag false owner o h k = no_flag flag
flag_kept flag true owner None h k = cc
flag_kept flag true owner (Some way) h k = ap (λ b. b && true) (k way refl)

second : (b : Bool) → (b || true) ≡ true
second true = refl
second false = refl

goes_by : (giver receiver : ℕ) (o : Option Way) (way : Transfer) → transfer_by giver receiver o ≡ Some way → is_some o ≡ true
goes_by giver receiver None way e = cc
goes_by giver receiver (Some w) way e = refl

goes : (t : PlanTable) (z : ℕ) (q : Posture) (way : Transfer) → transfer_of t z q ≡ Some way → (zone_shape t z).flag ≡ true
goes t z Closed way e = cc
goes t z Moving way e = cc
goes t z OpenIn way e = ap (λ b. b || is_some (zone_row t z).outward) (goes_by (guest_of t z) (host_of t z) (zone_row t z).inward way e)
goes t z OpenOut way e =
    ap (λ b. is_some (zone_row t z).inward || b) (goes_by (host_of t z) (guest_of t z) (zone_row t z).outward way e)
    ∙ second (is_some (zone_row t z).inward)

-- the flag and the posture above the owner
middle : (flag : Bool) (f p : ℕ) → f < flag_values flag → (f + flag_values flag * p) % flag_values flag ≡ f
middle true f p b = omega arith
middle false f p b = omega arith

higher : (flag : Bool) (f p : ℕ) → f < flag_values flag → (f + flag_values flag * p) / flag_values flag ≡ p
higher true f p b = omega arith
higher false f p b = omega arith

-- the first zone of a space tells the owner, each zone its flag and its posture
owner_told : (t : PlanTable) (f : ℕ) (v : ZoneState) → IsPlan t → f < zone_count t → space_of t f ≡ f → IsLawfulZone t f v → owner_in t f (zone_code t f v) ≡ v.owner
owner_told t f v p l first h =
    let s = zone_shape t f in
    ap (owner_of_code t f) (mod-mul-add (rest_in s v) (owner_values s) (owner_part t f v.owner) (owner_part_fits t f v.owner))
    ∙ ap (λ b. owner_of_code t f (if b then owner_code t f v.owner else 0)) (eq-eqb (space_of t f) f first)
    ∙ owner_back t f v.owner p l first h.owner_is_party

pub zone_code_back : (t : PlanTable) (z : ℕ) (v : ZoneState) (first : ℕ) → IsLawfulZone t z v → IsTrue (can_have (postures_of (zone_shape t z)) v.posture) → owner_in t (space_of t z) first ≡ v.owner
    → zone_of_code t z first (zone_code t z v) ≡ v
zone_code_back t z v first h told_so owner_is =
    let s = zone_shape t z in
    let r = flag_values s.flag in
    let f = one_if (s.flag && v.flag) in
    let p = code_of (postures_of s) v.posture in
    let b = flag_in_field s.flag v.flag in
    let kept : (s.flag && v.flag) ≡ v.flag = flag_kept s.flag v.flag v.owner (transfer_of t z v.posture) h.flag_has_transfer (goes t z v.posture) in
    let rest : zone_code t z v / owner_values s ≡ f + r * p = div-mul-add (f + r * p) (owner_values s) (owner_part t z v.owner) (owner_part_fits t z v.owner) in
    let flag : nat_eq (zone_code t z v / owner_values s % r) 1 ≡ v.flag =
    ap (λ n. nat_eq (n % r) 1) rest ∙ ap (λ n. nat_eq n 1) (middle s.flag f p b) ∙ ap (λ x. nat_eq (one_if x) 1) kept ∙ flag_back v.flag in
    let posture : posture_told (postures_of s) (zone_code t z v / owner_values s / r) ≡ v.posture =
    ap (λ n. posture_told (postures_of s) (n / r)) rest ∙ ap (posture_told (postures_of s)) (higher s.flag f p b) ∙ told_posture (postures_of s) v.posture told_so in
    λ i. record { owner = owner_is i; flag = flag i; posture = posture i }

-- ---- zones and places
not_below : (a b : ℕ) → nat_lt a b ≡ false → b ≤ a
not_below a b e = elim (cases_lt a b) [ inl l ↦ absurd (let h = lt-ltb a b l in cc) | inr l ↦ l ]

-- the field of a zone of the plan tells its number
field_back : (t : PlanTable) (s : State) → IsOfPlan t s → (z : ℕ) → z < zone_count t → told (counts_of t) (packed t s) (Zone z) ≡ zone_code t z (zone_at s z)
field_back t s k z l = held_back t s k.sound.stamp_in_range (Zone z) (lt-ltb z (zone_count t) l)

zone_back : (t : PlanTable) (s : State) → IsOfPlan t s → (z : ℕ) → z < zone_count t
    → zone_of_code t z (told (counts_of t) (packed t s) (Zone (space_of t z))) (told (counts_of t) (packed t s) (Zone z)) ≡ zone_at s z
zone_back t s k z l =
    let f = space_of t z in
    let inside = first_inside t z l in
    let first = named t z in
    let owner = ap (owner_in t f) (field_back t s k f inside) ∙ owner_told t f (zone_at s f) k.plan inside first (k.sound.zone_is_lawful f inside) ∙ sym (k.sound.zone_is_of_space z l).owner in
    ap (zone_of_code t z (told (counts_of t) (packed t s) (Zone f))) (field_back t s k z l)
    ∙ zone_code_back t z (zone_at s z) (told (counts_of t) (packed t s) (Zone f)) (k.sound.zone_is_lawful z l) (k.postures_told z l) owner

zone_seen : (t : PlanTable) (s : State) → IsOfPlan t s → (z : ℕ) → zone_in_word t (packed t s) z ≡ zone_at s z
zone_seen t s k z =
    let w = packed t s in
    let At : Bool → Type 0 = λ b. nat_lt z (zone_count t) ≡ b
    → (if b then zone_of_code t z (told (counts_of t) w (Zone (space_of t z))) (told (counts_of t) w (Zone z)) else free_zone) ≡ zone_at s z in
    let by : (b : Bool) → At b = λ b. elim b as At [
      | true ↦ λ e. zone_back t s k z (ltb-true z (zone_count t) e)
      | false ↦ λ e. sym (k.no_more_zones z (not_below z (zone_count t) e))
    ] in
    by (nat_lt z (zone_count t)) refl

place_seen : (t : PlanTable) (s : State) → IsOfPlan t s → (p : ℕ) → place_told t (packed t s) p ≡ is_full s p
place_seen t s k p =
    let w = packed t s in
    let At : Bool → Type 0 = λ b. nat_lt p (place_count t) ≡ b → (b && nat_eq (told (counts_of t) w (Place p)) 1) ≡ is_full s p in
    let by : (b : Bool) → At b = λ b. elim b as At [
      | true ↦ λ e. ap (λ n. nat_eq n 1) (held_back t s k.sound.stamp_in_range (Place p) e) ∙ flag_back (is_full s p)
      | false ↦ λ e. sym (k.no_more_plates p (not_below p (place_count t) e))
    ] in
    by (nat_lt p (place_count t)) refl

-- ---- a state
pub told_back : (t : PlanTable) (s : State) → IsOfPlan t s → state_told t (packed t s) ≡ s
unfolding state_told
told_back t s k =
    let w = packed t s in
    let small = k.sound.stamp_in_range in
    let zones : s.zones ≡ (state_told t w).zones = fill_by_all (zone_in_word t w) s.zones 10 free_zone k.sound.has_ten_zones (λ z l. sym (zone_seen t s k z)) in
    let places : s.full ≡ (state_told t w).full = fill_by_all (place_told t w) s.full 16 false k.sound.has_sixteen_places (λ p l. sym (place_seen t s k p)) in
    let stamp : (state_told t w).stamp ≡ s.stamp = held_back t s small Stamp refl in
    let stopped : (state_told t w).stopped ≡ s.stopped = ap (λ n. nat_eq n 1) (held_back t s small Stop refl) ∙ flag_back s.stopped in
    let zones_back = sym zones in
    let places_back = sym places in
    λ i. record { zones = zones_back i; full = places_back i; stamp = stamp i; stopped = stopped i }

pub one_state : (t : PlanTable) (s u : State) → IsOfPlan t s → IsOfPlan t u → packed t s ≡ packed t u → s ≡ u
one_state t s u h k e = sym (told_back t s h) ∙ ap (state_told t) e ∙ told_back t u k

-- ---- what unpack answers
pub told_some : (t : PlanTable) (w : ℕ) → IsOfPlan t (state_told t w) → packed t (state_told t w) ≡ w
    → (s : State) → (Some (state_told t w) ≡ Some s) ↔ (IsOfPlan t s × (packed t s ≡ w))
told_some t w h e s = (
  λ k. let same : state_told t w ≡ s = cc in (subst (IsOfPlan t) same h, ap (packed t) (sym same) ∙ e),
  λ k. ap (λ (x : State). Some x) (ap (state_told t) (sym k.1) ∙ told_back t s k.0),
)

pub told_none : (t : PlanTable) (w : ℕ) → (IsOfPlan t (state_told t w) → packed t (state_told t w) ≡ w → ⊥)
    → (s : State) → ◌≡◌ {A = Option State} None (Some s) ↔ (IsOfPlan t s × (packed t s ≡ w))
told_none t w h s =
    (λ k. cc, λ k. let same : s ≡ state_told t w = sym (told_back t s k.0) ∙ ap (state_told t) k.1 in absurd (h (subst (IsOfPlan t) same k.0) (ap (packed t) (sym same) ∙ k.1)))

-- ---- the state that a word tells uses nothing past the plan's tables
not_there : (a b : ℕ) → b ≤ a → nat_lt a b ≡ false
not_there a b past = false_from_ne_true (nat_lt a b) (λ e. let l = ltb-true a b e in absurd (omega arith))

no_more_told : (t : PlanTable) (w z : ℕ) → zone_count t ≤ z → zone_at (state_told t w) z ≡ free_zone
unfolding state_told
no_more_told t w z past =
    elim (cases_lt z 10) [
      | inl ten ↦ get_or-map-range_with_len (zone_in_word t w) 0 10 z z free_zone ten (omega arith)
          ∙ ap (λ b. if b then zone_of_code t z (told (counts_of t) w (Zone (space_of t z))) (told (counts_of t) w (Zone z)) else free_zone) (not_there z (zone_count t) past)
      | inr more ↦ get_or_past (state_told t w).zones z free_zone more
    ]

no_more_full : (t : PlanTable) (w p : ℕ) → place_count t ≤ p → is_full (state_told t w) p ≡ false
unfolding state_told
no_more_full t w p past =
    elim (cases_lt p 16) [
      | inl l ↦ get_or-map-range_with_len (place_told t w) 0 16 p p false l (omega arith)
          ∙ ap (λ b. b && nat_eq (told (counts_of t) w (Place p)) 1) (not_there p (place_count t) past)
      | inr more ↦ get_or_past (state_told t w).full p false more
    ]

-- ---- and the postures that it tells are told
pub same_self : (q : Posture) → same_posture q q ≡ true
same_self Closed = refl
same_self Moving = refl
same_self OpenIn = refl
same_self OpenOut = refl

pub closed_told : (p : Postures) → can_have p Closed ≡ true
closed_told Shut = refl
closed_told (Two other) = refl
closed_told All = refl

one_of_two : (other : Posture) (b : Bool) → can_have (Two other) (if b then Closed else other) ≡ true
one_of_two other true = refl
one_of_two other false = ap (λ x. same_posture other Closed || x) (same_self other) ∙ second (same_posture other Closed)

some_told : (p : Postures) (n : ℕ) → can_have p (posture_told p n) ≡ true
some_told Shut n = refl
some_told (Two other) n = one_of_two other (nat_eq n 0)
some_told All n = refl

pub code_told : (t : PlanTable) (z first n : ℕ) → can_have (postures_of (zone_shape t z)) (zone_of_code t z first n).posture ≡ true
code_told t z first n = some_told (postures_of (zone_shape t z)) (n / owner_values (zone_shape t z) / flag_values (zone_shape t z).flag)

zone_told : (t : PlanTable) (w z : ℕ) → can_have (postures_of (zone_shape t z)) (zone_in_word t w z).posture ≡ true
zone_told t w z = by (nat_lt z (zone_count t))
  where
    by : (b : Bool) → can_have (postures_of (zone_shape t z)) (if b then zone_of_code t z (told (counts_of t) w (Zone (space_of t z))) (told (counts_of t) w (Zone z)) else free_zone).posture ≡ true
    by true = code_told t z (told (counts_of t) w (Zone (space_of t z))) (told (counts_of t) w (Zone z))
    by false = closed_told (postures_of (zone_shape t z))

postures_told : (t : PlanTable) (w z : ℕ) → can_have (postures_of (zone_shape t z)) (posture_at (state_told t w) z) ≡ true
unfolding state_told
postures_told t w z =
    elim (cases_lt z 10) [
      | inl ten ↦ subst (λ (v : ZoneState). can_have (postures_of (zone_shape t z)) v.posture ≡ true) (sym (get_or-map-range_with_len (zone_in_word t w) 0 10 z z free_zone ten (omega arith))) (zone_told t w z)
      | inr more ↦ subst (λ (v : ZoneState). can_have (postures_of (zone_shape t z)) v.posture ≡ true) (sym (get_or_past (state_told t w).zones z free_zone more)) (closed_told (postures_of (zone_shape t z)))
    ]

pub told_is_of_plan : (t : PlanTable) (w : ℕ) → IsPlan t → IsSound t (state_told t w) → IsOfPlan t (state_told t w)
told_is_of_plan t w p h = record { plan = p; sound = h; postures_told = λ z l. postures_told t w z; no_more_zones = no_more_told t w; no_more_plates = no_more_full t w }
