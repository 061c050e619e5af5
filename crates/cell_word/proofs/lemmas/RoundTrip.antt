-- The word of a sound state encodes that state.
use Rattle.cell_word.proofs.Names.{◌≡◌, ℕ, ◌+◌, ◌-◌, ◌*◌, ◌/◌, ◌<◌, ◌≤◌, Bool, true, false, ◌||◌, if◌then◌else◌, nat_eq, Option, Some, None, is_none, List, [], ◌∷◌, ◌++◌, map, get_or, refl, sym, ap, ◌∙◌, subst, arith, rules, ◌↔◌, All, flat_map, All-nil, All-cons, All-append, All-map, Machine, Zone, Z1, Z2, Z3, Z4, Z5, Z6, Place, FeedEntry, FeedEnd, Arm1, PressIn, PressOut, Arm2, DepEntry, DepEnd, Posture, Closed}
use Rattle.cell_word.proofs.Names.{host_of, guest_of, same_machine, one_machine, all_places, Table, Crane, ModelState, zone_at, is_full, one_if, last_stamp, IsSound, has_lawful_owner, is_owned_by, ZoneState, Field, field, zone_bit, place_bit, stamp_bit, mark_bit, owner_code, posture_code, zone_fields, fields_at, place_field, last_fields, fields_of, packed, bits_of, owner_of_code, posture_of_code, is_bit_set, is_told_full, zone_in_word, state_told, Fits, SideBySide, ReadsBack, IsLaidOut}
use Rattle.cell_rules.specs.Types.{all_zones}
use Rattle.cell_rules.specs.Names.{model_state, zone_map, place_set}
use Rattle.cell_word.proofs.Fields.{whole_word_below, whole_word_back}

-- ---- each field fits
pub owner_fits : (z : Zone) (o : Option Machine) → owner_code z o < 4
owner_fits z None = omega arith
owner_fits z (Some m) = elim (same_machine m (host_of z)) as (λ b. (if b then 1 else 2) < 4) [ true ↦ omega arith | false ↦ omega arith ]

pub flag_fits : (b : Bool) → one_if b < 2
flag_fits true = omega arith
flag_fits false = omega arith

pub posture_fits : (p : Posture) → posture_code p < 4
posture_fits Closed = omega arith
posture_fits _ = omega arith

pub All-flat_map : {X A : Type 0} (P : A → Type 0) (f : X → List A) (xs : List X) → ((x : X) → All P (f x)) → All P (flat_map f xs)
All-flat_map P f [] h = All-nil P
All-flat_map P f (x ∷ xs) h = All-append P (f x) (flat_map f xs) (h x) (All-flat_map P f xs h)

pub all_three : (P : Field → Type 0) (a b c : Field) → P a → P b → P c → All P (a ∷ b ∷ c ∷ [])
all_three P a b c ha hb hc = All-cons P a (b ∷ c ∷ []) ha (All-cons P b (c ∷ []) hb (All-cons P c [] hc (All-nil P)))

pub all_fields : (P : Field → Type 0) (s : ModelState) → ((z : Zone) → All P (fields_at s z)) → ((p : Place) → P (place_field s p)) → P (field stamp_bit 20 s.stamp) → P (field mark_bit 1 (one_if s.stopped)) → All P (fields_of s)
all_fields P s zone place stamp mark =
    All-append P (flat_map (fields_at s) all_zones ++ map (place_field s) all_places) (last_fields s)
    (All-append P (flat_map (fields_at s) all_zones) (map (place_field s) all_places) (All-flat_map P (fields_at s) all_zones zone) (All-map P (place_field s) all_places (λ k d inside. place (get_or all_places k d))))
    (All-cons P (field stamp_bit 20 s.stamp) (field mark_bit 1 (one_if s.stopped) ∷ []) stamp (All-cons P (field mark_bit 1 (one_if s.stopped)) [] mark (All-nil P)))

zone_fits : (z : Zone) (v : ZoneState) → All Fits (zone_fields z v)
zone_fits z v =
    all_three Fits (field (zone_bit z) 2 (owner_code z v.owner)) (field (zone_bit z + 2) 1 (one_if v.flag)) (field (zone_bit z + 3) 2 (posture_code v.posture))
    (owner_fits z v.owner) (flag_fits v.flag) (posture_fits v.posture)

fields_fit : (s : ModelState) → s.stamp ≤ last_stamp → All Fits (fields_of s)
fields_fit s small = all_fields Fits s (λ z. zone_fits z (zone_at s z)) (λ p. flag_fits (is_full s p)) (omega arith) (flag_fits s.stopped)

pub side_by_side : (s : ModelState) → SideBySide 0 61 (fields_of s)
side_by_side s = search rules

pub laid_out : (s : ModelState) → IsSound s → IsLaidOut s
unfolding packed
laid_out s sound =
    let fit = fields_fit s sound.stamp_in_range in
    record {
      fits = fit;
      side_by_side = side_by_side s;
      reads_back = whole_word_back 61 (fields_of s) (side_by_side s) fit;
      bound = whole_word_below 61 (fields_of s) (side_by_side s) fit;
    }

-- ---- the codes
some_owner : (z : Zone) (m : Machine) (b c : Bool) → same_machine m (host_of z) ≡ b → same_machine m (guest_of z) ≡ c → (b || c) ≡ true
    → owner_of_code z (if b then 1 else 2) ≡ Some m
some_owner z m true c e f h = ap Some (sym (one_machine m (host_of z) e))
some_owner z m false true e f h = ap Some (sym (one_machine m (guest_of z) f))
some_owner z m _ _ e f h = cc

owner_back : (z : Zone) (o : Option Machine) → (is_none o || is_owned_by o (host_of z) || is_owned_by o (guest_of z)) ≡ true → owner_of_code z (owner_code z o) ≡ o
owner_back z None h = refl
owner_back z (Some m) h = some_owner z m (same_machine m (host_of z)) (same_machine m (guest_of z)) refl refl h

flag_back : (b : Bool) → nat_eq (one_if b) 1 ≡ b
flag_back true = refl
flag_back false = refl

posture_back : (p : Posture) → posture_of_code (posture_code p) ≡ p
posture_back Closed = refl
posture_back _ = refl

-- ---- a zone, and a state
zone_back : (w : ℕ) (z : Zone) (v : ZoneState) → has_lawful_owner z v ≡ true → bits_of w (zone_bit z) 2 ≡ owner_code z v.owner → bits_of w (zone_bit z + 2) 1 ≡ one_if v.flag
    → bits_of w (zone_bit z + 3) 2 ≡ posture_code v.posture → zone_in_word w z ≡ v
zone_back w z v h by_owner by_flag by_posture =
    let owner : (zone_in_word w z).owner ≡ v.owner = ap (owner_of_code z) by_owner ∙ owner_back z v.owner h in
    let flag : (zone_in_word w z).flag ≡ v.flag = ap (λ n. nat_eq n 1) by_flag ∙ flag_back v.flag in
    let posture : (zone_in_word w z).posture ≡ v.posture = ap posture_of_code by_posture ∙ posture_back v.posture in
    λ i. record { owner = owner i; flag = flag i; posture = posture i }

bit_back : (w bit : ℕ) (b : Bool) → bits_of w bit 1 ≡ one_if b → is_bit_set w bit ≡ b
bit_back w bit b e = ap (λ n. nat_eq n 1) e ∙ flag_back b

-- the field at an index reads back
read : (s : ModelState) → IsSound s → (k : ℕ) → k < 30 → ReadsBack (packed s) (get_or (fields_of s) k (field 0 0 0))
read s sound k inside = (laid_out s sound).reads_back k (field 0 0 0) inside

pub record ZoneRead (w : ℕ) (z : Zone) (v : ZoneState) : Type 0 where
  pub owner : bits_of w (zone_bit z) 2 ≡ owner_code z v.owner
  pub flag : bits_of w (zone_bit z + 2) 1 ≡ one_if v.flag
  pub posture : bits_of w (zone_bit z + 3) 2 ≡ posture_code v.posture

pub zone_fields_read : (s : ModelState) → IsSound s → (z : Zone) → ZoneRead (packed s) z (zone_at s z)
zone_fields_read s sound Z1 = record { owner = read s sound 0 (omega arith); flag = read s sound 1 (omega arith); posture = read s sound 2 (omega arith) }
zone_fields_read s sound z =
    let k = zone_bit z / 5 * 3 in
    record { owner = read s sound k (omega arith); flag = read s sound (k + 1) (omega arith); posture = read s sound (k + 2) (omega arith) }

pub zone_read : (s : ModelState) → IsSound s → (z : Zone) → zone_in_word (packed s) z ≡ zone_at s z
zone_read s sound z = let r = zone_fields_read s sound z in zone_back (packed s) z (zone_at s z) (sound.owner_is_party z) r.owner r.flag r.posture

pub place_field_read : (s : ModelState) → IsSound s → (p : Place) → bits_of (packed s) (place_bit p) 1 ≡ one_if (is_full s p)
place_field_read s sound FeedEntry = read s sound 18 (omega arith)
place_field_read s sound p = read s sound (place_bit p - 12) (omega arith)

place_read : (s : ModelState) → IsSound s → (p : Place) → is_told_full (packed s) p ≡ is_full s p
place_read s sound p = bit_back (packed s) (place_bit p) (is_full s p) (place_field_read s sound p)

pub stamp_read : (s : ModelState) → IsSound s → bits_of (packed s) stamp_bit 20 ≡ s.stamp
stamp_read s sound = read s sound 28 (omega arith)

pub mark_read : (s : ModelState) → IsSound s → bits_of (packed s) mark_bit 1 ≡ one_if s.stopped
mark_read s sound = read s sound 29 (omega arith)

pub told_back : (s : ModelState) → IsSound s → state_told (packed s) ≡ s
told_back s sound =
    let zone = zone_read s sound in
    let place = place_read s sound in
    let stamp = stamp_read s sound in
    let stopped = bit_back (packed s) mark_bit s.stopped (mark_read s sound) in
    λ i. model_state
    (zone_map (zone Z1 i) (zone Z2 i) (zone Z3 i) (zone Z4 i) (zone Z5 i) (zone Z6 i))
    (place_set (place FeedEntry i) (place FeedEnd i) (place Table i) (place Arm1 i) (place PressIn i) (place PressOut i) (place Arm2 i) (place DepEntry i) (place DepEnd i) (place Crane i))
    (stamp i)
    (stopped i)

pub one_state : (s t : ModelState) → IsSound s → IsSound t → packed s ≡ packed t → s ≡ t
one_state s t h k e = sym (told_back s h) ∙ ap state_told e ∙ told_back t k

-- ---- what unpack answers
pub told_some : (w : ℕ) → IsSound (state_told w) → packed (state_told w) ≡ w → (s : ModelState) → (Some (state_told w) ≡ Some s) ↔ (IsSound s × (packed s ≡ w))
told_some w h e s =
    (λ k. let same : state_told w ≡ s = cc in (subst IsSound same h, ap packed (sym same) ∙ e), λ k. ap Some (ap state_told (sym k.1) ∙ told_back s k.0))

pub told_none : (w : ℕ) → (IsSound (state_told w) → packed (state_told w) ≡ w → ⊥) → (s : ModelState) → ◌≡◌ {A = Option ModelState} None (Some s) ↔ (IsSound s × (packed s ≡ w))
told_none w h s =
    (λ k. cc, λ k. let same : s ≡ state_told w = sym (told_back s k.0) ∙ ap state_told k.1 in absurd (h (subst IsSound same k.0) (ap packed (sym same) ∙ k.1)))
