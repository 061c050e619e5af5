-- A word has a motor's pattern under its mask exactly if its state permits the motor.
use Rattle.std.proofs.Common.{◌≡◌, ℕ, zero, suc, ◌+◌, ◌*◌, ◌/◌, ◌%◌, ◌<◌, ◌≤◌, ◌^◌, ◌-◌, ◌↔◌, inl, inr, Bool, true, false, not, ◌&&◌, ◌||◌, nat_eq, if◌then◌else◌, Option, Some, None, is_some, refl, sym, ap, ap₂, ◌∙◌, subst, arith, eq-eqb, IsTrue, bit_and}
use Rattle.std.proofs.lemmas.Bool.{eqb-true, and_parts, lt-ltb}
use Rattle.std.proofs.Common.{nat_lt, ltb-true, unwrap_or}
use Rattle.std.specs.Bool.{then_some}
use Rattle.std.proofs.Math.Nat.{pow-le-pow_right}
use Rattle.std.proofs.lemmas.Nat.{and_le_r, and_mod, and_shr, and_mask, div-add-mod', mod_low, shr_high, shr-shr, pow-add, mul-add-lt, div-mul-add, mod-mul-add}
use Rattle.plan_types.specs.declared.posture.Posture.{Posture}
use Rattle.plan_types.specs.declared.posture.Posture.TheVariants.{Closed}
use Rattle.plan_types.specs.declared.shape.Postures.{Postures}
use Rattle.plan_types.specs.declared.shape.Postures.TheVariants.{Shut, Two, All}
use Rattle.plan_types.specs.declared.shape.ZoneShape.{ZoneShape}
use Rattle.plan_types.specs.Same.{same_posture, one_posture}
use Rattle.plan_types.specs.Below.{first_below, any_below}
use Rattle.plan_types.specs.Table.{postures_of, PlanTable, zone_count, place_count, host_of, guest_of, space_of, same_space, enters, guests_in, owner_bits, flag_bits, posture_bits, shape_bits, zone_shape}
use Rattle.plan_types.specs.Plan.{IsPlan}
use Rattle.plan_types.proofs.lemmas.Below.{below_next, any_below_none, any_below_all, first_of}
use Rattle.plan_types.proofs.lemmas.Spaces.{named}
use Rattle.plan_rules.specs.declared.state.ZoneState.{ZoneState}
use Rattle.plan_rules.specs.declared.state.State.{State}
use Rattle.plan_rules.specs.State.{zone_at, owner_of, posture_at, is_full, one_if}
use Rattle.plan_rules.specs.Sound.{implies, is_owned_by, is_entrant}
use Rattle.plan_rules.proofs.lemmas.Below.{any_below_at}
use Rattle.plan_rules.proofs.lemmas.Puts.{nat_eq-self}
use Rattle.plan_rules.proofs.lemmas.Spaces.{first_inside, shared_owner}
use Rattle.plan_rules.proofs.lemmas.Zones.{implied}
use Rattle.plan_word.specs.declared.layout.Field.TheVariants.{Zone, Place}
use Rattle.plan_word.specs.OfPlan.{IsOfPlan, can_have}
use Rattle.plan_word.specs.Packed.{is_guest_at, guest_number, owner_code, owner_part, owner_values, code_of, flag_values, rest_in, zone_code, packed}
use Rattle.plan_word.specs.Reading.{owner_of_code, posture_told}
use Rattle.plan_word.proofs.lemmas.Guests.{owner_part_fits, owner_back, shape_guests, values_some}
use Rattle.plan_word.proofs.lemmas.LaidOut.{flag_in_field, posture_in_field}
use Rattle.plan_word.proofs.lemmas.Shapes.{bits_at, ends, places_bit, bits_are}
use Rattle.plan_word.proofs.lemmas.RoundTrip.{same_self, told_posture}
use Rattle.plan_word.specs.Laws.{EveryWordIsLaidOut}
use Rattle.plan_motors.specs.declared.motor.Motor.{Motor}
use Rattle.plan_motors.specs.declared.mask.MotorMask.{MotorMask}
use Rattle.plan_motors.specs.Motor.{need_of, place_need, has_posture, meets, meets_place, Permits}
use Rattle.plan_motors.specs.Mask.{is_never, posture_start, holds_near, holds_in, never_near, never_in, all_owners, owner_mask, owner_pattern, posture_mask, posture_pattern, bits_with, zone_mask, zone_pattern, place_mask, place_pattern, zone_masks, zone_patterns, place_masks, place_patterns, mask_of, pattern_of, allows}
use Rattle.plan_motors.proofs.Wanted.{holder_is, some_below}

-- ---- what fits a field
pub flag_fits : (b : Bool) → one_if b < 2
flag_fits true = omega arith
flag_fits false = omega arith

-- a number above lower bits keeps the sum below the next number
pub next_bound : (low v start width : ℕ) → low < 2 ^ start → v < 2 ^ width → low + v * 2 ^ start < 2 ^ (start + width)
next_bound low v start width below fits =
    let power : 2 ^ (start + width) ≡ 2 ^ start * 2 ^ width = pow-add 2 start width in
    let lower : v * 2 ^ start + low < 2 ^ start * 2 ^ width = mul-add-lt v (2 ^ start) low (2 ^ width) fits below in
    rw power (omega (arith, lower))

-- ---- one field more
below_is : (n k : ℕ) → n < 2 ^ k → n % 2 ^ k ≡ n
below_is n k l = let same : 0 * 2 ^ k + n ≡ n = omega arith in ap (λ x. x % 2 ^ k) (sym same) ∙ mod_low 0 k n l

-- under a number of n bits a word looks like its n lowest bits
lowest : (w x n : ℕ) → x < 2 ^ n → bit_and w x ≡ bit_and (w % 2 ^ n) x
lowest w x n l =
    let most = and_le_r w x in
    let small : bit_and w x < 2 ^ n = omega (arith, most, l) in
    sym (below_is (bit_and w x) n small) ∙ and_mod w x n ∙ ap (bit_and (w % 2 ^ n)) (below_is x n l)

low_part : (w m x k : ℕ) → m < 2 ^ k → bit_and w (m + x * 2 ^ k) % 2 ^ k ≡ bit_and w m
low_part w m x k l =
    let turned : m + x * 2 ^ k ≡ x * 2 ^ k + m = omega arith in
    and_mod w (m + x * 2 ^ k) k
    ∙ ap (λ y. bit_and (w % 2 ^ k) y) (ap (λ y. y % 2 ^ k) turned ∙ mod_low x k m l)
    ∙ sym (lowest w m k l)

high_part : (w m x k n : ℕ) → m < 2 ^ k → x < 2 ^ n → bit_and w (m + x * 2 ^ k) / 2 ^ k ≡ bit_and (w / 2 ^ k % 2 ^ n) x
high_part w m x k n l h =
    let turned : m + x * 2 ^ k ≡ x * 2 ^ k + m = omega arith in
    and_shr w (m + x * 2 ^ k) k
    ∙ ap (λ y. bit_and (w / 2 ^ k) y) (ap (λ y. y / 2 ^ k) turned ∙ shr_high x k m l)
    ∙ lowest (w / 2 ^ k) x n h

pub one_more : (w m x k n p y : ℕ) → m < 2 ^ k → x < 2 ^ n → p < 2 ^ k
    → (bit_and w (m + x * 2 ^ k) ≡ p + y * 2 ^ k) ↔ ((bit_and w m ≡ p) × (bit_and (w / 2 ^ k % 2 ^ n) x ≡ y))
one_more w m x k n p y l h s =
    let b = bit_and w (m + x * 2 ^ k) in
    let turned : p + y * 2 ^ k ≡ y * 2 ^ k + p = omega arith in
    let low = low_part w m x k l in
    let high = high_part w m x k n l h in (
      λ e. (sym low ∙ ap (λ a. a % 2 ^ k) (e ∙ turned) ∙ mod_low y k p s, sym high ∙ ap (λ a. a / 2 ^ k) (e ∙ turned) ∙ shr_high y k p s),
      λ e. sym (div-add-mod' b (2 ^ k)) ∙ ap₂ (λ i j. i * 2 ^ k + j) (high ∙ e.1) (low ∙ e.0) ∙ sym turned,
    )

-- ---- a zone
all_fit : (s : ZoneShape) → all_owners s < 2 ^ owner_bits s.guests
all_fit s = let some = values_some s.guests in omega (arith, some)

never_mask_fits : (s : ZoneShape) (one : Bool) → (if one then all_owners s else 0) < 2 ^ owner_bits s.guests
never_mask_fits s true = all_fit s
never_mask_fits s false = values_some s.guests

owner_mask_fits : (s : ZoneShape) (holds never : Bool) → owner_mask s holds never < 2 ^ owner_bits s.guests
owner_mask_fits s holds true = never_mask_fits s (nat_eq s.guests 1)
owner_mask_fits s true false = all_fit s
owner_mask_fits s false false = values_some s.guests

owner_pattern_fits : (s : ZoneShape) (owner : ℕ) (holds never : Bool) → owner < 2 ^ owner_bits s.guests → owner_pattern s owner holds never < 2 ^ owner_bits s.guests
owner_pattern_fits s owner holds true l = all_fit s
owner_pattern_fits s owner true false l = l
owner_pattern_fits s owner false false l = values_some s.guests

posture_mask_fits : (p : Postures) (q : Option Posture) → posture_mask p q < 2 ^ posture_bits p
posture_mask_fits Shut None = omega arith
posture_mask_fits Shut (Some q) = omega arith
posture_mask_fits (Two other) None = omega arith
posture_mask_fits (Two other) (Some q) = omega arith
posture_mask_fits All None = omega arith
posture_mask_fits All (Some q) = omega arith

posture_pattern_fits : (p : Postures) (q : Option Posture) → posture_pattern p q < 2 ^ posture_bits p
posture_pattern_fits Shut None = omega arith
posture_pattern_fits (Two other) None = omega arith
posture_pattern_fits All None = omega arith
posture_pattern_fits p (Some q) = posture_in_field p q

-- the owner's bits lie below those of the posture
pub start_fits : (s : ZoneShape) (n : ℕ) → n < 2 ^ owner_bits s.guests → n < 2 ^ posture_start s
start_fits s n l =
    let more : 2 ^ owner_bits s.guests ≤ 2 ^ posture_start s = pow-le-pow_right (omega arith) (let le : owner_bits s.guests ≤ owner_bits s.guests + flag_bits s.flag = omega arith in le) in
    omega (arith, l, more)

pub bits_fit : (s : ZoneShape) (owner posture : ℕ) → owner < 2 ^ owner_bits s.guests → posture < 2 ^ posture_bits (postures_of s) → bits_with s owner posture < 2 ^ shape_bits s
bits_fit s owner posture l k = next_bound owner posture (posture_start s) (posture_bits (postures_of s)) (start_fits s owner l) k

zone_mask_fits : (t : PlanTable) (m : Motor) (z : ℕ) → zone_mask t m z < 2 ^ bits_at t z
zone_mask_fits t m z =
    let s = zone_shape t z in
    subst (λ k. zone_mask t m z < 2 ^ k) (sym (bits_are t z))
    (bits_fit s _ _ (owner_mask_fits s (holds_in t m z) (never_in t m z)) (posture_mask_fits (postures_of s) (need_of m z).posture))

zone_pattern_fits : (t : PlanTable) (m : Motor) (z : ℕ) → zone_pattern t m z < 2 ^ bits_at t z
zone_pattern_fits t m z =
    let s = zone_shape t z in
    subst (λ k. zone_pattern t m z < 2 ^ k) (sym (bits_are t z))
    (bits_fit s _ _ (owner_pattern_fits s (owner_part t z (Some m.machine)) (holds_in t m z) (never_in t m z) (owner_part_fits t z (Some m.machine))) (posture_pattern_fits (postures_of s) (need_of m z).posture))

-- the bits of a zone that a machine holds, closed
closed_code : (p : Postures) → code_of p Closed ≡ 0
closed_code Shut = refl
closed_code (Two other) = refl
closed_code All = refl

no_flag : (flag : Bool) → one_if (flag && false) ≡ 0
no_flag true = refl
no_flag false = refl

pub held_code : (t : PlanTable) (z m : ℕ) → zone_code t z (record { owner = Some m; flag = false; posture = Closed }) ≡ owner_part t z (Some m)
held_code t z m =
    let s = zone_shape t z in
    ap₂ (λ f p. (f + flag_values s.flag * p) * owner_values s + owner_part t z (Some m)) (no_flag s.flag) (closed_code (postures_of s))
    ∙ none (flag_values s.flag) (owner_values s) (owner_part t z (Some m))
  where
    none : (a b n : ℕ) → (0 + a * 0) * b + n ≡ n
    none a b n = omega arith

-- the bits of an owner and of a posture, each under its mask
nothing_seen : (n : ℕ) → bit_and n 0 ≡ 0
nothing_seen n = let most = and_le_r n 0 in omega (arith, most)

owner_seen : (t : PlanTable) (z : ℕ) (v : ZoneState) → bit_and (zone_code t z v) (all_owners (zone_shape t z)) ≡ owner_part t z v.owner
owner_seen t z v =
    let s = zone_shape t z in
    and_mask (zone_code t z v) (owner_bits s.guests)
    ∙ mod-mul-add (rest_in s v) (owner_values s) (owner_part t z v.owner) (owner_part_fits t z v.owner)

above_flag : (flag : Bool) (f p : ℕ) → f < flag_values flag → (f + flag_values flag * p) / 2 ^ flag_bits flag ≡ p
above_flag true f p b = omega (arith, b)
above_flag false f p b = omega (arith, b)

posture_bits_are : (t : PlanTable) (z : ℕ) (v : ZoneState) → zone_code t z v / 2 ^ posture_start (zone_shape t z) % 2 ^ posture_bits (postures_of (zone_shape t z)) ≡ code_of (postures_of (zone_shape t z)) v.posture
posture_bits_are t z v =
    let s = zone_shape t z in
    let f = one_if (s.flag && v.flag) in
    let p = code_of (postures_of s) v.posture in
    let rest : zone_code t z v / owner_values s ≡ rest_in s v = div-mul-add (rest_in s v) (owner_values s) (owner_part t z v.owner) (owner_part_fits t z v.owner) in
    let above : zone_code t z v / 2 ^ posture_start s ≡ p =
    sym (shr-shr (zone_code t z v) (owner_bits s.guests) (flag_bits s.flag)) ∙ ap (λ n. n / 2 ^ flag_bits s.flag) rest ∙ above_flag s.flag f p (flag_in_field s.flag v.flag) in
    ap (λ n. n % 2 ^ posture_bits (postures_of s)) above ∙ below_is p (posture_bits (postures_of s)) (posture_in_field (postures_of s) v.posture)

-- of postures that a field tells, two have one code only if they are one
posture_seen : (ps : Postures) (p q : Posture) → can_have ps p ≡ true → can_have ps q ≡ true → (code_of ps p ≡ code_of ps q) ↔ IsTrue (same_posture p q)
posture_seen ps p q hp hq = (
  λ e. let same : p ≡ q = sym (told_posture ps p hp) ∙ ap (posture_told ps) e ∙ told_posture ps q hq in subst (λ x. same_posture p x ≡ true) same (same_self p),
  λ e. ap (code_of ps) (one_posture p q e),
)

posture_shown : (ps : Postures) (p q : Posture) (code : ℕ) → can_have ps p ≡ true → can_have ps q ≡ true → code ≡ code_of ps p
    → (bit_and code (2 ^ posture_bits ps - 1) ≡ code_of ps q) ↔ IsTrue (same_posture p q)
posture_shown ps p q code hp hq is =
    let mask : bit_and code (2 ^ posture_bits ps - 1) ≡ code_of ps p =
    ap (λ n. bit_and n (2 ^ posture_bits ps - 1)) is ∙ and_mask (code_of ps p) (posture_bits ps) ∙ below_is (code_of ps p) (posture_bits ps) (posture_in_field ps p) in
    let seen = posture_seen ps p q hp hq in
    (λ e. seen.0 (sym mask ∙ e), λ e. mask ∙ seen.1 e)

both_true : (a b : Bool) → a ≡ true → b ≡ true → (a && b) ≡ true
both_true a b e f = rw (e, f) refl

-- what is seen of an owner
abbrev OwnerSeen : PlanTable → Motor → ℕ → ZoneState → Type 0
OwnerSeen t m z v =
    bit_and (zone_code t z v) (owner_mask (zone_shape t z) (holds_in t m z) (never_in t m z))
    ≡ owner_pattern (zone_shape t z) (owner_part t z (Some m.machine)) (holds_in t m z) (never_in t m z)

abbrev PostureSeen : PlanTable → Motor → ℕ → ZoneState → Type 0
PostureSeen t m z v =
    bit_and (zone_code t z v / 2 ^ posture_start (zone_shape t z) % 2 ^ posture_bits (postures_of (zone_shape t z)))
    (posture_mask (postures_of (zone_shape t z)) (need_of m z).posture) ≡ posture_pattern (postures_of (zone_shape t z)) (need_of m z).posture

-- one mask of the owner and one of the posture
split_zone : (t : PlanTable) (m : Motor) (z : ℕ) (v : ZoneState) → (bit_and (zone_code t z v) (zone_mask t m z) ≡ zone_pattern t m z) ↔ (OwnerSeen t m z v × PostureSeen t m z v)
split_zone t m z v =
    let s = zone_shape t z in
    let holds = holds_in t m z in
    let never = never_in t m z in
    let own = owner_part t z (Some m.machine) in
    one_more (zone_code t z v) (owner_mask s holds never) (posture_mask (postures_of s) (need_of m z).posture) (posture_start s) (posture_bits (postures_of s))
    (owner_pattern s own holds never) (posture_pattern (postures_of s) (need_of m z).posture)
    (start_fits s (owner_mask s holds never) (owner_mask_fits s holds never)) (posture_mask_fits (postures_of s) (need_of m z).posture)
    (start_fits s (owner_pattern s own holds never) (owner_pattern_fits s own holds never (owner_part_fits t z (Some m.machine))))

-- ---- a space, by the field of its first zone
-- no owner of one guest's space has the spare code
spare_by : (s : ZoneShape) (code own : ℕ) (one : Bool) → nat_eq s.guests 1 ≡ one → 0 < s.guests → (s.guests ≡ 1 → own < 3) → bit_and code (all_owners s) ≡ own
    → bit_and code (if one then all_owners s else 0) ≡ all_owners s → ⊥
spare_by s code own true e some few seen is =
    let one : s.guests ≡ 1 = eqb-true s.guests 1 e in
    let least = few one in
    let three : all_owners s ≡ 3 = ap (λ n. 2 ^ owner_bits n - 1) one in
    absurd (omega (arith, least, three, seen, is))
spare_by s code own false e some few seen is =
    let none = nothing_seen code in
    let more = two_bits s.guests some in
    absurd (omega (arith, none, is, more))
  where
    two_by : (a b : Bool) → 4 ≤ 2 ^ (if a then 2 else if b then 3 else 4)
    two_by true b = omega arith
    two_by false true = omega arith
    two_by false false = omega arith

    two_bits : (g : ℕ) → 0 < g → 4 ≤ 2 ^ owner_bits g
    two_bits zero l = absurd (omega (arith, l))
    two_bits (suc more) l = two_by (nat_lt more 2) (nat_lt more 6)

owner_shown : (s : ZoneShape) (code own part : ℕ) (holds never : Bool) → 0 < s.guests → (s.guests ≡ 1 → own < 3) → bit_and code (all_owners s) ≡ own
    → (bit_and code (owner_mask s holds never) ≡ owner_pattern s part holds never) ↔ ((never ≡ false) × (holds ≡ true → own ≡ part))
owner_shown s code own part holds true some few seen = (λ e. absurd (spare_by s code own (nat_eq s.guests 1) refl some few seen e), λ k. absurd (no k.0))
  where
    no : true ≡ false → ⊥
    no e = cc
owner_shown s code own part true false some few seen = (λ e. (refl, λ _. sym seen ∙ e), λ k. seen ∙ k.1 refl)
owner_shown s code own part false false some few seen = (λ e. (refl, λ h. absurd (no h)), λ k. nothing_seen code)
  where
    no : false ≡ true → ⊥
    no e = cc

-- another zone's field tells nothing of the owner
silent_mask : (s : ZoneShape) (holds never : Bool) → s.guests ≡ 0 → owner_mask s holds never ≡ 0
silent_mask s holds never none = let small = owner_mask_fits s holds never in let one : 2 ^ owner_bits s.guests ≡ 1 = ap (λ n. 2 ^ owner_bits n) none in omega (arith, small, one)

silent_pattern : (s : ZoneShape) (part : ℕ) (holds never : Bool) → s.guests ≡ 0 → part < 2 ^ owner_bits s.guests → owner_pattern s part holds never ≡ 0
silent_pattern s part holds never none l =
    let small = owner_pattern_fits s part holds never l in
    let one : 2 ^ owner_bits s.guests ≡ 1 = ap (λ n. 2 ^ owner_bits n) none in
    omega (arith, small, one)

silent : (t : PlanTable) (m : Motor) (z : ℕ) (v : ZoneState) → (zone_shape t z).guests ≡ 0 → OwnerSeen t m z v
silent t m z v none =
    let s = zone_shape t z in
    let holds = holds_in t m z in
    let never = never_in t m z in
    ap (bit_and (zone_code t z v)) (silent_mask s holds never none) ∙ nothing_seen (zone_code t z v)
    ∙ sym (silent_pattern s (owner_part t z (Some m.machine)) holds never none (owner_part_fits t z (Some m.machine)))

first_guests : (t : PlanTable) (f : ℕ) → space_of t f ≡ f → 0 < (zone_shape t f).guests
first_guests t f first = let guests = shape_guests t f first in omega (arith, guests)

later_guests : (t : PlanTable) (z : ℕ) → nat_eq (space_of t z) z ≡ false → (zone_shape t z).guests ≡ 0
later_guests t z e = ap (λ b. if b then guests_in t z else 0) e

pub first_part : (t : PlanTable) (f : ℕ) (o : Option ℕ) → space_of t f ≡ f → owner_part t f o ≡ owner_code t f o
first_part t f o first = ap (λ b. if b then owner_code t f o else 0) (eq-eqb (space_of t f) f first)

-- a guest's number is below the number of guests
then_is : (b : Bool) (k x : ℕ) → then_some b k ≡ Some x → (b ≡ true) × (k ≡ x)
then_is true k x e = (refl, ap (λ o. unwrap_or o k) e)
then_is false k x e = cc

abbrev guests_at : PlanTable → ℕ → ℕ → ℕ → Option ℕ
guests_at t f m k = then_some (is_guest_at t f m k) k

number_below : (t : PlanTable) (f m : ℕ) (o : Option ℕ) → first_below (guests_at t f m) 14 ≡ o → 0 < (zone_shape t f).guests → unwrap_or o 0 < (zone_shape t f).guests
number_below t f m None e some = some
number_below t f m (Some x) e some =
    let found = first_of (guests_at t f m) 14 x e in
    let is = then_is (is_guest_at t f m found.at) found.at x found.has in
    let inside = and_parts (nat_lt found.at (zone_shape t f).guests) (nat_eq (guest_of t (f + found.at)) m) is.0 in
    let below = ltb-true found.at (zone_shape t f).guests inside.0 in
    omega (arith, below, is.1)

pub guest_below : (t : PlanTable) (f m : ℕ) → 0 < (zone_shape t f).guests → guest_number t f m < (zone_shape t f).guests
guest_below t f m some = number_below t f m (first_below (guests_at t f m) 14) refl some

-- where there is one guest, owners have the codes 0 to 2
one_code : (t : PlanTable) (f : ℕ) (o : Option ℕ) → space_of t f ≡ f → (zone_shape t f).guests ≡ 1 → owner_part t f o < 3
one_code t f o first one = let is = first_part t f o first in let few = code_few t f o one in omega (arith, is, few)
  where
    by : (b : Bool) (n : ℕ) → n < 1 → (if b then 1 else 2 + n) < 3
    by true n l = omega arith
    by false n l = omega (arith, l)

    code_few : (t : PlanTable) (f : ℕ) (o : Option ℕ) → (zone_shape t f).guests ≡ 1 → owner_code t f o < 3
    code_few t f None one = omega arith
    code_few t f (Some m) one =
        let below = guest_below t f m (omega (arith, one)) in
        by (nat_eq m (host_of t f)) (guest_number t f m) (omega (arith, below, one))

same_owner : (t : PlanTable) (f : ℕ) (a b : Option ℕ) → IsPlan t → f < zone_count t → space_of t f ≡ f → is_entrant t f a ≡ true → is_entrant t f b ≡ true → owner_part t f a ≡ owner_part t f b → a ≡ b
same_owner t f a b p l first ea eb e =
    sym (owner_back t f a p l first ea)
    ∙ ap (owner_of_code t f) (sym (first_part t f a first) ∙ e ∙ first_part t f b first)
    ∙ owner_back t f b p l first eb

-- what holds of a space holds by each of its zones
enters_by : (t : PlanTable) (m y z : ℕ) → space_of t y ≡ space_of t z → enters t m y ≡ enters t m z
enters_by t m y z same = ap (λ f. any_below (λ x. nat_eq (space_of t x) f && (nat_eq m (host_of t x) || nat_eq m (guest_of t x))) (zone_count t)) same

entrant_by : (t : PlanTable) (y z : ℕ) (o : Option ℕ) → space_of t y ≡ space_of t z → is_entrant t y o ≡ is_entrant t z o
entrant_by t y z None same = refl
entrant_by t y z (Some m) same = enters_by t m y z same

-- ---- a state of the plan that permits a motor, field by field
owned : (o : Option ℕ) (m : ℕ) → o ≡ Some m → is_owned_by o m ≡ true
owned o m e = ap (λ x. is_owned_by x m) e ∙ nat_eq-self m

same_here : (t : PlanTable) (y z : ℕ) → space_of t y ≡ space_of t z → same_space t y z ≡ true
same_here t y z same = eq-eqb _ _ same

neither : (a b : Bool) → (a || b) ≡ false → (a ≡ false) × (b ≡ false)
neither true b e = cc
neither false b e = (refl, e)

not_here : (a b : Bool) → (a && b) ≡ false → a ≡ true → b ≡ false
not_here true b e f = e
not_here false b e f = cc

yes_if : (b : Bool) → not b ≡ false → b ≡ true
yes_if true e = refl
yes_if false e = cc

none_of : (a b : Bool) → (a ≡ true → b ≡ false) → (a && b) ≡ false
none_of true b k = k refl
none_of false b k = refl

module _ (t : PlanTable) (m : Motor) (s : State) (k : IsOfPlan t s) where
  -- a zone has the owner of its space
  owner_by : (y z : ℕ) → y < zone_count t → z < zone_count t → space_of t y ≡ space_of t z → owner_of s y ≡ owner_of s z
  owner_by y z ly lz same = shared_owner t s y z k.sound ly lz same

  abbrev MeetsZone : ℕ → Type 0
  MeetsZone z = IsTrue (meets m.machine (need_of m z) (zone_at s z))

  meets_parts : (z : ℕ) → MeetsZone z → (implies (need_of m z).holds (is_owned_by (owner_of s z) m.machine) ≡ true) × (has_posture (need_of m z).posture (posture_at s z) ≡ true)
  meets_parts z e = and_parts (implies (need_of m z).holds (is_owned_by (owner_of s z) m.machine)) (has_posture (need_of m z).posture (posture_at s z)) e

  -- ---- what is permitted is seen
  never_posture : (ps : Postures) (q : Option Posture) (p : Posture) → can_have ps p ≡ true → has_posture q p ≡ true → (shape : ZoneShape) → postures_of shape ≡ ps → is_never shape q ≡ false
  never_posture ps None p told e shape is = refl
  never_posture ps (Some q) p told e shape is = ap not (ap (λ x. can_have x q) is ∙ ap (can_have ps) (sym (one_posture p q e)) ∙ told)

  no_posture_never : ((z : ℕ) → z < zone_count t → MeetsZone z) → (z : ℕ) → any_below (never_near t m z) (zone_count t) ≡ false
  no_posture_never all z =
      any_below_all (never_near t m z) (zone_count t) (λ y l.
      none_of (same_space t y z) (is_never (zone_shape t y) (need_of m y).posture) (λ _.
      never_posture (postures_of (zone_shape t y)) (need_of m y).posture (posture_at s y) (k.postures_told y l) (meets_parts y (all y l)).1 (zone_shape t y) refl))

  holder : ((z : ℕ) → z < zone_count t → MeetsZone z) → (z : ℕ) → z < zone_count t → holds_in t m z ≡ true → owner_of s z ≡ Some m.machine
  holder all z l e =
      let found = some_below (holds_near t m z) (zone_count t) e in
      let y = found.0 in
      let at = and_parts (same_space t y z) (need_of m y).holds found.2 in
      let own = implied (need_of m y).holds (is_owned_by (owner_of s y) m.machine) (meets_parts y (all y found.1)).0 at.1 in
      sym (owner_by y z found.1 l (eqb-true _ _ at.0)) ∙ holder_is (owner_of s y) m.machine own

  never_false : ((z : ℕ) → z < zone_count t → MeetsZone z) → (z : ℕ) → z < zone_count t → never_in t m z ≡ false
  never_false all z l =
      both_false (any_below (never_near t m z) (zone_count t)) (holds_in t m z && not (enters t m.machine z)) (no_posture_never all z)
      (none_of (holds_in t m z) (not (enters t m.machine z)) (λ e.
      ap not (subst (λ o. is_entrant t z o ≡ true) (holder all z l e) (k.sound.zone_is_lawful z l).owner_is_party)))
    where
      both_false : (a b : Bool) → a ≡ false → b ≡ false → (a || b) ≡ false
      both_false a b e f = rw (e, f) refl

  first_seen : (z : ℕ) → z < zone_count t → space_of t z ≡ z → OwnerSeen t m z (zone_at s z) ↔ ((never_in t m z ≡ false) × (holds_in t m z ≡ true → owner_part t z (owner_of s z) ≡ owner_part t z (Some m.machine)))
  first_seen z l first =
      owner_shown (zone_shape t z) (zone_code t z (zone_at s z)) (owner_part t z (owner_of s z)) (owner_part t z (Some m.machine)) (holds_in t m z) (never_in t m z)
      (first_guests t z first) (one_code t z (owner_of s z) first) (owner_seen t z (zone_at s z))

  owner_if : ((z : ℕ) → z < zone_count t → MeetsZone z) → (z : ℕ) → z < zone_count t → (b : Bool) → nat_eq (space_of t z) z ≡ b → OwnerSeen t m z (zone_at s z)
  owner_if all z l true e = (first_seen z l (eqb-true _ _ e)).1 (never_false all z l, λ h. ap (owner_part t z) (holder all z l h))
  owner_if all z l false e = silent t m z (zone_at s z) (later_guests t z e)

  posture_by : (z : ℕ) → z < zone_count t → (q : Option Posture) → (is_never (zone_shape t z) q ≡ false)
      → (bit_and (zone_code t z (zone_at s z) / 2 ^ posture_start (zone_shape t z) % 2 ^ posture_bits (postures_of (zone_shape t z))) (posture_mask (postures_of (zone_shape t z)) q)
      ≡ posture_pattern (postures_of (zone_shape t z)) q) ↔ IsTrue (has_posture q (posture_at s z))
  posture_by z l None never = (λ e. refl, λ e. nothing_seen _)
  posture_by z l (Some q) never =
      posture_shown (postures_of (zone_shape t z)) (posture_at s z) q _ (k.postures_told z l) (yes_if _ never) (posture_bits_are t z (zone_at s z))

  pub zone_if : ((z : ℕ) → z < zone_count t → MeetsZone z) → (z : ℕ) → z < zone_count t → bit_and (zone_code t z (zone_at s z)) (zone_mask t m z) ≡ zone_pattern t m z
  zone_if all z l =
      let has = (meets_parts z (all z l)).1 in
      let never = never_posture (postures_of (zone_shape t z)) (need_of m z).posture (posture_at s z) (k.postures_told z l) has (zone_shape t z) refl in
      (split_zone t m z (zone_at s z)).1 (owner_if all z l (nat_eq (space_of t z) z) refl, (posture_by z l (need_of m z).posture never).1 has)

  -- ---- what is seen is permitted
  abbrev SeesZone : ℕ → Type 0
  SeesZone z = bit_and (zone_code t z (zone_at s z)) (zone_mask t m z) ≡ zone_pattern t m z

  holds_too : (z : ℕ) → z < zone_count t → (need_of m z).holds ≡ true → holds_in t m (space_of t z) ≡ true
  holds_too z l e = any_below_at (holds_near t m (space_of t z)) z (zone_count t) l (both_true _ _ (same_here t z (space_of t z) (sym (named t z))) e)

  pub zone_only : ((z : ℕ) → z < zone_count t → SeesZone z) → (z : ℕ) → z < zone_count t → MeetsZone z
  zone_only all z l =
      let f = space_of t z in
      let lf = first_inside t z l in
      let first = named t z in
      let same : space_of t z ≡ space_of t f = sym first in
      let seen = (first_seen f lf first).0 ((split_zone t m f (zone_at s f)).0 (all f lf)).0 in
      let never = neither (any_below (never_near t m f) (zone_count t)) (holds_in t m f && not (enters t m.machine f)) seen.0 in
      let told = not_here (same_space t z f) (is_never (zone_shape t z) (need_of m z).posture) (any_below_none (never_near t m f) (zone_count t) never.0 z l) (same_here t z f same) in
      let posture = (posture_by z l (need_of m z).posture told).0 ((split_zone t m z (zone_at s z)).0 (all z l)).1 in
      both_true _ _ (implied_by (need_of m z).holds (is_owned_by (owner_of s z) m.machine) (λ e.
      let here = holds_too z l e in
      let entering = yes_if _ (not_here (holds_in t m f) (not (enters t m.machine f)) never.1 here) in
      let entrant = (k.sound.zone_is_lawful f lf).owner_is_party in
      let owner = same_owner t f (owner_of s f) (Some m.machine) k.plan lf first entrant entering (seen.1 here) in
      owned (owner_of s z) m.machine (owner_by z f l lf same ∙ owner))) posture
    where
      implied_by : (a b : Bool) → (a ≡ true → b ≡ true) → implies a b ≡ true
      implied_by true b h = h refl
      implied_by false b h = refl

-- ---- a place
place_shown : (q : Option Bool) (full : Bool) → (bit_and (one_if full) (place_mask q) ≡ place_pattern q) ↔ IsTrue (meets_place q full)
place_shown None full = (λ e. refl, λ e. nothing_seen (one_if full))
place_shown (Some true) true = (λ e. refl, λ e. refl)
place_shown (Some true) false = (λ e. absurd (omega arith), λ e. cc)
place_shown (Some false) true = (λ e. absurd (omega arith), λ e. cc)
place_shown (Some false) false = (λ e. refl, λ e. refl)

place_mask_fits : (q : Option Bool) → place_mask q < 2 ^ 1
place_mask_fits q = flag_fits (is_some q)

place_pattern_fits : (q : Option Bool) → place_pattern q < 2 ^ 1
place_pattern_fits None = omega arith
place_pattern_fits (Some b) = flag_fits b

-- ---- all zones, and all places
pub zone_masks_fit : (t : PlanTable) (m : Motor) (n : ℕ) → zone_masks t m n < 2 ^ ends t n
zone_masks_fit t m zero = omega arith
zone_masks_fit t m (suc n) = next_bound (zone_masks t m n) (zone_mask t m n) (ends t n) (bits_at t n) (zone_masks_fit t m n) (zone_mask_fits t m n)

pub zone_patterns_fit : (t : PlanTable) (m : Motor) (n : ℕ) → zone_patterns t m n < 2 ^ ends t n
zone_patterns_fit t m zero = omega arith
zone_patterns_fit t m (suc n) = next_bound (zone_patterns t m n) (zone_pattern t m n) (ends t n) (bits_at t n) (zone_patterns_fit t m n) (zone_pattern_fits t m n)

next_place : (b k low v : ℕ) → low < 2 ^ (b + k) → v < 2 ^ 1 → low + v * 2 ^ (b + k) < 2 ^ (b + suc k)
next_place b k low v l f = let end : b + k + 1 ≡ b + suc k = omega arith in subst (λ e. low + v * 2 ^ (b + k) < 2 ^ e) end (next_bound low v (b + k) 1 l f)

pub place_masks_fit : (t : PlanTable) (m : Motor) (n : ℕ) → zone_masks t m (zone_count t) + place_masks t m n < 2 ^ (places_bit t + n)
place_masks_fit t m zero =
    let low = zone_masks_fit t m (zone_count t) in
    let base : places_bit t ≡ places_bit t + 0 = omega arith in
    let same : zone_masks t m (zone_count t) ≡ zone_masks t m (zone_count t) + 0 = omega arith in
    subst (λ x. x < 2 ^ (places_bit t + 0)) same (subst (λ e. zone_masks t m (zone_count t) < 2 ^ e) base low)
place_masks_fit t m (suc n) =
    let rest = place_masks_fit t m n in
    let more = next_place (places_bit t) n (zone_masks t m (zone_count t) + place_masks t m n) (place_mask (place_need m n)) rest (place_mask_fits (place_need m n)) in
    omega (arith, more)

pub place_patterns_fit : (t : PlanTable) (m : Motor) (n : ℕ) → zone_patterns t m (zone_count t) + place_patterns t m n < 2 ^ (places_bit t + n)
place_patterns_fit t m zero =
    let low = zone_patterns_fit t m (zone_count t) in
    let base : places_bit t ≡ places_bit t + 0 = omega arith in
    let same : zone_patterns t m (zone_count t) ≡ zone_patterns t m (zone_count t) + 0 = omega arith in
    subst (λ x. x < 2 ^ (places_bit t + 0)) same (subst (λ e. zone_patterns t m (zone_count t) < 2 ^ e) base low)
place_patterns_fit t m (suc n) =
    let rest = place_patterns_fit t m n in
    let more = next_place (places_bit t) n (zone_patterns t m (zone_count t) + place_patterns t m n) (place_pattern (place_need m n)) rest (place_pattern_fits (place_need m n)) in
    omega (arith, more)

abbrev ZoneSeen : PlanTable → Motor → ℕ → ℕ → Type 0
ZoneSeen t m w z = bit_and (w / 2 ^ ends t z % 2 ^ bits_at t z) (zone_mask t m z) ≡ zone_pattern t m z

abbrev PlaceSeen : PlanTable → Motor → ℕ → ℕ → Type 0
PlaceSeen t m w p = bit_and (w / 2 ^ (places_bit t + p) % 2 ^ 1) (place_mask (place_need m p)) ≡ place_pattern (place_need m p)

at_end : (P : ℕ → Type 0) (n : ℕ) → ((i : ℕ) → i < n → P i) → P n → (i : ℕ) → i < suc n → P i
at_end P n before here i l = elim (below_next i n l) [ inl k ↦ before i k | inr e ↦ subst P (sym e) here ]

zones_seen : (t : PlanTable) (m : Motor) (w n : ℕ) → (bit_and w (zone_masks t m n) ≡ zone_patterns t m n) ↔ ((z : ℕ) → z < n → ZoneSeen t m w z)
zones_seen t m w zero = (λ e z l. absurd (omega arith), λ e. nothing_seen w)
zones_seen t m w (suc n) =
    let rest = zones_seen t m w n in
    let more = one_more w (zone_masks t m n) (zone_mask t m n) (ends t n) (bits_at t n) (zone_patterns t m n) (zone_pattern t m n) (zone_masks_fit t m n) (zone_mask_fits t m n) (zone_patterns_fit t m n) in (
      λ e. let parts = more.0 e in at_end (ZoneSeen t m w) n (rest.0 parts.0) parts.1,
      λ e. more.1 (rest.1 (λ z l. e z (omega arith)), e n (omega arith)),
    )

places_seen : (t : PlanTable) (m : Motor) (w n : ℕ)
    → (bit_and w (zone_masks t m (zone_count t) + place_masks t m n) ≡ zone_patterns t m (zone_count t) + place_patterns t m n)
    ↔ (((z : ℕ) → z < zone_count t → ZoneSeen t m w z) × ((p : ℕ) → p < n → PlaceSeen t m w p))
places_seen t m w zero =
    let zones = zones_seen t m w (zone_count t) in
    let a : zone_masks t m (zone_count t) + 0 ≡ zone_masks t m (zone_count t) = omega arith in
    let b : zone_patterns t m (zone_count t) + 0 ≡ zone_patterns t m (zone_count t) = omega arith in
    (λ e. (zones.0 (ap (bit_and w) (sym a) ∙ e ∙ b), λ p l. absurd (omega arith)), λ e. ap (bit_and w) a ∙ zones.1 e.0 ∙ sym b)
places_seen t m w (suc n) =
    let zm = zone_masks t m (zone_count t) in
    let zp = zone_patterns t m (zone_count t) in
    let k = places_bit t + n in
    let x = place_mask (place_need m n) in
    let y = place_pattern (place_need m n) in
    let rest = places_seen t m w n in
    let more = one_more w (zm + place_masks t m n) x k 1 (zp + place_patterns t m n) y (place_masks_fit t m n) (place_mask_fits (place_need m n)) (place_patterns_fit t m n) in
    let a : zm + (place_masks t m n + x * 2 ^ k) ≡ zm + place_masks t m n + x * 2 ^ k = omega arith in
    let b : zp + (place_patterns t m n + y * 2 ^ k) ≡ zp + place_patterns t m n + y * 2 ^ k = omega arith in (
      λ e. let parts = more.0 (ap (bit_and w) (sym a) ∙ e ∙ b) in let before = rest.0 parts.0 in (before.0, at_end (PlaceSeen t m w) n before.1 parts.1),
      λ e. ap (bit_and w) a ∙ more.1 (rest.1 (e.0, λ p l. e.1 p (omega arith)), e.1 n (omega arith)) ∙ sym b,
    )

-- ---- a state's word
pub word_permits : EveryWordIsLaidOut → (t : PlanTable) (m : Motor) (s : State) → IsOfPlan t s
    → (bit_and (packed t s) (mask_of t m) ≡ pattern_of t m) ↔ Permits t s m
unfolding mask_of pattern_of
word_permits laid t m s k =
    let w = packed t s in
    let seen = places_seen t m w (place_count t) in
    let back = (laid t s k).reads_back in
    let is : (z : ℕ) → z < zone_count t → w / 2 ^ ends t z % 2 ^ bits_at t z ≡ zone_code t z (zone_at s z) = λ z l. back (Zone z) (there z (zone_count t) l) in
    let place : (p : ℕ) → p < place_count t → PlaceSeen t m w p ↔ IsTrue (meets_place (place_need m p) (is_full s p)) = λ p l.
    let is : w / 2 ^ (places_bit t + p) % 2 ^ 1 ≡ one_if (is_full s p) = back (Place p) (there p (place_count t) l) in
    let shown = place_shown (place_need m p) (is_full s p) in
    (λ e. shown.0 (ap (λ n. bit_and n (place_mask (place_need m p))) (sym is) ∙ e), λ e. ap (λ n. bit_and n (place_mask (place_need m p))) is ∙ shown.1 e) in (
      λ e.
          let all = seen.0 e in
          record {
            zones = zone_only t m s k (λ z l. ap (λ n. bit_and n (zone_mask t m z)) (sym (is z l)) ∙ all.0 z l);
            places = λ p l. (place p l).0 (all.1 p l);
          },
      λ e. seen.1 (λ z l. ap (λ n. bit_and n (zone_mask t m z)) (is z l) ∙ zone_if t m s k e.zones z l, λ p l. (place p l).1 (e.places p l)),
    )
  where
    there : (a b : ℕ) → a < b → nat_lt a b ≡ true
    there a b l = lt-ltb a b l

pub mask_permits : EveryWordIsLaidOut → (t : PlanTable) (m : Motor) (x : MotorMask) (s : State) → x.mask ≡ mask_of t m → x.pattern ≡ pattern_of t m → IsOfPlan t s
    → IsTrue (allows x (packed t s)) ↔ Permits t s m
mask_permits laid t m x s a b k =
    let w = packed t s in
    let permits = word_permits laid t m s k in (
      λ e. permits.0 (ap (bit_and w) (sym a) ∙ eqb-true _ _ e ∙ b),
      λ e. eq-eqb _ _ (ap (bit_and w) a ∙ permits.1 e ∙ sym b),
    )
