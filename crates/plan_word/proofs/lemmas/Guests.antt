-- The owner of a space in the field of its first zone.
use Rattle.std.proofs.Common.{◌≡◌, ℕ, zero, suc, ◌+◌, ◌-◌, ◌<◌, ◌≤◌, ◌^◌, ◌⊎◌, inl, inr, Bool, true, false, ◌&&◌, ◌||◌, nat_eq, nat_lt, Option, Some, None, unwrap_or, refl, sym, ap, ◌∙◌, subst, arith, eq-eqb, ltb-true, if◌then◌else◌}
use Rattle.std.specs.Bool.{then_some}
use Rattle.std.proofs.lemmas.Bool.{cases_lt, eqb-true, lt-ltb, false_from_ne_true}
use mir.Val.{bool_byte}
use Rattle.plan_types.specs.Below.{first_below, any_below, sum_below}
use Rattle.plan_types.specs.Table.{PlanTable, zone_count, host_of, guest_of, joins, space_of, same_space, joined_to, guests_in, zone_shape, owner_bits}
use Rattle.plan_types.specs.Plan.{IsPlan}
use Rattle.plan_types.proofs.lemmas.Below.{first_below_none, first_of}
use Rattle.plan_types.proofs.lemmas.Spaces.{no_later}
use Rattle.plan_rules.specs.Sound.{is_entrant}
use Rattle.plan_rules.proofs.lemmas.Spaces.{by_same, one_host}
use Rattle.plan_word.specs.Packed.{is_guest_at, guest_number, owner_code, owner_part}
use Rattle.plan_word.specs.Reading.{zone_of_guest, owner_of_code}

-- ---- how many guests

-- no zone joins a zone past the table
none_joins : (t : PlanTable) (f n : ℕ) → n ≤ f → sum_below (λ y. bool_byte (joined_to t f y)) n ≡ 0
none_joins t f zero l = refl
none_joins t f (suc n) l =
    let rest = none_joins t f n (omega (arith, l)) in
    let earlier : nat_lt f n ≡ false = false_from_ne_true (nat_lt f n) (λ e. let below = ltb-true f n e in absurd (omega (arith, below, l))) in
    let here : bool_byte (joined_to t f n) ≡ 0 = ap (λ b. bool_byte (b && nat_eq (space_of t n) f)) earlier in
    omega (arith, rest, here)

pub guests_past : (t : PlanTable) (f : ℕ) → zone_count t ≤ f → guests_in t f ≡ 1
guests_past t f past = let none = none_joins t f (zone_count t) past in omega (arith, none)

one_at_most : (b : Bool) → bool_byte b ≤ 1
one_at_most true = omega arith
one_at_most false = omega arith

few_join : (t : PlanTable) (f n : ℕ) → sum_below (λ y. bool_byte (joined_to t f y)) n ≤ n
few_join t f zero = omega arith
few_join t f (suc n) = let rest = few_join t f n in let one = one_at_most (joined_to t f n) in omega (arith, rest, one)

pub shape_guests : (t : PlanTable) (f : ℕ) → space_of t f ≡ f → (zone_shape t f).guests ≡ guests_in t f
shape_guests t f first = ap (λ b. if b then guests_in t f else 0) (eq-eqb (space_of t f) f first)

guests_by : (b : Bool) (n : ℕ) → (if b then n else 0) ≤ n
guests_by true n = omega arith
guests_by false n = omega arith

-- the zone of a guest has a byte's number
pub guest_fits : (t : PlanTable) (f k : ℕ) → IsPlan t → k < (zone_shape t f).guests → f < 256 → f + k < 256
guest_fits t f k p l small =
    let few = p.zones_at_most in
    let most : (zone_shape t f).guests ≤ guests_in t f = guests_by (nat_eq (space_of t f) f) (guests_in t f) in
    elim (cases_lt f (zone_count t)) [
      | inl inside ↦ let joined = few_join t f (zone_count t) in omega (arith, few, l, most, inside, joined)
      | inr past ↦ let one = guests_past t f past in omega (arith, l, most, one, small)
    ]

-- ---- the codes fit

values_by : (a b : Bool) → 0 < 2 ^ (if a then 2 else if b then 3 else 4)
values_by true b = omega arith
values_by false true = omega arith
values_by false false = omega arith

pub values_some : (g : ℕ) → 0 < 2 ^ owner_bits g
values_some zero = omega arith
values_some (suc more) = values_by (nat_lt more 2) (nat_lt more 6)

room_by : (more n : ℕ) (a b : Bool) → nat_lt more 2 ≡ a → nat_lt more 6 ≡ b → n < suc more → n < 14 → 2 + n < 2 ^ (if a then 2 else if b then 3 else 4)
room_by more n true b e f l few = let two = ltb-true more 2 e in omega (arith, two, l)
room_by more n false true e f l few = let six = ltb-true more 6 f in omega (arith, six, l)
room_by more n false false e f l few = omega (arith, few)

room : (g n : ℕ) → n < g → n < 14 → 2 + n < 2 ^ owner_bits g
room zero n l few = absurd (omega (arith, l))
room (suc more) n l few = room_by more n (nat_lt more 2) (nat_lt more 6) refl refl l few

both_true : (a b : Bool) → (a && b) ≡ true → (a ≡ true) × (b ≡ true)
both_true true b e = (refl, e)
both_true false b e = cc

then_is : (b : Bool) (k x : ℕ) → then_some b k ≡ Some x → (b ≡ true) × (k ≡ x)
then_is true k x e = (refl, ap (λ o. unwrap_or o k) e)
then_is false k x e = cc

-- the number that is found is below the number of guests, and below fourteen
abbrev guests_at : PlanTable → ℕ → ℕ → ℕ → Option ℕ
guests_at t f m k = then_some (is_guest_at t f m k) k

number_by : (t : PlanTable) (f m : ℕ) (o : Option ℕ) → first_below (guests_at t f m) 14 ≡ o → 0 < (zone_shape t f).guests → (unwrap_or o 0 < (zone_shape t f).guests) × (unwrap_or o 0 < 14)
number_by t f m None e some = (some, omega arith)
number_by t f m (Some x) e some =
    let found = first_of (guests_at t f m) 14 x e in
    let is = then_is (is_guest_at t f m found.at) found.at x found.has in
    let below = ltb-true found.at (zone_shape t f).guests (both_true (nat_lt found.at (zone_shape t f).guests) (nat_eq (guest_of t (f + found.at)) m) is.0).0 in
    let few = found.below in
    (omega (arith, below, is.1), omega (arith, few, is.1))

-- of one guest the number is 0
pub first_number : (t : PlanTable) (f m : ℕ) → (zone_shape t f).guests ≡ 1 → guest_number t f m ≡ 0
first_number t f m one =
    let number = number_by t f m (first_below (guests_at t f m) 14) refl (omega (arith, one)) in
    let below = number.0 in
    omega (arith, below, one)

code_by : (b : Bool) (n w : ℕ) → 2 + n < w → (if b then 1 else 2 + n) < w
code_by true n w l = omega (arith, l)
code_by false n w l = l

owner_fits : (t : PlanTable) (f : ℕ) (o : Option ℕ) → 0 < (zone_shape t f).guests → owner_code t f o < 2 ^ owner_bits (zone_shape t f).guests
owner_fits t f None some = values_some (zone_shape t f).guests
owner_fits t f (Some m) some =
    let number = number_by t f m (first_below (guests_at t f m) 14) refl some in
    code_by (nat_eq m (host_of t f)) (guest_number t f m) (2 ^ owner_bits (zone_shape t f).guests) (room (zone_shape t f).guests (guest_number t f m) number.0 number.1)

part_by : (t : PlanTable) (z : ℕ) (o : Option ℕ) (b : Bool) → nat_eq (space_of t z) z ≡ b → (if b then owner_code t z o else 0) < 2 ^ owner_bits (zone_shape t z).guests
part_by t z o true e =
    let guests = shape_guests t z (eqb-true (space_of t z) z e) in
    owner_fits t z o (omega (arith, guests))
part_by t z o false e = values_some (zone_shape t z).guests

pub owner_part_fits : (t : PlanTable) (z : ℕ) (o : Option ℕ) → owner_part t z o < 2 ^ owner_bits (zone_shape t z).guests
owner_part_fits t z o = part_by t z o (nat_eq (space_of t z) z) refl

few_by : (a b : Bool) → 2 ^ (if a then 2 else if b then 3 else 4) ≤ 16
few_by true b = omega arith
few_by false true = omega arith
few_by false false = omega arith

values_few : (g : ℕ) → 2 ^ owner_bits g ≤ 16
values_few zero = omega arith
values_few (suc more) = few_by (nat_lt more 2) (nat_lt more 6)

pub owner_part_few : (t : PlanTable) (z : ℕ) (o : Option ℕ) → owner_part t z o < 16
owner_part_few t z o =
    let fits = owner_part_fits t z o in
    let few = values_few (zone_shape t z).guests in
    omega (arith, fits, few)

-- ---- the zones of a space stand together

next_in : (t : PlanTable) (n f : ℕ) (b : Bool) → f ≤ n → (if b then space_of t n else suc n) ≡ f → space_of t n ≡ f
next_in t n f true l e = e
next_in t n f false l e = absurd (omega (arith, l, e))

-- so many zones join the first one as come after it
joined_many : (t : PlanTable) (f k : ℕ) → space_of t (f + k) ≡ f → k ≤ sum_below (λ y. bool_byte (joined_to t f y)) (suc (f + k))
joined_many t f zero same = omega arith
joined_many t f (suc k) same =
    let number : f + suc k ≡ suc (f + k) = omega arith in
    let here : space_of t (suc (f + k)) ≡ f = ap (space_of t) (sym number) ∙ same in
    let before : space_of t (f + k) ≡ f = next_in t (f + k) f (joins t (suc (f + k))) (omega arith) here in
    let rest = joined_many t f k before in
    let later : nat_lt f (suc (f + k)) ≡ true = lt-ltb f (suc (f + k)) (omega arith) in
    let one : bool_byte (joined_to t f (suc (f + k))) ≡ 1 =
    ap (λ b. bool_byte (b && nat_eq (space_of t (suc (f + k))) f)) later ∙ ap bool_byte (eq-eqb (space_of t (suc (f + k))) f here) in
    subst (λ n. suc k ≤ sum_below (λ y. bool_byte (joined_to t f y)) (suc n)) (sym number) (omega (arith, rest, one))

more_join : (t : PlanTable) (f n m : ℕ) → n ≤ m → sum_below (λ y. bool_byte (joined_to t f y)) n ≤ sum_below (λ y. bool_byte (joined_to t f y)) m
more_join t f n zero l = let same : n ≡ zero = omega (arith, l) in subst (λ k. sum_below (λ y. bool_byte (joined_to t f y)) k ≤ 0) (sym same) (omega arith)
more_join t f n (suc m) l =
    elim (cases_lt n (suc m)) [
      | inl k ↦ let rest = more_join t f n m (omega (arith, k)) in omega (arith, rest)
      | inr k ↦ let same : n ≡ suc m = omega (arith, l, k) in subst (λ j. sum_below (λ y. bool_byte (joined_to t f y)) j ≤ sum_below (λ y. bool_byte (joined_to t f y)) (suc m)) (sym same) (omega arith)
    ]

-- ---- the owner reads back

some_below : (f : ℕ → Bool) (n : ℕ) → any_below f n ≡ true → (i : ℕ) × (i < n) × (f i ≡ true)
some_below f zero e = cc
some_below f (suc n) e =
    elim (either (any_below f n) (f n) e) [
      | inl h ↦ let r = some_below f n h in let l = r.1 in (r.0, omega (arith, l), r.2)
      | inr h ↦ (n, omega arith, h)
    ]
  where
    either : (a b : Bool) → (a || b) ≡ true → (a ≡ true) ⊎ (b ≡ true)
    either true b e = inl refl
    either false b e = inr e

not_zero : (n : ℕ) → nat_eq (2 + n) 0 ≡ false
not_zero n = false_from_ne_true (nat_eq (2 + n) 0) (λ e. let same = eqb-true (2 + n) 0 e in absurd (omega (arith, same)))

not_one : (n : ℕ) → nat_eq (2 + n) 1 ≡ false
not_one n = false_from_ne_true (nat_eq (2 + n) 1) (λ e. let same = eqb-true (2 + n) 1 e in absurd (omega (arith, same)))

guest_back : (t : PlanTable) (f k : ℕ) → k < (zone_shape t f).guests → owner_of_code t f (2 + k) ≡ Some (guest_of t (f + k))
guest_back t f k l =
    let less : 2 + k - 2 ≡ k = omega arith in
    ap (λ b. if b then None else if nat_eq (2 + k) 1 then Some (host_of t f) else Some (guest_of t (zone_of_guest t f (2 + k - 2)))) (not_zero k)
    ∙ ap (λ b. if b then Some (host_of t f) else Some (guest_of t (zone_of_guest t f (2 + k - 2)))) (not_one k)
    ∙ ap (λ n. Some (guest_of t (zone_of_guest t f n))) less
    ∙ ap (λ b. Some (guest_of t (if b then f + k else f))) (lt-ltb k (zone_shape t f).guests l)

found_back : (t : PlanTable) (f m k : ℕ) (o : Option ℕ) → first_below (guests_at t f m) 14 ≡ o → k < 14 → is_guest_at t f m k ≡ true → owner_of_code t f (2 + unwrap_or o 0) ≡ Some m
found_back t f m k None e few is =
    let none = first_below_none (guests_at t f m) 14 e k few in
    let some : guests_at t f m k ≡ Some k = ap (λ b. then_some b k) is in
    absurd (no_some k (sym none ∙ some))
  where
    no_some : (k : ℕ) → ◌≡◌ {A = Option ℕ} None (Some k) → ⊥
    no_some k e = cc
found_back t f m k (Some x) e few is =
    let found = first_of (guests_at t f m) 14 x e in
    let has = then_is (is_guest_at t f m found.at) found.at x found.has in
    let both = both_true (nat_lt found.at (zone_shape t f).guests) (nat_eq (guest_of t (f + found.at)) m) has.0 in
    subst (λ n. owner_of_code t f (2 + n) ≡ Some m) has.1
    (guest_back t f found.at (ltb-true found.at (zone_shape t f).guests both.0) ∙ ap (λ (n : ℕ). Some n) (eqb-true (guest_of t (f + found.at)) m both.1))

either_of : (a b : Bool) → (a || b) ≡ true → (a ≡ true) ⊎ (b ≡ true)
either_of true b e = inl refl
either_of false b e = inr e

-- a party of a zone of the space is its host, or the guest of this zone
back_by : (t : PlanTable) (f m y : ℕ) (b : Bool) → IsPlan t → f < zone_count t → space_of t f ≡ f → y < zone_count t → space_of t y ≡ f → (nat_eq m (host_of t y) || nat_eq m (guest_of t y)) ≡ true
    → nat_eq m (host_of t f) ≡ b → owner_of_code t f (if b then 1 else 2 + guest_number t f m) ≡ Some m
back_by t f m y true p l first ly same party e = ap (λ (n : ℕ). Some n) (sym (eqb-true m (host_of t f) e))
back_by t f m y false p l first ly same party e =
    elim (either_of (nat_eq m (host_of t y)) (nat_eq m (guest_of t y)) party) [
      | inl host ↦
          let yes : nat_eq m (host_of t f) ≡ true = ap (nat_eq m) (sym (one_host t y f p ly l (same ∙ sym first))) ∙ host in
          absurd (clash (nat_eq m (host_of t f)) yes e)
      | inr guest ↦
          let k = y - f in
          let late = no_later t y in
          let number : f + k ≡ y = omega (arith, late, same) in
          let many = joined_many t f k (ap (space_of t) number ∙ same) in
          let most = more_join t f (suc (f + k)) (zone_count t) (omega (arith, number, ly)) in
          let guests = shape_guests t f first in
          let below : k < (zone_shape t f).guests = omega (arith, many, most, guests) in
          let few = p.zones_at_most in
          let at : is_guest_at t f m k ≡ true = both_of (lt-ltb k (zone_shape t f).guests below) (ap (λ n. nat_eq (guest_of t n) m) number ∙ eq-eqb (guest_of t y) m (sym (eqb-true m (guest_of t y) guest))) in
          found_back t f m k (first_below (guests_at t f m) 14) refl (omega (arith, few, ly)) at
    ]
  where
    clash : (b : Bool) → b ≡ true → b ≡ false → ⊥
    clash true e f = cc
    clash false e f = cc

    both_of : {a b : Bool} → a ≡ true → b ≡ true → (a && b) ≡ true
    both_of {a} {b} e f = rw (e, f) refl

pub owner_back : (t : PlanTable) (f : ℕ) (o : Option ℕ) → IsPlan t → f < zone_count t → space_of t f ≡ f → is_entrant t f o ≡ true → owner_of_code t f (owner_code t f o) ≡ o
owner_back t f None p l first e = refl
owner_back t f (Some m) p l first e =
    let found = some_below (λ y. same_space t y f && (nat_eq m (host_of t y) || nat_eq m (guest_of t y))) (zone_count t) e in
    let y = found.0 in
    let both = both_true (same_space t y f) (nat_eq m (host_of t y) || nat_eq m (guest_of t y)) found.2 in
    back_by t f m y (nat_eq m (host_of t f)) p l first found.1 (by_same t y f both.0 ∙ first) both.1 refl
