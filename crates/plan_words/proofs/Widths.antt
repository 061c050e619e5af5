-- A zone has the same bits on its word as in the plan; so fewer groups need no more bits.
use Rattle.std.proofs.Common.{◌≡◌, ℕ, zero, suc, ◌+◌, ◌<◌, ◌≤◌, inl, inr, Bool, true, false, ◌&&◌, ◌||◌, nat_eq, nat_lt, List, [], ◌∷◌, length, filter, Option, Some, None, is_some, option_map, refl, sym, subst, ap, ◌∙◌, arith, if◌then◌else◌}
use mir.Val.{bool_byte}
use Rattle.std.specs.Option.{option_eq}
use Rattle.std.specs.List.{range_with_len}
use Rattle.std.proofs.lemmas.Bool.{eqb-true, ltb-true, lt-ltb, cases_lt, and_parts, false_from_ne_true}
use Rattle.std.proofs.lemmas.List.{length-map}
use Rattle.plan_types.specs.Below.{any_below, sum_below}
use Rattle.plan_types.specs.Same.{same_posture}
use Rattle.plan_types.specs.declared.posture.Posture.{Posture}
use Rattle.plan_types.specs.declared.posture.Posture.TheVariants.{Moving, OpenIn, OpenOut}
use Rattle.plan_types.specs.declared.shape.ZoneShape.{ZoneShape}
use Rattle.plan_types.specs.declared.table.Way.{Way}
use Rattle.plan_types.specs.declared.table.PlanZone.{PlanZone}
use Rattle.plan_types.specs.Table.{PlanTable, zone_count, pose_count, place_count, zone_row, place_row, posture_of, space_of, gives, is_given, joined_to, guests_in, zone_shape, shape_bits, zone_bits, word_width}
use Rattle.plan_types.proofs.lemmas.Spaces.{no_later}
use Rattle.plan_words.specs.Group.{Group, zone_out, pose_out, way_out, zone_row_out, IsGroup, IsTableOf}
use Rattle.plan_words.specs.Groups.{IsLargePlan, label_of, labels_of, labelled, label_for, looks_at, touches, zones_of, zone_in, pose_in, table_of, Fits}
use Rattle.plan_words.proofs.Below.{Rising, Misses, sums_alike, tests_alike}
use Rattle.plan_words.proofs.Spaces.{space_out, apart_numbers, same_test}
use Rattle.plan_words.proofs.Tables.{is_table, same_bool}
use Rattle.plan_words.proofs.Grouping.{labelled_group, zone_has, pose_has, zone_own, pose_zone_label}

-- ---- the spaces and the flag of a zone of a group

module _ (t : PlanTable) (g : Group) (is : IsGroup t g) (u : PlanTable) (k : IsTableOf t g u) where
  rising : Rising (zone_out g) (length g.zones) (zone_count t)
  rising = record { rises = is.zones.rises; below = is.zones.below }

  space_below : (i : ℕ) → i < length g.zones → space_of u i < length g.zones
  space_below i l = let h = no_later u i in omega (arith, h, l)

  -- a zone's space starts at this one
  starts_same : (i j : ℕ) → i < length g.zones → j < length g.zones → nat_eq (space_of u j) i ≡ nat_eq (space_of t (zone_out g j)) (zone_out g i)
  starts_same i j l m =
      let at = space_out t g u is k j m in
      same_test (space_of u j) i (space_of t (zone_out g j)) (zone_out g i) (λ e. at ∙ ap (zone_out g) e)
      (λ e. apart_numbers t g is (space_of u j) i (space_below j m) l (sym at ∙ e))

  later_same : (i j : ℕ) → i < length g.zones → j < length g.zones → nat_lt (zone_out g i) (zone_out g j) ≡ nat_lt i j
  later_same i j l m =
      same_bool (nat_lt (zone_out g i) (zone_out g j)) (nat_lt i j) (λ e. lt-ltb i j (by (ltb-true (zone_out g i) (zone_out g j) e))) (λ e. lt-ltb (zone_out g i) (zone_out g j) (is.zones.rises i j (ltb-true i j e) m))
    where
      by : zone_out g i < zone_out g j → i < j
      by less = elim (cases_lt i j) [
        | inl h ↦ h
        | inr h ↦ elim (cases_lt j i) [
          | inl x ↦ let back = is.zones.rises j i x l in absurd (omega (arith, back, less))
          | inr x ↦ let e : i ≡ j = omega (arith, h, x) in let same = ap (zone_out g) e in absurd (omega (arith, same, less))
        ]
      ]

  joined_same : (i j : ℕ) → i < length g.zones → j < length g.zones → joined_to t (zone_out g i) (zone_out g j) ≡ joined_to u i j
  joined_same i j l m =
      ap (λ b. b && nat_eq (space_of t (zone_out g j)) (zone_out g i)) (later_same i j l m) ∙ ap (λ b. nat_lt i j && b) (sym (starts_same i j l m))

  -- a zone that joins the group's is the group's
  none_joined : (i : ℕ) → i < length g.zones → space_of t (zone_out g i) ≡ zone_out g i → (y : ℕ) → y < zone_count t → Misses (zone_out g) (length g.zones) y → joined_to t (zone_out g i) y ≡ false
  none_joined i l first y m miss =
      false_from_ne_true (joined_to t (zone_out g i) y) (λ e.
      let parts = and_parts (nat_lt (zone_out g i) y) (nat_eq (space_of t y) (zone_out g i)) e in
      let has = is.by_space y (zone_out g i) (i, l, refl) m (eqb-true _ _ parts.1 ∙ sym first) in
      miss has.0 has.1 has.2)

  guests_same : (i : ℕ) → i < length g.zones → space_of t (zone_out g i) ≡ zone_out g i → guests_in t (zone_out g i) ≡ guests_in u i
  guests_same i l first =
      let count = k.zone_count in
      let sums = sums_alike (λ y. bool_byte (joined_to t (zone_out g i) y)) (λ j. bool_byte (joined_to u i j)) (zone_out g) (zone_count t) (length g.zones) rising (λ j m. ap bool_byte (joined_same i j l m))
      (λ y m miss. ap bool_byte (none_joined i l first y m miss)) in
      ap (λ n. 1 + n) (sums ∙ ap (sum_below (λ j. bool_byte (joined_to u i j))) (sym count))

  owners_same : (i : ℕ) → i < length g.zones → (if nat_eq (space_of t (zone_out g i)) (zone_out g i) then guests_in t (zone_out g i) else 0) ≡ (if nat_eq (space_of u i) i then guests_in u i else 0)
  owners_same i l = by (nat_eq (space_of t (zone_out g i)) (zone_out g i)) refl ∙ ap (λ b. if b then guests_in u i else 0) (sym (starts_same i i l l))
    where
      by : (b : Bool) → nat_eq (space_of t (zone_out g i)) (zone_out g i) ≡ b → (if b then guests_in t (zone_out g i) else 0) ≡ (if b then guests_in u i else 0)
      by true e = guests_same i l (eqb-true _ _ e)
      by false e = refl

  some_same : (w : Option Way) → is_some (option_map (way_out g) w) ≡ is_some w
  some_same None = refl
  some_same (Some w) = refl

  flag_same : (i : ℕ) → i < length g.zones → (is_some (zone_row t (zone_out g i)).inward || is_some (zone_row t (zone_out g i)).outward) ≡ (is_some (zone_row u i).inward || is_some (zone_row u i).outward)
  flag_same i l =
      ap (λ (r : PlanZone). is_some r.inward || is_some r.outward) (k.zone i l)
      ∙ (ap (λ b. b || is_some (option_map (way_out g) (zone_row u i).outward)) (some_same (zone_row u i).inward) ∙ ap (λ b. is_some (zone_row u i).inward || b) (some_same (zone_row u i).outward))

-- ---- the postures of a zone of a group: each pose that gives it one is the group's

some_posture : (o : Option Posture) (q : Posture) → option_eq same_posture o (Some q) ≡ true → (r : Posture) × (o ≡ Some r)
some_posture None q e = cc
some_posture (Some r) q e = (r, refl)

module _ (t : PlanTable) (own : ℕ → Bool) (large : IsLargePlan t) where
  abbrev g : Group
  g = labelled t own

  abbrev u : PlanTable
  u = table_of t g

  is : IsGroup t g
  is = labelled_group t own large

  k : IsTableOf t g u
  k = is_table t g large is

  none_given : (i : ℕ) → i < length g.zones → (q : Posture) (p : ℕ) → p < pose_count t → Misses (pose_out g) (length g.poses) p → gives t (zone_out g i) q p ≡ false
  none_given i l q p m miss =
      false_from_ne_true (gives t (zone_out g i) q p) (λ e.
      let z = zone_out g i in
      let in_plan = is.zones.below i l in
      let given = some_posture (posture_of t p z) q e in
      let passes = (zone_own t own z (i, l, refl)).1 in
      let has = pose_has t own p m (ap own (pose_zone_label t p z m in_plan (inl given)) ∙ passes) in
      miss has.0 has.1 has.2)

  given_same : (i : ℕ) → i < length g.zones → (q : Posture) → is_given t (zone_out g i) q ≡ is_given u i q
  given_same i l q =
      let z = zone_out g i in
      let here : nat_lt i (zone_count u) ≡ true = lt-ltb i (zone_count u) (subst (λ n. i < n) (sym k.zone_count) l) in
      let there : nat_lt z (zone_count t) ≡ true = lt-ltb z (zone_count t) (is.zones.below i l) in
      let any = tests_alike (gives t z q) (gives u i q) (pose_out g) (pose_count t) (length g.poses) (record { rises = is.poses.rises; below = is.poses.below })
      (λ p m. ap (λ o. option_eq same_posture o (Some q)) (k.gives p i m l)) (none_given i l q) in
      ap (λ b. b && any_below (gives t z q) (pose_count t)) there
      ∙ (any ∙ (ap (any_below (gives u i q)) (sym k.pose_count) ∙ ap (λ b. b && any_below (gives u i q) (pose_count u)) (sym here)))

  bits_same : (i : ℕ) → i < length g.zones → zone_bits t (zone_out g i) ≡ zone_bits u i
  bits_same i l =
      let z = zone_out g i in
      ap shape_bits
      (ap (λ a. let s : ZoneShape = record { guests = a; flag = (zone_shape t z).flag; moves = is_given t z Moving; opens_in = is_given t z OpenIn; opens_out = is_given t z OpenOut } in s) (owners_same t g is u k i l)
      ∙ (ap (λ a. let s : ZoneShape = record { guests = (zone_shape u i).guests; flag = a; moves = is_given t z Moving; opens_in = is_given t z OpenIn; opens_out = is_given t z OpenOut } in s) (flag_same t g is u k i l)
      ∙ (ap (λ a. let s : ZoneShape = record { guests = (zone_shape u i).guests; flag = (zone_shape u i).flag; moves = a; opens_in = is_given t z OpenIn; opens_out = is_given t z OpenOut } in s) (given_same i l Moving)
      ∙ (ap (λ a. let s : ZoneShape = record { guests = (zone_shape u i).guests; flag = (zone_shape u i).flag; moves = is_given u i Moving; opens_in = a; opens_out = is_given t z OpenOut } in s) (given_same i l OpenIn)
      ∙ ap (λ a. let s : ZoneShape = record { guests = (zone_shape u i).guests; flag = (zone_shape u i).flag; moves = is_given u i Moving; opens_in = is_given u i OpenIn; opens_out = a } in s) (given_same i l OpenOut)))))

-- ---- the width of a word

-- the bits of a zone, if it is on the word
abbrev pub bits_on : PlanTable → (ℕ → Bool) → ℕ → ℕ
bits_on t own z = if own (label_of (labels_of t) z) then zone_bits t z else 0

pub width_is : (t : PlanTable) (own : ℕ → Bool) → IsLargePlan t → word_width (table_of t (labelled t own)) ≡ sum_below (bits_on t own) (zone_count t) + length (labelled t own).places + 21
width_is t own large =
    let g = labelled t own in
    let u = table_of t g in
    let is = labelled_group t own large in
    let zones = length-map g.zones (zone_in t g) in
    let places = length-map g.places (place_row t) in
    let sums = sums_alike (bits_on t own) (zone_bits u) (zone_out g) (zone_count t) (length g.zones) (record { rises = is.zones.rises; below = is.zones.below })
    (λ i l. ap (λ b. if b then zone_bits t (zone_out g i) else 0) (zone_own t own (zone_out g i) (i, l, refl)).1 ∙ bits_same t own large i l)
    (λ z l miss. ap (λ b. if b then zone_bits t z else 0) (false_from_ne_true (own (label_of (labels_of t) z)) (λ e. let has = zone_has t own z l e in miss has.0 has.1 has.2))) in
    let same = ap (sum_below (zone_bits u)) zones in
    omega (arith, sums, same, places)

-- ---- fewer groups

abbrev pub Within : (ℕ → Bool) → (ℕ → Bool) → Type 0
Within own wide = (l : ℕ) → own l ≡ true → wide l ≡ true

pub shorter : (p q : ℕ → Bool) → Within p q → (xs : List ℕ) → length (filter p xs) ≤ length (filter q xs)
shorter p q within [] = omega arith
shorter p q within (x ∷ xs) = by (p x) (q x) (within x) (shorter p q within xs)
  where
    by : (a b : Bool) → (a ≡ true → b ≡ true) → length (filter p xs) ≤ length (filter q xs) → length (if a then x ∷ filter p xs else filter p xs) ≤ length (if b then x ∷ filter q xs else filter q xs)
    by true true f l = omega (arith, l)
    by true false f l = let h = f refl in cc
    by false true f l = omega (arith, l)
    by false false f l = l

sums_within : (f g : ℕ → ℕ) → ((z : ℕ) → f z ≤ g z) → (n : ℕ) → sum_below f n ≤ sum_below g n
sums_within f g less zero = omega arith
sums_within f g less (suc n) = let a = sums_within f g less n in let b = less n in omega (arith, a, b)

bits_within : (t : PlanTable) (own wide : ℕ → Bool) → Within own wide → (z : ℕ) → bits_on t own z ≤ bits_on t wide z
bits_within t own wide within z = by (own (label_of (labels_of t) z)) (wide (label_of (labels_of t) z)) (within (label_of (labels_of t) z)) (zone_bits t z)
  where
    by : (a b : Bool) → (a ≡ true → b ≡ true) → (n : ℕ) → (if a then n else 0) ≤ (if b then n else 0)
    by true true f n = omega arith
    by true false f n = let h = f refl in cc
    by false true f n = omega arith
    by false false f n = omega arith

pub fewer_fit : (t : PlanTable) (own wide : ℕ → Bool) → IsLargePlan t → Within own wide → Fits t (labelled t wide) → Fits t (labelled t own)
fewer_fit t own wide large within f =
    let zones = shorter (λ z. own (label_of (labels_of t) z)) (λ z. wide (label_of (labels_of t) z)) (λ z. within (label_of (labels_of t) z)) (range_with_len 0 (zone_count t)) in
    let poses = shorter (λ p. own (label_for t (zones_of t (looks_at t p)))) (λ p. wide (label_for t (zones_of t (looks_at t p)))) (λ p. within (label_for t (zones_of t (looks_at t p)))) (range_with_len 0 (pose_count t)) in
    let places = shorter (λ p. own (label_for t (zones_of t (touches t p)))) (λ p. wide (label_for t (zones_of t (touches t p)))) (λ p. within (label_for t (zones_of t (touches t p)))) (range_with_len 0 (place_count t)) in
    let bits = sums_within (bits_on t own) (bits_on t wide) (bits_within t own wide within) (zone_count t) in
    let narrow = width_is t own large in
    let broad = width_is t wide large in
    let a = f.zones in
    let b = f.poses in
    let c = f.places in
    let d = f.width in
    record {
      machines = f.machines;
      zones = omega (arith, zones, a);
      poses = omega (arith, poses, b);
      places = omega (arith, places, c);
      width = omega (arith, places, bits, narrow, broad, d);
    }
