-- Where no zone joins, each has two bits for its owner, and tells it by itself.
use Rattle.std.proofs.Common.{◌≡◌, ℕ, zero, suc, ◌+◌, ◌-◌, ◌*◌, ◌/◌, ◌%◌, ◌^◌, Bool, true, false, ◌&&◌, nat_eq, nat_lt, Option, Some, None, refl, sym, ap, ap₂, ◌∙◌, arith, eq-eqb, ltb-true, if◌then◌else◌}
use Rattle.std.proofs.lemmas.Bool.{eqb-true}
use mir.Val.{bool_byte}
use Rattle.plan_types.specs.Below.{sum_below}
use Rattle.plan_types.specs.Table.{PlanTable, zone_count, host_of, guest_of, space_of, joined_to, zone_shape, owner_bits}
use Rattle.plan_types.proofs.lemmas.Spaces.{first_alone, spaces_by_row}
use Rattle.plan_rules.specs.PlainLaws.{IsPlain}
use Rattle.plan_word.specs.Packed.{owner_code, owner_part, owner_values, rest_in}
use Rattle.plan_word.specs.Reading.{zone_of_guest, owner_of_code, owner_in, state_in}
use Rattle.plan_word.specs.PlainLaws.{plain_owner, plain_owner_of, PlainWordsStay}
use Rattle.plan_word.proofs.lemmas.Guests.{shape_guests, first_number}
use Rattle.plan_word.proofs.lemmas.Shapes.{bits_are}

not_both : (a b : Bool) → (a ≡ true → b ≡ true → ⊥) → bool_byte (a && b) ≡ 0
not_both true true clash = absurd (clash refl refl)
not_both true false clash = refl
not_both false b clash = refl

module _ (t : PlanTable) (plain : IsPlain t) (z : ℕ) where
  first : space_of t z ≡ z
  first = first_alone t z (plain z)

  none_join : (n : ℕ) → sum_below (λ y. bool_byte (joined_to t z y)) n ≡ 0
  none_join zero = refl
  none_join (suc n) =
      let rest = none_join n in
      let here = not_both (nat_lt z n) (nat_eq (space_of t n) z) (λ l e.
      let below = ltb-true z n l in
      let same = sym (first_alone t n (plain n)) ∙ eqb-true (space_of t n) z e in
      omega (arith, below, same)) in
      omega (arith, rest, here)

  one : (zone_shape t z).guests ≡ 1
  one = let none = none_join (zone_count t) in shape_guests t z first ∙ omega (arith, none)

  four : owner_values (zone_shape t z) ≡ 4
  four = ap (λ g. 2 ^ owner_bits g) one

  owner_is : (o : Option ℕ) → owner_part t z o ≡ plain_owner t z o
  owner_is o = ap (λ b. if b then owner_code t z o else 0) (eq-eqb (space_of t z) z first) ∙ by o
    where
      by : (o : Option ℕ) → owner_code t z o ≡ plain_owner t z o
      by None = refl
      by (Some m) = ap (λ k. if nat_eq m (host_of t z) then 1 else 2 + k) (first_number t z m one)

  alone_guest : (k : ℕ) → zone_of_guest t z k ≡ z
  alone_guest k = by (nat_lt k (zone_shape t z).guests) refl
    where
      by : (b : Bool) → nat_lt k (zone_shape t z).guests ≡ b → (if b then z + k else z) ≡ z
      by true e = let below = ltb-true k (zone_shape t z).guests e in omega (arith, below, one)
      by false e = refl

  told_is : (n : ℕ) → owner_of_code t z n ≡ plain_owner_of t z n
  told_is n = ap (λ y. if nat_eq n 0 then None else if nat_eq n 1 then Some (host_of t z) else Some (guest_of t y)) (alone_guest (n - 2))

pub plain_words_stay : PlainWordsStay
plain_words_stay t z v n plain =
    let s = zone_shape t z in
    let values = four t plain z in
    record {
      bits = bits_are t z ∙ (spaces_by_row t z).alone plain;
      code =
          let is : rest_in s v * owner_values s + owner_part t z v.owner ≡ rest_in s v * 4 + plain_owner t z v.owner =
          ap₂ (λ w o. rest_in s v * w + o) values (owner_is t plain z v.owner) in
          omega (arith, is);
      read =
          ap (λ f. state_in s (owner_in t f n) (n / owner_values s)) (first t plain z)
          ∙ ap (λ w. state_in s (owner_of_code t z (n % w)) (n / w)) values
          ∙ ap (λ (o : Option ℕ). state_in s o (n / 4)) (told_is t plain z (n % 4));
    }
