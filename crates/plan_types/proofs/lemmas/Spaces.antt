-- The spaces of tables, by their rows.
use Rattle.std.proofs.Common.{◌≡◌, ℕ, zero, suc, ◌+◌, ◌≤◌, Bool, true, false, ◌&&◌, nat_eq, nat_lt, refl, sym, ap, ◌∙◌, arith, add-one, if◌then◌else◌, eq-eqb}
use Rattle.std.proofs.lemmas.Bool.{eqb-true, ltb-true}
use mir.Val.{bool_byte}
use Rattle.plan_types.specs.Below.{sum_below}
use Rattle.plan_types.specs.Table.{PlanTable, zone_count, joins, space_of, joined_to, zone_shape, owner_bits, flag_bits, posture_bits, postures_of}
use Rattle.plan_types.specs.TableLaws.{SpacesByRow}

-- the space of the next zone
abbrev next_space : PlanTable → ℕ → ℕ → ℕ
next_space t z n = if joins t n then space_of t z else n

pub space_more : (t : PlanTable) (z : ℕ) → space_of t (z + 1) ≡ (if joins t (z + 1) then space_of t z else z + 1)
space_more t z = ap (space_of t) (add-one z) ∙ sym (ap (next_space t z) (add-one z))

by_join : (b : Bool) (n k : ℕ) → b ≡ false → (if b then n else k) ≡ k
by_join b n k e = rw e refl

by_next : (b : Bool) (n k : ℕ) → b ≡ true → (if b then n else k) ≡ n
by_next b n k e = rw e refl

pub first_alone : (t : PlanTable) (z : ℕ) → joins t z ≡ false → space_of t z ≡ z
first_alone t zero e = refl
first_alone t (suc z) e = by_join (joins t (suc z)) (space_of t z) (suc z) e

earlier : (b : Bool) (n z : ℕ) → n ≤ z → (if b then n else suc z) ≤ suc z
earlier true n z l = omega arith
earlier false n z l = omega arith

pub no_later : (t : PlanTable) (z : ℕ) → space_of t z ≤ z
no_later t zero = omega arith
no_later t (suc z) = earlier (joins t (suc z)) (space_of t z) z (no_later t z)

named_by : (t : PlanTable) (z : ℕ) (b : Bool) → joins t (suc z) ≡ b → space_of t (space_of t z) ≡ space_of t z → space_of t (if b then space_of t z else suc z) ≡ (if b then space_of t z else suc z)
named_by t z true e before = before
named_by t z false e before = by_join (joins t (suc z)) (space_of t z) (suc z) e

pub named : (t : PlanTable) (z : ℕ) → space_of t (space_of t z) ≡ space_of t z
named t zero = refl
named t (suc z) = named_by t z (joins t (suc z)) refl (named t z)

-- ---- where no zone joins

none_joined : (t : PlanTable) (z n : ℕ) → ((y : ℕ) → joins t y ≡ false) → sum_below (λ y. bool_byte (joined_to t z y)) n ≡ 0
none_joined t z zero none = refl
none_joined t z (suc n) none =
    let rest = none_joined t z n none in
    let here = not_joined (nat_lt z n) (nat_eq (space_of t n) z) (λ l e.
    let below = ltb-true z n l in let same = sym (first_alone t n (none n)) ∙ eqb-true _ _ e in omega (arith, below, same)) in
    omega (arith, rest, here)
  where
    not_joined : (a b : Bool) → (a ≡ true → b ≡ true → ⊥) → bool_byte (a && b) ≡ 0
    not_joined true true clash = absurd (clash refl refl)
    not_joined true false clash = refl
    not_joined false b clash = refl

one_guest : (t : PlanTable) (z : ℕ) → ((y : ℕ) → joins t y ≡ false) → (zone_shape t z).guests ≡ 1
one_guest t z none =
    let first : nat_eq (space_of t z) z ≡ true = eq-eqb _ _ (first_alone t z (none z)) in
    let alone = none_joined t z (zone_count t) none in
    rw first (omega (arith, alone))

pub spaces_by_row : (t : PlanTable) (z : ℕ) → SpacesByRow t z
spaces_by_row t z = record {
  first = first_alone t z;
  next = by_next (joins t (suc z)) (space_of t z) (suc z);
  no_later = no_later t z;
  named = named t z;
  alone = λ none. ap (λ n. owner_bits n + flag_bits (zone_shape t z).flag + posture_bits (postures_of (zone_shape t z))) (one_guest t z none);
}
