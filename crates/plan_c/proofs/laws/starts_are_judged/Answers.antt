use Rattle.std.proofs.Common.{◌≡◌, ◌⊎◌, inl, inr, ℕ, ◌≤◌, Bool, true, false, ◌||◌, nat_eq, [], refl, arith}
use Rattle.std.specs.Prelude.{codes}
use Rattle.std.proofs.lemmas.Bool.{eqb-true}
use Rattle.std.proofs.lemmas.List.Sums.{AllPass-from_list_all, list_all-from_AllPass}
use Rattle.plan_c.specs.Starts.{is_digit}
use Rattle.plan_c.proofs.laws.starts_are_judged.Goals as goal

either : (a b : Bool) → (a || b) ≡ true → (a ≡ true) ⊎ (b ≡ true)
either true b is = inl refl
either false b is = inr is

flags : (d : ℕ) → is_digit d ≡ true → (d ≡ 48) ⊎ (d ≡ 49)
flags d is = elim (either (nat_eq d 48) (nat_eq d 49) is) [
  | inl e ↦ inl (eqb-true d 48 e)
  | inr e ↦ inr (eqb-true d 49 e)
]

pub returns : goal.returns
returns c = record {
  last = λ stamp most. record { one_a_place = refl; all_digits = AllPass-from_list_all is_digit (codes "10") refl; stamp_in_range = most };
  past_last = λ stamp past k. let e : stamp ≤ 1048575 = k.stamp_in_range in omega (arith, past, e);
  two_plates = λ k. let e : false ≡ true = list_all-from_AllPass is_digit (codes "12") k.all_digits in cc;
  no_digit = λ k. let e : false ≡ true = list_all-from_AllPass is_digit (codes "1/") k.all_digits in cc;
  too_few = λ k. let e : 1 ≡ 2 = k.one_a_place in omega (arith, e);
  too_many = λ k. let e : 3 ≡ 2 = k.one_a_place in omega (arith, e);
  sixteen = record {
    one_a_place = refl;
    all_digits = AllPass-from_list_all is_digit (codes "0110100110010111") refl;
    stamp_in_range = omega arith;
  };
  two_within = λ k. let e : false ≡ true = list_all-from_AllPass is_digit (codes "0110100120010111") k.all_digits in cc;
  two_at_end = λ k. let e : false ≡ true = list_all-from_AllPass is_digit (codes "0110100110010112") k.all_digits in cc;
  fifteen = λ k. let e : 15 ≡ 16 = k.one_a_place in omega (arith, e);
  none = record { one_a_place = refl; all_digits = AllPass-from_list_all is_digit [] refl; stamp_in_range = omega arith };
  flags = flags;
  own_digits = λ digits. refl;
  each = refl;
  first = refl;
  second = refl;
}
