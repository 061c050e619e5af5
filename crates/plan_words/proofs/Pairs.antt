-- Twelve pairs of machines, which don't fit one word, are on twelve.
use Rattle.std.proofs.Common.{◌≡◌, ℕ, ◌<◌, Bool, true, false, not, nat_eq, nat_lt, nat_le, length, Option, Some, None, refl, sym, ◌∙◌, arith, ltb-true}
use Rattle.std.proofs.lemmas.Bool.{leb-true, eqb-true, eqb-false, not-false}
use Rattle.plan_types.specs.Below.{any_below}
use Rattle.plan_types.specs.Table.{host_of, guest_of, zone_row, keeper_of, space_of, word_width}
use Rattle.plan_types.specs.declared.posture.Posture.{Posture}
use Rattle.plan_types.specs.declared.posture.Posture.TheVariants.{Closed, Moving, OpenIn, OpenOut}
use Rattle.plan_types.specs.Plan.{leads, is_alike}
use Rattle.plan_rules.proofs.lemmas.Below.{any_below_none}
use Rattle.plan_words.specs.Groups.{IsLargePlan, group_of, table_of, Fits}
use Rattle.plan_words.specs.Least.{twelve_pairs, TwelvePairs}
use Rattle.plan_words.proofs.Grouping.{is_laid_out}

-- what a test finds of each number below a number
pub each : (test : ℕ → Bool) (n : ℕ) → any_below (λ z. not (test z)) n ≡ false → (z : ℕ) → z < n → test z ≡ true
each test n e z l = not-false (test z) (any_below_none (λ z. not (test z)) n e z l)

-- a pose gives a zone what it gives it
pub alike_self : (o : Option Posture) → is_alike o o ≡ true
alike_self None = refl
alike_self (Some Closed) = refl
alike_self (Some Moving) = refl
alike_self (Some OpenIn) = refl
alike_self (Some OpenOut) = refl

pairs_are_large : IsLargePlan twelve_pairs
pairs_are_large = record {
  keeper_is_machine = λ p l. ltb-true _ _ (each (λ x. nat_lt (keeper_of twelve_pairs x) 30) 24 refl p l);
  host_is_machine = λ z l. ltb-true _ _ (each (λ x. nat_lt (host_of twelve_pairs x) 30) 12 refl z l);
  guest_is_machine = λ z l. ltb-true _ _ (each (λ x. nat_lt (guest_of twelve_pairs x) 30) 12 refl z l);
  host_is_not_guest = λ z l. eqb-false _ _ (not_true _ (each (λ x. not (nat_eq (host_of twelve_pairs x) (guest_of twelve_pairs x))) 12 refl z l));
  inward_to_host = λ z l. each (λ x. leads twelve_pairs (guest_of twelve_pairs x) (host_of twelve_pairs x) (zone_row twelve_pairs x).inward) 12 refl z l;
  outward_to_guest = λ z l. each (λ x. leads twelve_pairs (host_of twelve_pairs x) (guest_of twelve_pairs x) (zone_row twelve_pairs x).outward) 12 refl z l;
  pose_of_machine = λ p l. absurd (omega (arith, l));
  pose_of_host = λ p z q l e. absurd (omega (arith, l));
  one_host_a_space = λ z l. eqb-true _ _ (each (λ x. nat_eq (host_of twelve_pairs (space_of twelve_pairs x)) (host_of twelve_pairs x)) 12 refl z l);
  guests_differ = λ y z l m same. absurd (let n : y < 12 = omega (arith, l, m) in let own = sym (alone y n) ∙ (same ∙ alone z m) in omega (arith, own, l));
  space_moves_whole = λ p z l m. absurd (omega (arith, l));
}
  where
    alone : (z : ℕ) → z < 12 → space_of twelve_pairs z ≡ z
    alone z l = eqb-true _ _ (each (λ x. nat_eq (space_of twelve_pairs x) x) 12 refl z l)

    not_true : (b : Bool) → not b ≡ true → b ≡ false
    not_true true e = sym e
    not_true false e = refl

pairs_fit : (n : ℕ) → n < 13 → Fits twelve_pairs (group_of twelve_pairs n)
pairs_fit n l = record {
  machines = omega arith;
  zones = leb-true _ _ (each (λ x. nat_le (length (group_of twelve_pairs x).zones) 10) 13 refl n l);
  poses = leb-true _ _ (each (λ x. nat_le (length (group_of twelve_pairs x).poses) 64) 13 refl n l);
  places = leb-true _ _ (each (λ x. nat_le (length (group_of twelve_pairs x).places) 16) 13 refl n l);
  width = leb-true _ _ (each (λ x. nat_le (word_width (table_of twelve_pairs (group_of twelve_pairs x))) 64) 13 refl n l);
}

pub twelve_are_laid_out : TwelvePairs
twelve_are_laid_out = record { large = pairs_are_large; laid_out = is_laid_out twelve_pairs pairs_are_large pairs_fit; no_plan = λ p. let h = p.fits_a_word in absurd (omega (arith, h)) }
