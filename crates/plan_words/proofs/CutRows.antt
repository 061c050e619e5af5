-- Literal rows of a place that is cut.
use Rattle.std.proofs.Common.{◌≡◌, ℕ, zero, suc, ◌<◌, ◌≤◌, inl, inr, Bool, true, false, subst, ◌∷◌, refl, sym, ap, ◌∙◌, arith}
use Rattle.std.proofs.Common.{not, nat_eq, nat_lt, nat_le, length, get_or, replicate, ◌++◌, Option, Some, None, ltb-true}
use Rattle.std.proofs.lemmas.Bool.{leb-true, eqb-true, eqb-false}
use Rattle.plan_types.specs.declared.posture.Posture.{Posture}
use Rattle.plan_types.specs.Table.{host_of, guest_of, machine_of, zone_row, keeper_of, posture_of, space_of, word_width}
use Rattle.plan_types.specs.Plan.{leads, is_alike}
use Rattle.plan_rules.specs.State.{is_full}
use Rattle.plan_rules.specs.History.{IsLegal}
use Rattle.plan_words.specs.Groups.{IsLargePlan, group_of, table_of, Fits}
use Rattle.plan_words.specs.Run.{IsLaidOut, events_of}
use Rattle.plan_words.specs.Cut.{is_cut, IsExit, IsEntry, IsCut}
use Rattle.plan_words.specs.CutRun.{Moment, last_moment, IsRun, cut_start}
use Rattle.plan_words.specs.CutRows.{through, hand_cut, through_words, no_plates, at_start, opened, brought, given, whole_round, PlateGoesThrough, OnlyRefusalsDiffer, OutOfTurn, LentToBoth, OpenToBoth, WordsDontTell}
use Rattle.plan_words.proofs.Pairs.{each, alike_self}
use Rattle.plan_words.proofs.Grouping.{is_laid_out}
use Rattle.plan_words.proofs.Starts.{starts_are_whole}
use Rattle.plan_words.proofs.CutTables.{is_cut_at, cut_is_large}
use Rattle.plan_words.proofs.CutStarts.{starts_stand}
use Rattle.plan_words.proofs.CutAnswers.{itself}

-- ---- a pose that gives one zone a posture

abbrev pub no_posture : Option Posture
no_posture = None

pub nothing_more : (n y : ℕ) (q : Posture) → get_or (replicate n no_posture) y no_posture ≡ Some q → ⊥
nothing_more zero y q e = cc
nothing_more (suc n) zero q e = cc
nothing_more (suc n) (suc y) q e = nothing_more n y q e

pub one_zone : (z n y : ℕ) (r q : Posture) → get_or (replicate z no_posture ++ Some r ∷ replicate n no_posture) y no_posture ≡ Some q → y ≡ z
one_zone zero n zero r q e = refl
one_zone zero n (suc y) r q e = absurd (nothing_more n y q e)
one_zone (suc z) n zero r q e = cc
one_zone (suc z) n (suc y) r q e = ap suc (one_zone z n y r q e)

-- ---- a plate goes through

pub not_true : (b : Bool) → not b ≡ true → b ≡ false
not_true true e = sym e
not_true false e = refl

through_large : IsLargePlan through
through_large = record {
  keeper_is_machine = λ p l. ltb-true _ _ (each (λ x. nat_lt (keeper_of through x) 3) 3 refl p l);
  host_is_machine = λ z l. ltb-true _ _ (each (λ x. nat_lt (host_of through x) 3) 2 refl z l);
  guest_is_machine = λ z l. ltb-true _ _ (each (λ x. nat_lt (guest_of through x) 3) 2 refl z l);
  host_is_not_guest = λ z l. eqb-false _ _ (not_true _ (each (λ x. not (nat_eq (host_of through x) (guest_of through x))) 2 refl z l));
  inward_to_host = λ z l. each (λ x. leads through (guest_of through x) (host_of through x) (zone_row through x).inward) 2 refl z l;
  outward_to_guest = λ z l. each (λ x. leads through (host_of through x) (guest_of through x) (zone_row through x).outward) 2 refl z l;
  pose_of_machine = λ p l. ltb-true _ _ (each (λ x. nat_lt (machine_of through x) 3) 2 refl p l);
  pose_of_host = pose_of_host;
  one_host_a_space = λ z l. ap (host_of through) (alone z l);
  guests_differ = λ y z l m same. absurd (let n : y < 2 = omega (arith, l, m) in let own = sym (alone y n) ∙ (same ∙ alone z m) in omega (arith, own, l));
  space_moves_whole = λ p z l m. ap (λ x. is_alike (posture_of through p x) (posture_of through p z)) (alone z m) ∙ alike_self (posture_of through p z);
}
  where
    alone : (z : ℕ) → z < 2 → space_of through z ≡ z
    alone z l = eqb-true _ _ (each (λ x. nat_eq (space_of through x) x) 2 refl z l)

    at_zone : (p z y : ℕ) → z ≡ y → y < 2 → host_of through y ≡ machine_of through p → (z < 2) × (host_of through z ≡ machine_of through p)
    at_zone p z y e l h = subst (λ x. (x < 2) × (host_of through x ≡ machine_of through p)) (sym e) (l, h)

    pose_of_host : (p z : ℕ) (q : Posture) → p < 2 → posture_of through p z ≡ Some q → (z < 2) × (host_of through z ≡ machine_of through p)
    pose_of_host zero z q l e = at_zone 0 z 0 (one_zone 0 9 z _ q e) (omega arith) refl
    pose_of_host (suc zero) z q l e = at_zone 1 z 1 (one_zone 1 8 z _ q e) (omega arith) refl
    pose_of_host (suc (suc p)) z q l e = absurd (omega (arith, l))

cut : IsCut hand_cut
cut = is_cut_at through (nat_eq 1) through_large

large : IsLargePlan hand_cut.cut
large = cut_is_large hand_cut cut through_large

fits : (n : ℕ) → n < 3 → Fits hand_cut.cut (group_of hand_cut.cut n)
fits n l = record {
  machines = omega arith;
  zones = leb-true _ _ (each (λ x. nat_le (length (group_of hand_cut.cut x).zones) 10) 3 refl n l);
  poses = leb-true _ _ (each (λ x. nat_le (length (group_of hand_cut.cut x).poses) 64) 3 refl n l);
  places = leb-true _ _ (each (λ x. nat_le (length (group_of hand_cut.cut x).places) 16) 3 refl n l);
  width = leb-true _ _ (each (λ x. nat_le (word_width (table_of hand_cut.cut (group_of hand_cut.cut x))) 64) 3 refl n l);
}

laid_out : IsLaidOut hand_cut.cut 3 through_words
laid_out = is_laid_out hand_cut.cut large fits

legal : (n : ℕ) → n < 3 → IsLegal (through_words n).table (at_start.states n) (events_of whole_round n)
legal zero l = (refl, (refl, (refl, (refl, (refl, (refl, (refl, tt)))))))
legal (suc zero) l = (refl, (refl, (refl, (refl, (refl, (refl, (refl, tt)))))))
legal (suc (suc zero)) l = tt
legal (suc (suc (suc n))) l = absurd (omega (arith, l))

only_exit : (q p : ℕ) → IsExit hand_cut q p → q ≡ 3
only_exit q p exit = let a : 3 ≤ q = exit.0 in let b : q < 4 = exit.1 in omega (arith, a, b)

no_more_entries : (e p : ℕ) → IsEntry hand_cut e p → e ≡ p
no_more_entries e p entry = elim entry.0 [
  | inl l ↦ sym (itself hand_cut e l) ∙ entry.2
  | inr m ↦ let a : 4 ≤ e = m in let b : e < 4 = entry.1 in absurd (omega (arith, a, b))
]

-- the moment before the plate is lent
brought_to : Moment
brought_to = last_moment hand_cut through_words at_start (opened ++ brought)

-- and that after it is given
given_on : Moment
given_on = last_moment hand_cut through_words at_start (opened ++ (brought ++ given))

run : IsRun hand_cut 3 through_words at_start whole_round
unfolding brought_to given_on
run = record {
  words_are_whole = starts_are_whole hand_cut.cut 3 through_words laid_out (cut_start hand_cut no_plates).full refl;
  stands = starts_stand hand_cut cut no_plates refl;
  calls = ((omega arith, ltb-true _ _ refl), ((omega arith, ltb-true _ _ refl), ((omega arith, ltb-true _ _ refl), ((omega arith, ltb-true _ _ refl), ((omega arith, ltb-true _ _ refl), ((omega arith, ltb-true _ _ refl), ((omega arith, ltb-true _ _ refl), ((omega arith, ltb-true _ _ refl), ((omega arith, ltb-true _ _ refl), ((omega arith, ltb-true _ _ refl), ((omega arith, ltb-true _ _ refl), ((omega arith, ltb-true _ _ refl), ((omega arith, ltb-true _ _ refl), ((omega arith, ltb-true _ _ refl), tt))))))))))))));
  legal = legal;
  in_turn = (λ _. tt, (λ _. tt, (λ _. tt, (λ _. tt, (λ _. tt, (λ _. tt, (λ _. (λ p exit. let a : 3 ≤ 0 = exit.0 in absurd (omega (arith, a)), λ p entry cut full. let h = ap (is_cut hand_cut) entry.2 ∙ cut in cc), (λ _. tt, (λ _. tt, (λ _. (λ p exit empty. record { has = subst (λ y. is_full brought_to.whole y ≡ true) exit.2 refl; lent_nowhere = λ q other. subst (λ y. is_full brought_to.there y ≡ false) (sym (only_exit q p other)) refl }, λ p entry. let h = no_more_entries 3 p entry in let t = entry.2 ∙ sym h in cc), (λ _. tt, (λ _. (λ p exit. let a : 3 ≤ 1 = exit.0 in absurd (omega (arith, a)), λ p entry cut full. record { left = subst (λ y. is_full given_on.whole y ≡ false) (no_more_entries 1 p entry) refl; others_shut = λ e other ne. absurd (ne (no_more_entries e p other ∙ sym (no_more_entries 1 p entry))) }), (λ _. tt, (λ _. tt, tt))))))))))))));
}

pub plate_goes_through : PlateGoesThrough
plate_goes_through = record { large = large; laid_out = laid_out; run = run; come = refl; plates = refl }

-- ---- what differs, and what goes wrong

pub only_refusals_differ : OnlyRefusalsDiffer
only_refusals_differ = record { unlent = refl; unlent_plan = refl; shut = refl; shut_plan = refl }

pub out_of_turn : OutOfTurn
out_of_turn = record {
  opens_first = refl;
  opens_while_lent = refl;
  given_onto = refl;
  given_onto_plan = refl;
  opens_too_early = λ t. let h = (t.1 1 (inl (omega arith), omega arith, refl) refl refl).left in cc;
  lends_again = refl;
  given_again = refl;
  given_again_plan = refl;
  lends_too_often = λ t. let h = (t.0 1 (omega arith, omega arith, refl) refl).has in cc;
}

pub lent_to_both : LentToBoth
lent_to_both = record {
  lends_both = refl;
  given_second = refl;
  given_second_plan = refl;
  lends_to_both = λ t. let h = (t.0 0 (omega arith, omega arith, refl) refl).lent_nowhere 3 (omega arith, omega arith, refl) in cc;
}

pub open_to_both : OpenToBoth
open_to_both = record {
  numbers = refl;
  opens_second = refl;
  first_gives = refl;
  second_gives = refl;
  second_gives_plan = refl;
  opens_both = λ t. let h = (t.1 0 (inr (omega arith), omega arith, refl) refl refl).others_shut 0 (inl (omega arith), omega arith, refl) (λ e. absurd (omega (arith, e))) in cc;
  shut = refl;
  shut_plan = refl;
}

pub words_dont_tell : WordsDontTell
words_dont_tell = record { first_zones = refl; first_places = refl; second_zones = refl; second_places = refl; has_none = refl; has_one = refl }
