-- Motors that read places that are cut.
use Rattle.std.proofs.Common.{◌≡◌, ℕ, ◌<◌, Bool, true, false, not, get_or, Option, Some, None, refl, sym, subst, ap, ◌∙◌, arith, IsTrue}
use Rattle.std.proofs.lemmas.Bool.{false_from_ne_true}
use Rattle.plan_types.specs.Table.{place_count}
use Rattle.plan_rules.specs.State.{zone_at, is_full, free_zone}
use Rattle.plan_motors.specs.Motor.{need_of, place_need, meets, meets_place}
use Rattle.plan_words.specs.Cut.{Cut, is_cut, IsCut}
use Rattle.plan_words.specs.CutMotors.{PermittedByCut}
use Rattle.plan_words.proofs.CutAnswers.{counts}
use Rattle.plan_words.proofs.CutKeepers.{exit_there, entry_there}

is_empty : (b : Bool) → not b ≡ true → b ≡ false
is_empty true e = sym e
is_empty false e = refl

pub permitted_by_cut : (c : Cut) → IsCut c → PermittedByCut c
permitted_by_cut c k there whole read motor stands reads may = record {
  zones = λ z l.
      let same = ap (λ zs. get_or zs z free_zone) stands.zones in
      subst (λ m. IsTrue (meets m (need_of motor z) (zone_at whole z))) reads.machine
      (subst (λ n. IsTrue (meets read.machine n (zone_at whole z))) (reads.zone z)
      (subst (λ v. IsTrue (meets read.machine (need_of read z) v)) same (may.zones z (subst (λ n. z < n) (sym (counts c k)) l))));
  places = λ p l. by p l (is_cut c p) refl (place_need motor p) refl;
}
  where
    by_cut : (p : ℕ) → p < place_count c.plan → is_cut c p ≡ true → (need : Option Bool) → place_need motor p ≡ need → IsTrue (meets_place need (is_full whole p))
    by_cut p l cut None e = refl
    by_cut p l cut (Some true) e =
        let at = reads.full p l cut e in
        stands.lent at.0 p at.1 (subst (λ n. IsTrue (meets_place n (is_full there at.0))) at.2 (may.places at.0 (exit_there c k at.0 p at.1)))
    by_cut p l cut (Some false) e =
        let at = reads.empty p l cut e in
        let empty = is_empty (is_full there at.0) (subst (λ n. IsTrue (meets_place n (is_full there at.0))) at.2 (may.places at.0 (entry_there c k at.0 p at.1))) in
        ap not (false_from_ne_true (is_full whole p) (λ x. let h = sym (stands.full at.0 p at.1 x) ∙ empty in cc))

    by : (p : ℕ) → p < place_count c.plan → (b : Bool) → is_cut c p ≡ b → (need : Option Bool) → place_need motor p ≡ need → IsTrue (meets_place (place_need motor p) (is_full whole p))
    by p l true cut need e = by_cut p l cut (place_need motor p) refl
    by p l false uncut need e =
        let more = k.places in
        subst (λ n. IsTrue (meets_place n (is_full whole p))) (reads.uncut p l uncut)
        (subst (λ b. IsTrue (meets_place (place_need read p) b)) (stands.uncut p l uncut) (may.places p (omega (arith, l, more))))
