-- Where no zone joins, each is a space by itself.
use Rattle.std.proofs.Common.{◌≡◌, ℕ, ◌<◌, inl, inr, Bool, true, false, ◌&&◌, ◌||◌, nat_eq, length, get_or, set, Option, refl, sym, ap, ap₂, ◌∙◌, subst, arith}
use Rattle.std.proofs.lemmas.Bool.{eqb-true}
use Rattle.std.proofs.lemmas.List.{get_or-set_same, get_or-set_other, length-set}
use Rattle.std.proofs.lemmas.List.FromFn.{fill_by_all}
use Rattle.plan_types.specs.Below.{any_below}
use Rattle.plan_types.specs.Table.{PlanTable, zone_count, host_of, guest_of, same_space}
use Rattle.plan_types.proofs.lemmas.Below.{any_below_all}
use Rattle.plan_types.proofs.lemmas.Spaces.{first_alone}
use Rattle.plan_rules.specs.declared.state.State.{State}
use Rattle.plan_rules.specs.State.{zone_at, posture_at, free_zone}
use Rattle.plan_rules.specs.Reply.{handed}
use Rattle.plan_rules.specs.PlainLaws.{IsPlain, PlainPlansStay}
use Rattle.plan_rules.proofs.lemmas.Below.{any_below_at}
use Rattle.plan_rules.proofs.lemmas.Puts.{same_or_not, nat_eq-self, nat_eq-apart}
use Rattle.plan_rules.proofs.lemmas.Spaces.{made, handed_here, handed_other}

module _ (t : PlanTable) (plain : IsPlain t) where
  same : (y z : ℕ) → same_space t y z ≡ nat_eq y z
  same y z = ap₂ nat_eq (first_alone t y (plain y)) (first_alone t z (plain z))

  both_of : (a b : Bool) → a ≡ true → b ≡ true → (a && b) ≡ true
  both_of a b e f = rw (e, f) refl

  none_of : (a b : Bool) → (a ≡ true → b ≡ false) → (a && b) ≡ false
  none_of true b f = f refl
  none_of false b f = refl

  -- what holds of some zone of the space holds of the zone
  some_is : (test : ℕ → Bool) (z n : ℕ) → z < n → (b : Bool) → test z ≡ b → any_below (λ y. same_space t y z && test y) n ≡ b
  some_is test z n l true e = any_below_at (λ y. same_space t y z && test y) z n l (both_of (same_space t z z) (test z) (same z z ∙ nat_eq-self z) e)
  some_is test z n l false e =
      any_below_all (λ y. same_space t y z && test y) n (λ y m. none_of (same_space t y z) (test y) (λ here. ap test (eqb-true y z (sym (same y z) ∙ here)) ∙ e))

  and_true : (b : Bool) → (b && true) ≡ b
  and_true true = refl
  and_true false = refl

  handed_at : (s : State) (z : ℕ) (o : Option ℕ) (plate : Bool) → z < 10 → length s.zones ≡ 10 → (y : ℕ)
      → get_or (set s.zones z (made o (plate || (zone_at s z).flag) (posture_at s z))) y free_zone ≡ handed t s z o plate y
  handed_at s z o plate few ten y =
      let v = made o (plate || (zone_at s z).flag) (posture_at s z) in
      elim (same_or_not y z) [
        | inl e ↦
            let here : handed t s z o plate z ≡ v =
            handed_here t s z o plate z (same z z ∙ nat_eq-self z)
            ∙ ap (λ b. made o (b || (zone_at s z).flag) (posture_at s z)) (ap (λ b. plate && b) (nat_eq-self z) ∙ and_true plate) in
            subst (λ x. get_or (set s.zones z v) x free_zone ≡ handed t s z o plate x) (sym e)
            (get_or-set_same s.zones z v free_zone (omega (arith, few, ten)) ∙ sym here)
        | inr ne ↦
            get_or-set_other s.zones z y v free_zone ne
            ∙ sym (handed_other t s z o plate y (same z y ∙ nat_eq-apart z y (λ e. ne (sym e))))
      ]

pub plain_plans_stay : PlainPlansStay
plain_plans_stay t s z plain = record {
  same = λ y. same t plain y z;
  enter = λ m l. some_is t plain (λ y. nat_eq m (host_of t y) || nat_eq m (guest_of t y)) z (zone_count t) l (nat_eq m (host_of t z) || nat_eq m (guest_of t z)) refl;
  plate = λ l. some_is t plain (λ y. (zone_at s y).flag) z (zone_count t) l (zone_at s z).flag refl;
  owner = λ o plate few ten.
      let v = made o (plate || (zone_at s z).flag) (posture_at s z) in
      sym (fill_by_all (handed t s z o plate) (set s.zones z v) 10 free_zone (length-set s.zones z v ∙ ten)
      (λ y l. handed_at t plain s z o plate few ten y));
}
