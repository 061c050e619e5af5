-- What a list of zones or of places has after a change.
use Rattle.std.proofs.Common.{◌≡◌, ◌≢◌, ℕ, ◌<◌, ◌⊎◌, inl, inr, Bool, true, false, List, length, get_or, set, nat_eq, refl, sym, subst, eq-eqb, arith}
use Rattle.std.proofs.lemmas.Bool.{eqb-true, false_from_ne_true}
use Rattle.std.proofs.lemmas.List.{get_or-set_same, get_or-set_other}
use Rattle.std.proofs.lemmas.List.FromFn.{get_or-map-range_with_len}
use Rattle.plan_types.specs.Table.{PlanTable}
use Rattle.plan_rules.specs.declared.state.State.{State}
use Rattle.plan_rules.specs.State.{free_zone}
use Rattle.plan_rules.specs.Reply.{posed, all_posed}

pub same_or_not : (a b : ℕ) → (a ≡ b) ⊎ (a ≢ b)
same_or_not a b =
    let At : Bool → Type 0 = λ t. nat_eq a b ≡ t → (a ≡ b) ⊎ (a ≢ b) in
    let by : (t : Bool) → At t = λ t. elim t as At [
      | true ↦ λ e. inl (eqb-true a b e)
      | false ↦ λ e. inr (λ s. let h = eq-eqb a b s in cc)
    ] in
    by (nat_eq a b) refl

pub nat_eq-self : (a : ℕ) → nat_eq a a ≡ true
nat_eq-self a = eq-eqb a a refl

pub nat_eq-apart : (a b : ℕ) → a ≢ b → nat_eq a b ≡ false
nat_eq-apart a b ne = false_from_ne_true (nat_eq a b) (λ t. ne (eqb-true a b t))

pub apart-nat_eq : (a b : ℕ) → nat_eq a b ≡ false → a ≢ b
apart-nat_eq a b e s = let h = eq-eqb a b s in cc

-- what holds at the number that is set, and at each other
pub put_cases : {A : Type 0} (P : ℕ → A → Type 0) (xs : List A) (v d : A) (y : ℕ) → y < length xs → P y v → ((z : ℕ) → z ≢ y → P z (get_or xs z d)) → (z : ℕ) → P z (get_or (set xs y v) z d)
put_cases P xs v d y l here other z =
    elim (same_or_not z y) [
      | inl e ↦ subst (λ x. P x (get_or (set xs y v) x d)) (sym e) (subst (P y) (sym (get_or-set_same xs y v d l)) here)
      | inr ne ↦ subst (P z) (sym (get_or-set_other xs y z v d ne)) (other z ne)
    ]

-- what a pose leaves of a zone
pub zone_at-posed : (t : PlanTable) (s : State) (p z : ℕ) → z < 10 → get_or (all_posed t s p) z free_zone ≡ posed t s p z
zone_at-posed t s p z l = get_or-map-range_with_len (posed t s p) 0 10 z z free_zone l (omega arith)
