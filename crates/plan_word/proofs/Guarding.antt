-- What a loop over the zones of a word has found: the first refusal, a zone that stands, a plate on its way.
use Rattle.std.proofs.Common.{◌≡◌, ℕ, zero, suc, ◌+◌, ◌<◌, inl, inr, Bool, true, false, ◌||◌, ◌&&◌, not, nat_eq, nat_lt, Option, Some, None, refl, sym, ap, ap₂, ◌∙◌, arith}
use Rattle.std.specs.Bool.{then_some}
use Rattle.std.specs.Option.{option_or}
use Rattle.std.proofs.lemmas.Bool.{lt-ltb}
use Rattle.plan_types.specs.Below.{first_below, any_below, sum_below}
use Rattle.plan_types.specs.declared.answer.Refusal.TheVariants.{NotParty, AlreadyMine, Shut, Stopped}
use Rattle.plan_types.specs.Table.{PlanTable, zone_count, guest_of, is_party}
use Rattle.plan_types.proofs.lemmas.Below.{below_next, first_below_more}
use Rattle.plan_rules.specs.declared.state.ZoneState.{ZoneState}
use Rattle.plan_rules.specs.declared.state.State.{State}
use Rattle.plan_rules.specs.State.{zone_at, owner_of, posture_at, is_full, one_if, is_coming}
use Rattle.plan_rules.specs.Sound.{is_open, is_owned_by}
use Rattle.plan_rules.specs.Refusals.{◌or◌, held_by, worn, claim_refusal, is_taken}
use Rattle.plan_rules.proofs.lemmas.Below.{any_below_more, sum_below_more, sum_below_at_least}

-- a claim that no guard bars before the last one
pub claim_left : (t : PlanTable) (s : State) (m z : ℕ) (v : ZoneState) → v ≡ zone_at s z → is_party t m z ≡ true → s.stopped ≡ false → v.owner ≡ None → (nat_eq m (guest_of t z) && not (is_open v.posture)) ≡ false
    → worn s ≡ claim_refusal t s m z
claim_left t s m z v here party runs free closed =
    let owner : owner_of s z ≡ None = ap (λ (u : ZoneState). u.owner) (sym here) ∙ free in
    let shut : (nat_eq m (guest_of t z) && not (is_open (posture_at s z))) ≡ false = ap (λ (u : ZoneState). nat_eq m (guest_of t z) && not (is_open u.posture)) (sym here) ∙ closed in
    sym (λ i. then_some (not (party i)) NotParty or then_some (runs i) Stopped or then_some (is_owned_by (owner i) m) AlreadyMine or held_by (owner i) m or then_some (shut i) (Shut (posture_at s z)) or worn s)

pub first_at : {A : Type 0} (f : ℕ → Option A) (i n : ℕ) (x : A) → i < n → first_below f i ≡ None → f i ≡ Some x → first_below f n ≡ Some x
first_at f i zero x l none e = absurd (omega arith)
first_at f i (suc n) x l none e =
    elim (below_next i n l) [
      | inl k ↦ ap (λ o. option_or o (f n)) (first_at f i n x k none e)
      | inr k ↦ ap₂ option_or (sym (ap (first_below f) k) ∙ none) (sym (ap f k) ∙ e)
    ]

pub none_more : {A : Type 0} (f : ℕ → Option A) (i : ℕ) → first_below f i ≡ None → f i ≡ None → first_below f (i + 1) ≡ None
none_more f i none e = first_below_more f i ∙ ap₂ option_or none e

or_true : (b : Bool) → (b || true) ≡ true
or_true true = refl
or_true false = refl

pub any_at : (f : ℕ → Bool) (i n : ℕ) → i < n → f i ≡ true → any_below f n ≡ true
any_at f i zero l e = absurd (omega arith)
any_at f i (suc n) l e =
    elim (below_next i n l) [
      | inl k ↦ ap (λ b. b || f n) (any_at f i n k e)
      | inr k ↦ ap (λ b. any_below f n || b) (sym (ap f k) ∙ e) ∙ or_true (any_below f n)
    ]

pub not_any_more : (f : ℕ → Bool) (i : ℕ) → any_below f i ≡ false → f i ≡ false → any_below f (i + 1) ≡ false
not_any_more f i none e = any_below_more f i ∙ ap₂ (λ a b. a || b) none e

-- how many plates are on their way to a place through the zones below a number
abbrev pub coming_below : PlanTable → State → ℕ → ℕ → ℕ
coming_below t s p n = sum_below (λ z. one_if (is_coming t (zone_at s z) p z)) n

pub taken_full : (t : PlanTable) (s : State) (p : ℕ) → is_full s p ≡ true → is_taken t s p ≡ true
taken_full t s p e =
    let one : one_if (is_full s p) ≡ 1 = ap one_if e in
    lt-ltb 0 (one_if (is_full s p) + coming_below t s p (zone_count t)) (omega (arith, one))

pub taken_coming : (t : PlanTable) (s : State) (p z : ℕ) → z < zone_count t → is_coming t (zone_at s z) p z ≡ true → is_taken t s p ≡ true
taken_coming t s p z l e =
    let one : one_if (is_coming t (zone_at s z) p z) ≡ 1 = ap one_if e in
    let some = sum_below_at_least (λ x. one_if (is_coming t (zone_at s x) p x)) z (zone_count t) l in
    lt-ltb 0 (one_if (is_full s p) + coming_below t s p (zone_count t)) (omega (arith, one, some))

pub not_taken : (t : PlanTable) (s : State) (p : ℕ) → is_full s p ≡ false → coming_below t s p (zone_count t) ≡ 0 → is_taken t s p ≡ false
not_taken t s p e none = ap₂ (λ b n. nat_lt 0 (one_if b + n)) e none

pub none_comes_more : (t : PlanTable) (s : State) (p z : ℕ) → coming_below t s p z ≡ 0 → is_coming t (zone_at s z) p z ≡ false → coming_below t s p (z + 1) ≡ 0
none_comes_more t s p z none e =
    sum_below_more (λ x. one_if (is_coming t (zone_at s x) p x)) z ∙ ap₂ (λ a b. a + b) none (ap one_if e)
