-- Which number comes no later than another in an order.
use Rattle.std.proofs.Common.{◌≡◌, ℕ, zero, suc, ◌<◌, ◌≤◌, inl, inr, Bool, true, false, cond, nat_eq, List, [], ◌∷◌, length, get_or, refl, sym, ap, ◌∙◌, arith}
use Rattle.std.specs.List.{list_any}
use Rattle.std.proofs.lemmas.Bool.{eqb-true, or_cases, or_left, or_right}
use Rattle.plan_rules.specs.RefusalLaws.{from_on, is_no_later, StandsNoLater, OrdersAreKept}
use Rattle.plan_rules.proofs.lemmas.Puts.{nat_eq-self}

-- a number stands somewhere in a list exactly if one of the list is the same
abbrev Stands : List ℕ → ℕ → Type 0
Stands ns k = (i : ℕ) × (i < length ns) × (get_or ns i 0 ≡ k)

any_stands : (ns : List ℕ) (k : ℕ) → list_any (λ x. nat_eq x k) ns ≡ true → Stands ns k
any_stands [] k e = cc
any_stands (n ∷ ns) k e =
    elim (or_cases (nat_eq n k) (list_any (λ x. nat_eq x k) ns) e) [
      | inl h ↦ (0, omega arith, eqb-true n k h)
      | inr h ↦ let f = any_stands ns k h in let l = f.1 in (suc f.0, omega (arith, l), f.2)
    ]

stands_any : (ns : List ℕ) (i k : ℕ) → i < length ns → get_or ns i 0 ≡ k → list_any (λ x. nat_eq x k) ns ≡ true
stands_any [] i k l e = absurd (omega (arith, l))
stands_any (n ∷ ns) zero k l e = or_left (nat_eq n k) (list_any (λ x. nat_eq x k) ns) (ap (nat_eq n) (sym e) ∙ nat_eq-self n)
stands_any (n ∷ ns) (suc i) k l e = or_right (nat_eq n k) (list_any (λ x. nat_eq x k) ns) (stands_any ns i k (omega (arith, l)) e)

later : (x : ℕ) (ns : List ℕ) (n k : ℕ) → StandsNoLater ns n k → StandsNoLater (x ∷ ns) n k
later x ns n k f =
    let l = f.no_later in
    let w = f.within in
    record { first = suc f.first; second = suc f.second; no_later = omega (arith, l); within = omega (arith, w); first_is = f.first_is; second_is = f.second_is }

-- whether the first of an order is the number
abbrev head_or_rest : Bool → ℕ → List ℕ → ℕ → ℕ → Bool
head_or_rest b x ns n k = list_any (λ y. nat_eq y k) (cond b (x ∷ ns) (from_on n ns))

stands_by : (x : ℕ) (ns : List ℕ) (n k : ℕ) (b : Bool) → nat_eq x n ≡ b → (is_no_later ns n k ≡ true → StandsNoLater ns n k) → head_or_rest b x ns n k ≡ true → StandsNoLater (x ∷ ns) n k
stands_by x ns n k true same rest e =
    let f = any_stands (x ∷ ns) k e in
    record { first = 0; second = f.0; no_later = omega arith; within = f.1; first_is = eqb-true x n same; second_is = f.2 }
stands_by x ns n k false other rest e = later x ns n k (rest e)

stands : (ns : List ℕ) (n k : ℕ) → is_no_later ns n k ≡ true → StandsNoLater ns n k
stands [] n k e = cc
stands (x ∷ ns) n k e = stands_by x ns n k (nat_eq x n) refl (stands ns n k) e

not_head : (x n : ℕ) → nat_eq x n ≡ false → x ≡ n → ⊥
not_head x n other same = let h : nat_eq x n ≡ true = ap (nat_eq x) (sym same) ∙ nat_eq-self x in cc

-- the places in what follows the first
below : (x : ℕ) (ns : List ℕ) (n k i j : ℕ) → nat_eq x n ≡ false → ((a b : ℕ) → a ≤ b → b < length ns → get_or ns a 0 ≡ n → get_or ns b 0 ≡ k → is_no_later ns n k ≡ true)
    → i ≤ j → j < length (x ∷ ns) → get_or (x ∷ ns) i 0 ≡ n → get_or (x ∷ ns) j 0 ≡ k → is_no_later ns n k ≡ true
below x ns n k zero j other rest order within first second = absurd (not_head x n other first)
below x ns n k (suc i) zero other rest order within first second = absurd (omega (arith, order))
below x ns n k (suc i) (suc j) other rest order within first second = rest i j (omega (arith, order)) (omega (arith, within)) first second

no_later_at : (x : ℕ) (ns : List ℕ) (n k i j : ℕ) (b : Bool) → nat_eq x n ≡ b → ((a b : ℕ) → a ≤ b → b < length ns → get_or ns a 0 ≡ n → get_or ns b 0 ≡ k → is_no_later ns n k ≡ true)
    → i ≤ j → j < length (x ∷ ns) → get_or (x ∷ ns) i 0 ≡ n → get_or (x ∷ ns) j 0 ≡ k → head_or_rest b x ns n k ≡ true
no_later_at x ns n k i j true same rest order within first second = stands_any (x ∷ ns) j k within second
no_later_at x ns n k i j false other rest order within first second = below x ns n k i j other rest order within first second

no_later_by : (ns : List ℕ) (n k i j : ℕ) → i ≤ j → j < length ns → get_or ns i 0 ≡ n → get_or ns j 0 ≡ k → is_no_later ns n k ≡ true
no_later_by [] n k i j order within first second = absurd (omega (arith, within))
no_later_by (x ∷ ns) n k i j order within first second = no_later_at x ns n k i j (nat_eq x n) refl (no_later_by ns n k) order within first second

pub orders_are_kept : OrdersAreKept
orders_are_kept order n k = (stands order n k, λ f. no_later_by order n k f.first f.second f.no_later f.within f.first_is f.second_is)
