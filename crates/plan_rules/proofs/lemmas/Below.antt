-- Tests and sums of the numbers below a number.
use Rattle.std.proofs.Common.{◌≡◌, ◌≢◌, ℕ, zero, suc, ◌+◌, ◌<◌, ◌≤◌, inl, inr, Bool, true, false, ◌||◌, refl, sym, ap, ◌∙◌, add-one, arith}
use Rattle.plan_types.specs.Below.{any_below, sum_below}
use Rattle.plan_types.proofs.lemmas.Below.{below_next}

pub any_below_more : (f : ℕ → Bool) (n : ℕ) → any_below f (n + 1) ≡ (any_below f n || f n)
any_below_more f n = ap (any_below f) (add-one n)

pub sum_below_more : (f : ℕ → ℕ) (n : ℕ) → sum_below f (n + 1) ≡ sum_below f n + f n
sum_below_more f n = ap (sum_below f) (add-one n)

-- sums of two functions that are the same at each number below, or at each but one
pub sum_below_same : (f g : ℕ → ℕ) (n : ℕ) → ((j : ℕ) → j < n → g j ≡ f j) → sum_below g n ≡ sum_below f n
sum_below_same f g zero same = refl
sum_below_same f g (suc n) same =
    let here = same n (omega arith) in
    let rest = sum_below_same f g n (λ j l. same j (omega arith)) in
    omega (arith, here, rest)

pub sum_below_changed : (f g : ℕ → ℕ) (i n : ℕ) → i < n → ((j : ℕ) → j ≢ i → g j ≡ f j) → sum_below g n + f i ≡ sum_below f n + g i
sum_below_changed f g i zero l same = absurd (omega arith)
sum_below_changed f g i (suc n) l same =
    elim (below_next i n l) [
      | inl k ↦ let here = same n (omega arith) in let rest = sum_below_changed f g i n k same in omega (arith, here, rest)
      | inr k ↦ let rest = sum_below_same f g n (λ j m. same j (omega arith)) in let at_f = ap f k in let at_g = ap g k in omega (arith, rest, at_f, at_g)
    ]

pub sum_below_at_least : (f : ℕ → ℕ) (i n : ℕ) → i < n → f i ≤ sum_below f n
sum_below_at_least f i zero l = absurd (omega arith)
sum_below_at_least f i (suc n) l =
    elim (below_next i n l) [
      | inl k ↦ let rest = sum_below_at_least f i n k in omega (arith, rest)
      | inr k ↦ let at_f = ap f k in omega (arith, at_f)
    ]

or_true : (b : Bool) → (b || true) ≡ true
or_true true = refl
or_true false = refl

pub any_below_at : (f : ℕ → Bool) (i n : ℕ) → i < n → f i ≡ true → any_below f n ≡ true
any_below_at f i zero l e = absurd (omega arith)
any_below_at f i (suc n) l e =
    elim (below_next i n l) [
      | inl k ↦ ap (λ b. b || f n) (any_below_at f i n k e)
      | inr k ↦ ap (λ b. any_below f n || b) (sym (ap f k) ∙ e) ∙ or_true (any_below f n)
    ]

neither : (a b : Bool) → (a || b) ≡ false → (a ≡ false) × (b ≡ false)
neither true b e = cc
neither false b e = (refl, e)

pub any_below_none : (f : ℕ → Bool) (n : ℕ) → any_below f n ≡ false → (i : ℕ) → i < n → f i ≡ false
any_below_none f zero e i l = absurd (omega arith)
any_below_none f (suc n) e i l =
    let h = neither (any_below f n) (f n) e in
    elim (below_next i n l) [ inl k ↦ any_below_none f n h.0 i k | inr k ↦ ap f k ∙ h.1 ]
