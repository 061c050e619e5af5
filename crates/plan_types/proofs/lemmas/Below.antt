-- What is computed of the numbers below a number.
use Rattle.std.proofs.Common.{◌≡◌, ℕ, zero, suc, ◌+◌, ◌<◌, ◌⊎◌, inl, inr, Bool, true, false, ◌||◌, Option, Some, None, refl, ap, ◌∙◌, add-one, arith}
use Rattle.std.specs.Option.{option_or}
use Rattle.std.proofs.lemmas.Bool.{cases_lt}
use Rattle.plan_types.specs.Below.{first_below, any_below, sum_below}

pub first_below_more : {A : Type 0} (f : ℕ → Option A) (n : ℕ) → first_below f (n + 1) ≡ option_or (first_below f n) (f n)
first_below_more f n = ap (first_below f) (add-one n)

pub any_below_more : (f : ℕ → Bool) (n : ℕ) → any_below f (n + 1) ≡ (any_below f n || f n)
any_below_more f n = ap (any_below f) (add-one n)

pub sum_below_more : (f : ℕ → ℕ) (n : ℕ) → sum_below f (n + 1) ≡ sum_below f n + f n
sum_below_more f n = ap (sum_below f) (add-one n)

-- below the next number
pub below_next : (i n : ℕ) → i < suc n → (i < n) ⊎ (i ≡ n)
below_next i n l = elim (cases_lt i n) [ inl h ↦ inl h | inr h ↦ inr (omega arith) ]

none_both : {A : Type 0} (a b : Option A) → option_or a b ≡ None → (a ≡ None) × (b ≡ None)
none_both None b e = (refl, e)
none_both (Some x) b e = cc

pub first_below_none : {A : Type 0} (f : ℕ → Option A) (n : ℕ) → first_below f n ≡ None → (i : ℕ) → i < n → f i ≡ None
first_below_none f zero e i l = absurd (omega arith)
first_below_none f (suc n) e i l =
    let h = none_both (first_below f n) (f n) e in
    elim (below_next i n l) [ inl k ↦ first_below_none f n h.0 i k | inr k ↦ ap f k ∙ h.1 ]

pub first_below_all : {A : Type 0} (f : ℕ → Option A) (n : ℕ) → ((i : ℕ) → i < n → f i ≡ None) → first_below f n ≡ None
first_below_all f zero all = refl
first_below_all f (suc n) all = rw (first_below_all f n (λ i l. all i (omega arith)), all n (omega arith)) refl

none_of_two : (a b : Bool) → (a || b) ≡ false → (a ≡ false) × (b ≡ false)
none_of_two true b e = cc
none_of_two false b e = (refl, e)

pub any_below_none : (f : ℕ → Bool) (n : ℕ) → any_below f n ≡ false → (i : ℕ) → i < n → f i ≡ false
any_below_none f zero e i l = absurd (omega arith)
any_below_none f (suc n) e i l =
    let h = none_of_two (any_below f n) (f n) e in
    elim (below_next i n l) [ inl k ↦ any_below_none f n h.0 i k | inr k ↦ ap f k ∙ h.1 ]

pub any_below_all : (f : ℕ → Bool) (n : ℕ) → ((i : ℕ) → i < n → f i ≡ false) → any_below f n ≡ false
any_below_all f zero all = refl
any_below_all f (suc n) all = rw (any_below_all f n (λ i l. all i (omega arith)), all n (omega arith)) refl

-- the first value is that of the first number that has one
pub record IsFirst {A : Type 0} (f : ℕ → Option A) (n : ℕ) (x : A) : Type 0 where
  pub at : ℕ
  pub below : at < n
  pub has : f at ≡ Some x
  pub none : (i : ℕ) → i < at → f i ≡ None

first_in_either : {A : Type 0} (f : ℕ → Option A) (n : ℕ) (x : A) (o : Option A) → first_below f n ≡ o
    → option_or o (f n) ≡ Some x → (first_below f n ≡ Some x → IsFirst f n x) → IsFirst f (suc n) x
first_in_either f n x None none is below =
    record { at = n; below = omega arith; has = is; none = first_below_none f n none }
first_in_either f n x (Some w) some is below =
    let h = below (some ∙ is) in
    let l = h.below in
    record { at = h.at; below = omega arith; has = h.has; none = h.none }

pub first_of : {A : Type 0} (f : ℕ → Option A) (n : ℕ) (x : A) → first_below f n ≡ Some x → IsFirst f n x
first_of f zero x e = absurd (cc)
first_of f (suc n) x e = first_in_either f n x (first_below f n) refl e (first_of f n x)
