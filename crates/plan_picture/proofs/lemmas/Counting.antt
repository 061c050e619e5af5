-- How many of the numbers below a number are of a kind.
use Rattle.std.proofs.Common.{◌≡◌, ℕ, zero, suc, ◌+◌, ◌<◌, ◌≤◌, inl, inr, nat_eq, nat_lt, refl, ap, subst, arith}
use Rattle.std.proofs.lemmas.Bool.{cases_lt, eq-eqb, le-ltb, lt-ltb, ne_eqb}
use Rattle.plan_types.specs.Below.{sum_below}
use Rattle.plan_rules.specs.State.{one_if}

-- as many are below k + 1 as below k, or k
below_one_more : (x k : ℕ) → one_if (nat_lt x (k + 1)) ≡ one_if (nat_lt x k) + one_if (nat_eq x k)
below_one_more x k =
    elim (cases_lt x k) [
      | inl h ↦ rw (lt-ltb x (k + 1) (omega arith), lt-ltb x k h, ne_eqb x k (λ e. absurd (omega arith))) refl
      | inr h ↦ elim (cases_lt k x) [
        | inl l ↦ rw (le-ltb x (k + 1) (omega arith), le-ltb x k h, ne_eqb x k (λ e. absurd (omega arith))) refl
        | inr l ↦ rw (lt-ltb x (k + 1) (omega arith), le-ltb x k h, eq-eqb x k (omega arith)) refl
      ]
    ]

pub counted_one_more : (f : ℕ → ℕ) (k n : ℕ)
    → sum_below (λ i. one_if (nat_lt (f i) (k + 1))) n
    ≡ sum_below (λ i. one_if (nat_lt (f i) k)) n + sum_below (λ i. one_if (nat_eq (f i) k)) n
counted_one_more f k zero = refl
counted_one_more f k (suc n) =
    let here = below_one_more (f n) k in let rest = counted_one_more f k n in omega (arith, here, rest)

-- among more numbers there are no fewer, and one that is of the kind is one more
pub no_fewer : (f : ℕ → ℕ) (i n : ℕ) → i ≤ n → sum_below f i ≤ sum_below f n
no_fewer f i zero l = let same : i ≡ zero = omega arith in subst (λ j. sum_below f i ≤ sum_below f j) same (omega arith)
no_fewer f i (suc n) l =
    elim (cases_lt n i) [
      | inl h ↦ let same : i ≡ suc n = omega arith in subst (λ j. sum_below f i ≤ sum_below f j) same (omega arith)
      | inr h ↦ let rest = no_fewer f i n h in omega (arith, rest)
    ]

pub one_counted : (f : ℕ → ℕ) (m i n : ℕ) → i < n → f i ≡ m
    → sum_below (λ j. one_if (nat_eq (f j) m)) i + 1 ≤ sum_below (λ j. one_if (nat_eq (f j) m)) n
one_counted f m i n l is =
    let here : one_if (nat_eq (f i) m) ≡ 1 = ap one_if (eq-eqb (f i) m is) in
    let more = no_fewer (λ j. one_if (nat_eq (f j) m)) (suc i) n (omega arith) in
    omega (arith, here, more)
