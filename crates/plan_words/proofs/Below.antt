-- What is computed of the numbers below a number, where only some rising numbers count.
use Rattle.std.proofs.Common.{◌≡◌, ◌≢◌, ℕ, zero, suc, ◌<◌, ◌⊎◌, inl, inr, Bool, true, false, ◌||◌, Option, Some, None, option_map, refl, sym, subst, ap, ◌∙◌, arith}
use Rattle.std.specs.Option.{option_or}
use Rattle.plan_types.specs.Below.{first_below, any_below, sum_below}
use Rattle.plan_types.proofs.lemmas.Below.{below_next}
use Rattle.plan_rules.proofs.lemmas.Puts.{same_or_not}

pub record Rising (o : ℕ → ℕ) (k n : ℕ) : Type 0 where
  pub rises : (i j : ℕ) → i < j → j < k → o i < o j
  pub below : (i : ℕ) → i < k → o i < n

-- none of the first k is z
abbrev pub Misses : (ℕ → ℕ) → ℕ → ℕ → Type 0
Misses o k z = (i : ℕ) → i < k → o i ≢ z

-- the last number below the bound is the last of those that count, or isn't one of them
pub data Last (o : ℕ → ℕ) (n : ℕ) (k : ℕ) : Type 0 where
  Is : (j : ℕ) → k ≡ suc j → o j ≡ n → Rising o j n → Last o n k
  Isnt : Misses o k n → Rising o k n → Last o n k

last_at : (o : ℕ → ℕ) (k n : ℕ) → Rising o (suc k) (suc n) → (o k ≡ n) ⊎ (o k ≢ n) → Last o n (suc k)
last_at o k n r (inl e) =
    Is k refl e (record {
      rises = λ i j l m. r.rises i j l (omega arith);
      below = λ i l. let h = r.rises i k l (omega arith) in omega (arith, h, e);
    })
last_at o k n r (inr ne) =
    let top = r.below k (omega arith) in
    let under : o k < n = omega (arith, top, ne) in
    let each : (i : ℕ) → i < suc k → o i < n = λ i l. elim (below_next i k l) [
      | inl h ↦ let x = r.rises i k h (omega arith) in omega (arith, x, under)
      | inr h ↦ subst (λ a. o a < n) (sym h) under
    ] in
    Isnt (λ i l e. let h = each i l in absurd (omega (arith, h, e))) (record { rises = r.rises; below = each })

pub last_of : (o : ℕ → ℕ) (k n : ℕ) → Rising o k (suc n) → Last o n k
last_of o zero n r = Isnt (λ i l. absurd (omega (arith, l))) (record { rises = r.rises; below = λ i l. absurd (omega (arith, l)) })
last_of o (suc k) n r = last_at o k n r (same_or_not (o k) n)

misses_more : (o : ℕ → ℕ) (k n z : ℕ) → o k ≡ n → z < n → Misses o k z → Misses o (suc k) z
misses_more o k n z e l miss i h = elim (below_next i k h) [
  | inl x ↦ miss i x
  | inr x ↦ λ same. let y = ap o x in absurd (omega (arith, l, y, same, e))
]

-- ---- sums, tests and first values: by the last of the numbers

abbrev pub SumsAlike : (ℕ → ℕ) → (ℕ → ℕ) → (ℕ → ℕ) → ℕ → ℕ → Type 0
SumsAlike f g o n k = Rising o k n → ((i : ℕ) → i < k → f (o i) ≡ g i) → ((z : ℕ) → z < n → Misses o k z → f z ≡ 0) → sum_below f n ≡ sum_below g k

sum_step : (f g : ℕ → ℕ) (o : ℕ → ℕ) (n k : ℕ) → ((j : ℕ) → SumsAlike f g o n j) → Last o n k → ((i : ℕ) → i < k → f (o i) ≡ g i)
    → ((z : ℕ) → z < suc n → Misses o k z → f z ≡ 0) → sum_below f (suc n) ≡ sum_below g k
sum_step f g o n k before (Isnt miss r) same none =
    let rest = before k r same (λ z l. none z (omega arith)) in
    let here = none n (omega arith) miss in
    omega (arith, rest, here)
sum_step f g o n k before (Is j e at r) same none =
    let same_suc : (i : ℕ) → i < suc j → f (o i) ≡ g i = λ i l. same i (subst (λ a. i < a) (sym e) l) in
    let none_suc : (z : ℕ) → z < suc n → Misses o (suc j) z → f z ≡ 0 = λ z l miss. none z l (subst (λ a. Misses o a z) (sym e) miss) in
    let rest = before j r (λ i l. same_suc i (omega arith)) (λ z l miss. none_suc z (omega arith) (misses_more o j n z at l miss)) in
    let here = ap f (sym at) ∙ same_suc j (omega arith) in
    let both : sum_below f (suc n) ≡ sum_below g (suc j) = omega (arith, rest, here) in
    both ∙ ap (sum_below g) (sym e)

pub sums_alike : (f g : ℕ → ℕ) (o : ℕ → ℕ) (n k : ℕ) → SumsAlike f g o n k
sums_alike f g o zero zero r same none = refl
sums_alike f g o zero (suc k) r same none = let h = r.below k (omega arith) in absurd (omega (arith, h))
sums_alike f g o (suc n) k r same none = sum_step f g o n k (sums_alike f g o n) (last_of o k n r) same none

abbrev pub TestsAlike : (ℕ → Bool) → (ℕ → Bool) → (ℕ → ℕ) → ℕ → ℕ → Type 0
TestsAlike f g o n k = Rising o k n → ((i : ℕ) → i < k → f (o i) ≡ g i) → ((z : ℕ) → z < n → Misses o k z → f z ≡ false) → any_below f n ≡ any_below g k

or_false : (a b c : Bool) → a ≡ c → b ≡ false → (a || b) ≡ c
or_false true b c e f = e
or_false false b c e f = f ∙ e

or_alike : (a b c d : Bool) → a ≡ c → b ≡ d → (a || b) ≡ (c || d)
or_alike a b c d e f = ap (λ x. x || b) e ∙ ap (λ x. c || x) f

test_step : (f g : ℕ → Bool) (o : ℕ → ℕ) (n k : ℕ) → ((j : ℕ) → TestsAlike f g o n j) → Last o n k → ((i : ℕ) → i < k → f (o i) ≡ g i)
    → ((z : ℕ) → z < suc n → Misses o k z → f z ≡ false) → any_below f (suc n) ≡ any_below g k
test_step f g o n k before (Isnt miss r) same none =
    or_false (any_below f n) (f n) (any_below g k) (before k r same (λ z l. none z (omega arith))) (none n (omega arith) miss)
test_step f g o n k before (Is j e at r) same none =
    let same_suc : (i : ℕ) → i < suc j → f (o i) ≡ g i = λ i l. same i (subst (λ a. i < a) (sym e) l) in
    let none_suc : (z : ℕ) → z < suc n → Misses o (suc j) z → f z ≡ false = λ z l miss. none z l (subst (λ a. Misses o a z) (sym e) miss) in
    let rest = before j r (λ i l. same_suc i (omega arith)) (λ z l miss. none_suc z (omega arith) (misses_more o j n z at l miss)) in
    let here = ap f (sym at) ∙ same_suc j (omega arith) in
    or_alike (any_below f n) (f n) (any_below g j) (g j) rest here ∙ ap (any_below g) (sym e)

pub tests_alike : (f g : ℕ → Bool) (o : ℕ → ℕ) (n k : ℕ) → TestsAlike f g o n k
tests_alike f g o zero zero r same none = refl
tests_alike f g o zero (suc k) r same none = let h = r.below k (omega arith) in absurd (omega (arith, h))
tests_alike f g o (suc n) k r same none = test_step f g o n k (tests_alike f g o n) (last_of o k n r) same none

-- values by the plan's numbers are those by the group's, renamed
abbrev pub FirstsAlike : {A : Type 0} → (A → A) → (ℕ → Option A) → (ℕ → Option A) → (ℕ → ℕ) → ℕ → ℕ → Type 0
FirstsAlike {A} h f g o n k =
    Rising o k n → ((i : ℕ) → i < k → f (o i) ≡ option_map h (g i)) → ((z : ℕ) → z < n → Misses o k z → f z ≡ None)
    → first_below f n ≡ option_map h (first_below g k)

or_none : {A : Type 0} (a b c : Option A) → a ≡ c → b ≡ None → option_or a b ≡ c
or_none None b c e f = f ∙ e
or_none (Some x) b c e f = e

pub map_or : {A : Type 0} (h : A → A) (a b c d : Option A) → a ≡ option_map h c → b ≡ option_map h d → option_or a b ≡ option_map h (option_or c d)
map_or h a b None d e f = ap (λ x. option_or x b) e ∙ f
map_or h a b (Some x) d e f = ap (λ y. option_or y b) e

first_step : {A : Type 0} (h : A → A) (f g : ℕ → Option A) (o : ℕ → ℕ) (n k : ℕ) → ((j : ℕ) → FirstsAlike h f g o n j) → Last o n k
    → ((i : ℕ) → i < k → f (o i) ≡ option_map h (g i)) → ((z : ℕ) → z < suc n → Misses o k z → f z ≡ None)
    → first_below f (suc n) ≡ option_map h (first_below g k)
first_step h f g o n k before (Isnt miss r) same none =
    or_none (first_below f n) (f n) (option_map h (first_below g k)) (before k r same (λ z l. none z (omega arith))) (none n (omega arith) miss)
first_step h f g o n k before (Is j e at r) same none =
    let same_suc : (i : ℕ) → i < suc j → f (o i) ≡ option_map h (g i) = λ i l. same i (subst (λ a. i < a) (sym e) l) in
    let none_suc : (z : ℕ) → z < suc n → Misses o (suc j) z → f z ≡ None = λ z l miss. none z l (subst (λ a. Misses o a z) (sym e) miss) in
    let rest = before j r (λ i l. same_suc i (omega arith)) (λ z l miss. none_suc z (omega arith) (misses_more o j n z at l miss)) in
    let here = ap f (sym at) ∙ same_suc j (omega arith) in
    map_or h (first_below f n) (f n) (first_below g j) (g j) rest here ∙ ap (λ a. option_map h (first_below g a)) (sym e)

pub firsts_alike : {A : Type 0} (h : A → A) (f g : ℕ → Option A) (o : ℕ → ℕ) (n k : ℕ) → FirstsAlike h f g o n k
firsts_alike h f g o zero zero r same none = refl
firsts_alike h f g o zero (suc k) r same none = let l = r.below k (omega arith) in absurd (omega (arith, l))
firsts_alike h f g o (suc n) k r same none = first_step h f g o n k (firsts_alike h f g o n) (last_of o k n r) same none
