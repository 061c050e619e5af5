-- Sums over the positions.
use Rattle.cell_ring.proofs.Names.{◌≡◌, ℕ, ◌+◌, ◌*◌, ◌≤◌, Bool, true, false, cond, List, [], ◌∷◌, refl, ap, sym, ◌∙◌, arith, sum_by, count_by, sum_by-cons, filter, one_if}
use Rattle.cell_ring.specs.Lap.{Position, FeedEntry, all_positions, same_position}

pub bit : (b : Bool) → cond b 1 0 ≡ one_if b
bit true = refl
bit false = refl

pub sum_plus : {X : Type 0} (f g : X → ℕ) → (xs : List X) → sum_by (λ x. f x + g x) xs ≡ sum_by f xs + sum_by g xs
sum_plus f g [] = refl
sum_plus {X = X} f g (x ∷ xs) =
    let h = λ (y : X). f y + g y in
    omega (arith, sum_by-cons h x xs, sum_by-cons f x xs, sum_by-cons g x xs, sum_plus f g xs)

pub sum_le : {X : Type 0} (f g : X → ℕ) → ((x : X) → f x ≤ g x) → (xs : List X) → sum_by f xs ≤ sum_by g xs
sum_le f g less [] = omega arith
sum_le f g less (x ∷ xs) = omega (arith, sum_by-cons f x xs, sum_by-cons g x xs, less x, sum_le f g less xs)

pub sum_same : {X : Type 0} (f g : X → ℕ) → ((x : X) → f x ≡ g x) → (xs : List X) → sum_by f xs ≡ sum_by g xs
sum_same f g same xs = λ i. sum_by (λ x. same x i) xs

-- a number counted for one position alone
pub sum_here : (p : Position) (n : ℕ) → sum_by (λ q. cond (same_position p q) n 0) all_positions ≡ n
sum_here FeedEntry n = omega arith
sum_here _ n = omega arith

-- the same number for each that passes a test
times_more : (b : Bool) (n k : ℕ) → cond b n 0 + k * n ≡ (cond b 1 0 + k) * n
times_more true n k = omega arith
times_more false n k = omega arith

pub sum_times : {X : Type 0} (P : X → Bool) (n : ℕ) → (xs : List X) → sum_by (λ x. cond (P x) n 0) xs ≡ count_by P xs * n
sum_times P n [] = omega arith
sum_times {X = X} P n (x ∷ xs) =
    sum_by-cons (λ (y : X). cond (P y) n 0) x xs ∙ ap (λ k. cond (P x) n 0 + k) (sum_times P n xs) ∙ times_more (P x) n (count_by P xs)
    ∙ ap (λ k. k * n) (sym (sum_by-cons (λ (y : X). cond (P y) 1 0) x xs))

filter_more : {X : Type 0} (b : Bool) (f : X → ℕ) (x : X) (xs : List X) → sum_by f (cond b (x ∷ xs) xs) ≡ cond b (f x) 0 + sum_by f xs
filter_more true f x xs = sum_by-cons f x xs
filter_more false f x xs = omega arith

pub sum_filter : {X : Type 0} (P : X → Bool) (f : X → ℕ) → (xs : List X) → sum_by f (filter P xs) ≡ sum_by (λ x. cond (P x) (f x) 0) xs
sum_filter P f [] = refl
sum_filter {X = X} P f (x ∷ xs) =
    filter_more (P x) f x (filter P xs) ∙ ap (λ k. cond (P x) (f x) 0 + k) (sum_filter P f xs)
    ∙ sym (sum_by-cons (λ (y : X). cond (P y) (f y) 0) x xs)

-- a test that one position passes: which one
pub some_counted : {X : Type 0} (P : X → Bool) (xs : List X) → count_by P xs ≡ 1 → (x : X) × (P x ≡ true)
some_counted P [] e = absurd (omega arith)
some_counted {X = X} P (x ∷ xs) e =
    let At : Bool → Type 0 = λ b. P x ≡ b → (y : X) × (P y ≡ true) in
    elim (P x) as At [
      | true ↦ λ t. (x, t)
      | false ↦ λ t. let more = sum_by-cons (λ (y : X). cond (P y) 1 0) x xs in some_counted P xs (omega (arith, more, ap {B = ℕ} (λ b. cond b 1 0) t, e))
    ] refl
