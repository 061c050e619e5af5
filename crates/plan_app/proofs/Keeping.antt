-- Lists that grow by one item.
use Rattle.std.proofs.Common.{◌≡◌, ◌∙◌, ◌++◌, ◌∷◌, [], ℕ, zero, suc, List, Some, length, slice_get, ap, sym, subst}

-- what holds of each item holds with one more that it holds of
pub all_pushed : {X : Type 0} (P : ℕ → X → Type 0) (xs ys : List X) (x : X)
    → ((k : ℕ) (y : X) → slice_get xs k ≡ Some y → P k y) → P (length xs) x → ys ≡ xs ++ x ∷ []
    → (k : ℕ) (y : X) → slice_get ys k ≡ Some y → P k y
all_pushed {X = X} P xs ys x all last pushed k y is = at xs P k all last (sym (ap (λ zs. slice_get zs k) pushed) ∙ is)
  where
    at : (xs : List X) (P : ℕ → X → Type 0) (k : ℕ) → ((k : ℕ) (y : X) → slice_get xs k ≡ Some y → P k y) → P (length xs) x → slice_get (xs ++ x ∷ []) k ≡ Some y → P k y
    at [] P zero all last is = let same : x ≡ y = cc in subst (P 0) same last
    at [] P (suc k) all last is = cc
    at (z ∷ xs) P zero all last is = all 0 y is
    at (z ∷ xs) P (suc k) all last is = at xs (λ n. P (suc n)) k (λ n y is. all (suc n) y is) last is
