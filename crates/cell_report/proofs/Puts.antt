-- Entries that are put in the order one by one.
use Rattle.cell_report.proofs.Names.{◌≡◌, ◌<◌, ◌≤◌, nat_le, true, cond, inl, inr, List, [], ◌∷◌, ◌++◌, filter, refl, sym, ap, ◌∙◌, arith, IsPermutation, leb-true, leb-false, le-leb, lt-leb, cond-true, cond-false, cond_both, cases_Bool, nat_tests, IsPermutation-refl, IsPermutation-cons, IsPermutation-middle, IsPermutation-trans, Noted, InOrder, key_at, put, in_order, In, in_permutation_back}
use Rattle.cell_report.proofs.Rising.{Rises, from_rises}
use Rattle.cell_report.proofs.Classes.{ties_with}

put_same : (x : Noted) (ys : List Noted) → IsPermutation (x ∷ ys) (put x ys)
put_same x [] = IsPermutation-refl (x ∷ [])
put_same x (y ∷ ys) =
    cond_both (nat_le (key_at x) (key_at y)) (x ∷ y ∷ ys) (y ∷ put x ys) (IsPermutation (x ∷ y ∷ ys)) (λ _. IsPermutation-refl (x ∷ y ∷ ys))
    (λ _. IsPermutation-trans _ (y ∷ x ∷ ys) _ (IsPermutation-middle (x ∷ []) y ys) (IsPermutation-cons y _ _ (put_same x ys)))

same : (xs : List Noted) → IsPermutation xs (in_order xs)
same [] = IsPermutation-refl []
same (x ∷ xs) = IsPermutation-trans (x ∷ xs) (x ∷ in_order xs) (put x (in_order xs)) (IsPermutation-cons x xs (in_order xs) (same xs)) (put_same x (in_order xs))

above : (x y z : Noted) (ys : List Noted) → key_at y ≤ key_at x → ((w : Noted) → In w ys → key_at y ≤ key_at w) → In z (x ∷ ys) → key_at y ≤ key_at z
above x y z ys h f (inl e) = let p = ap key_at e in omega (arith, h, p)
above x y z ys h f (inr i) = f z i

put_rises : (x : Noted) (ys : List Noted) → Rises ys → Rises (put x ys)
put_rises x [] r = (λ z i. absurd i, tt)
put_rises x (y ∷ ys) r =
    cond_both (nat_le (key_at x) (key_at y)) (x ∷ y ∷ ys) (y ∷ put x ys) Rises
    (λ e. (λ z i. above y x z ys (leb-true (key_at x) (key_at y) e) (λ w k. omega (arith, leb-true (key_at x) (key_at y) e, r.0 w k)) i, r))
    (λ e. (λ z i. above x y z ys (omega (arith, leb-false (key_at x) (key_at y) e)) r.0 (in_permutation_back (x ∷ ys) (put x ys) z (put_same x ys) i), put_rises x ys r.1))

rises : (xs : List Noted) → Rises (in_order xs)
rises [] = tt
rises (x ∷ xs) = put_rises x (in_order xs) (rises xs)

ties_keys : (z x : Noted) → ties_with z x ≡ true → key_at z ≡ key_at x
ties_keys z x e = grind (arith, nat_tests)

put_stable : (z x : Noted) (ys : List Noted) → filter (ties_with z) (put x ys) ≡ filter (ties_with z) (x ∷ ys)
put_stable z x [] = refl
put_stable z x (y ∷ ys) =
    let p = ties_with z in
    let rest = put_stable z x ys in
    cond_both (nat_le (key_at x) (key_at y)) (x ∷ y ∷ ys) (y ∷ put x ys) (λ l. filter p l ≡ filter p (x ∷ y ∷ ys)) (λ _. refl)
    (λ b. elim (cases_Bool (p x)) [
      | inr c ↦ rw (rest, c) refl
      | inl c ↦ elim (cases_Bool (p y)) [
        | inr d ↦ rw (rest, d) refl
        | inl d ↦ absurd (omega (arith, leb-false (key_at x) (key_at y) b, sym (ties_keys z x c) ∙ ties_keys z y d))
      ]
    ])

stable : (z : Noted) (xs : List Noted) → filter (ties_with z) (in_order xs) ≡ filter (ties_with z) xs
stable z [] = refl
stable z (x ∷ xs) = put_stable z x (in_order xs) ∙ ap (λ l. cond (ties_with z x) (x ∷ l) l) (stable z xs)

pub in_order_is : (xs : List Noted) → InOrder xs (in_order xs)
in_order_is xs = record {
  same = same xs;
  rising = from_rises key_at (in_order xs) (rises xs);
  stable = λ z. stable z xs;
}

put_first : (x : Noted) (ys : List Noted) → ((z : Noted) → In z ys → key_at x ≤ key_at z) → put x ys ≡ x ∷ ys
put_first x [] f = refl
put_first x (y ∷ ys) f = cond-true _ _ _ (le-leb (key_at x) (key_at y) (f y (inl refl)))

-- the first of the least entries is the first in the order
pub first_in_order : (before after : List Noted) (x : Noted) → ((z : Noted) → In z before → key_at x < key_at z) → ((z : Noted) → In z after → key_at x ≤ key_at z) → in_order (before ++ x ∷ after) ≡ x ∷ in_order (before ++ after)
first_in_order [] after x f g = put_first x (in_order after) (λ z i. g z (in_permutation_back after (in_order after) z (same after) i))
first_in_order (y ∷ before) after x f g =
    ap (put y) (first_in_order before after x (λ z i. f z (inr i)) g)
    ∙ cond-false _ _ _ (lt-leb (key_at y) (key_at x) (f y (inl refl)))
