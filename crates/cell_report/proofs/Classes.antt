-- Two rising lists that have the same entries of each key in the same order are the same.
use Rattle.cell_report.proofs.Names.{◌≡◌, ◌≤◌, Bool, true, false, cond, inl, inr, List, [], ◌∷◌, filter, refl, sym, ap, ◌∙◌, subst, arith, ties, cases_Bool, cond_both, nat_tests, Noted, key_at, In, in_filter, from_filter}
use Rattle.std.specs.Ordering.{nat_cmp, is_lt}
use Rattle.cell_report.proofs.Rising.{Rises}

abbrev pub is_below : Noted → Noted → Bool
is_below x y = is_lt (nat_cmp (key_at x) (key_at y))

abbrev pub ties_with : Noted → Noted → Bool
ties_with x y = ties is_below x y

pub ties_same : (x y : Noted) → key_at x ≡ key_at y → ties_with x y ≡ true
ties_same x y e = grind (arith, nat_tests)

pub filter_swap : {X : Type 0} (p q : X → Bool) (xs : List X) → filter p (filter q xs) ≡ filter q (filter p xs)
filter_swap p q [] = refl
filter_swap p q (x ∷ xs) = elim (cases_Bool (p x)) [
  | inl e ↦ elim (cases_Bool (q x)) [ inl f ↦ rw (e, f, e) (ap (λ l. x ∷ l) (filter_swap p q xs)) | inr f ↦ rw (e, f) (filter_swap p q xs) ]
  | inr e ↦ elim (cases_Bool (q x)) [ inl f ↦ rw (f, e) (filter_swap p q xs) | inr f ↦ rw (e, f) (filter_swap p q xs) ]
]

pub rises_filter : (p : Noted → Bool) (xs : List Noted) → Rises xs → Rises (filter p xs)
rises_filter p [] r = tt
rises_filter p (x ∷ xs) r =
    let rest = rises_filter p xs r.1 in
    cond_both (p x) (x ∷ filter p xs) (filter p xs) Rises (λ _. (λ z h. r.0 z (from_filter p xs z h).0, rest)) (λ _. rest)

first_of_two : (x : Noted) (xs : List Noted) (z : Noted) → Rises (x ∷ xs) → In z (x ∷ xs) → key_at x ≤ key_at z
first_of_two x xs z r (inl e) = let p = ap key_at e in omega (arith, p)
first_of_two x xs z r (inr h) = r.0 z h

kept_head : (p : Noted → Bool) (x : Noted) (xs : List Noted) → p x ≡ true → filter p (x ∷ xs) ≡ x ∷ filter p xs
kept_head p x xs e = rw e refl

tails_by : (b : Bool) (x : Noted) (ys zs : List Noted) → cond b (x ∷ ys) ys ≡ cond b (x ∷ zs) zs → ys ≡ zs
tails_by true x ys zs e = cc
tails_by false x ys zs e = e

pub same_classes : (xs ys : List Noted) → Rises xs → Rises ys → ((z : Noted) → filter (ties_with z) xs ≡ filter (ties_with z) ys) → xs ≡ ys
same_classes [] [] a b f = refl
same_classes [] (y ∷ ys) a b f = let bad = f y ∙ kept_head (ties_with y) y ys (ties_same y y refl) in cc
same_classes (x ∷ xs) [] a b f = let bad = sym (f x) ∙ kept_head (ties_with x) x xs (ties_same x x refl) in cc
same_classes (x ∷ xs) (y ∷ ys) a b f =
    let x_in = (from_filter (ties_with x) (y ∷ ys) x (subst (In x) (f x) (in_filter (ties_with x) (x ∷ xs) x (inl refl) (ties_same x x refl)))).0 in
    let y_in = (from_filter (ties_with y) (x ∷ xs) y (subst (In y) (sym (f y)) (in_filter (ties_with y) (y ∷ ys) y (inl refl) (ties_same y y refl)))).0 in
    let keys : key_at x ≡ key_at y = omega (arith, first_of_two y ys x b x_in, first_of_two x xs y a y_in) in
    let heads : x ∷ filter (ties_with x) xs ≡ y ∷ filter (ties_with x) ys = sym (kept_head (ties_with x) x xs (ties_same x x refl)) ∙ f x ∙ kept_head (ties_with x) y ys (ties_same x y keys) in
    let same : x ≡ y = cc in
    let g : (z : Noted) → filter (ties_with z) (x ∷ xs) ≡ filter (ties_with z) (x ∷ ys) = λ z. subst (λ w. filter (ties_with z) (x ∷ xs) ≡ filter (ties_with z) (w ∷ ys)) (sym same) (f z) in
    let rest : xs ≡ ys = same_classes xs ys a.1 b.1 (λ z. tails_by (ties_with z x) x (filter (ties_with z) xs) (filter (ties_with z) ys) (g z)) in
    cc
