-- Members of a list, by recursion on it.
use Rattle.std.proofs.Common.{◌≡◌, ℕ, zero, suc, ◌<◌, length, get_or, Bool, true, cond, ◌⊎◌, inl, inr, List, [], ◌∷◌, ◌++◌, filter, Contains, sym, ap, ◌∙◌, arith}
use Rattle.std.specs.List.Sorted.{IsPermutation}
use Rattle.std.proofs.lemmas.Bool.{cond_both}
use Rattle.std.proofs.lemmas.List.Elements.{Contains-get_or}
use Rattle.std.proofs.lemmas.List.Sorted.{Contains-permutation, IsPermutation-sym}

abbrev pub In : {X : Type 0} → X → List X → Type 0
In z [] = ⊥
In z (x ∷ xs) = (x ≡ z) ⊎ In z xs

pub in_from_contains : {X : Type 0} (xs : List X) (z : X) → Contains xs z → In z xs
in_from_contains [] z (k, l, e) = absurd (omega arith)
in_from_contains (x ∷ xs) z (zero, l, e) = inl e
in_from_contains (x ∷ xs) z (suc k, l, e) = inr (in_from_contains xs z (k, omega arith, e))

pub contains_from_in : {X : Type 0} (xs : List X) (z : X) → In z xs → Contains xs z
contains_from_in [] z h = absurd h
contains_from_in (x ∷ xs) z (inl e) = (0, omega arith, e)
contains_from_in (x ∷ xs) z (inr h) = let c = contains_from_in xs z h in (suc c.0, omega (arith, c.1), c.2)

pub in_at : {X : Type 0} (xs : List X) (k : ℕ) (d : X) → k < length xs → In (get_or xs k d) xs
in_at xs k d h = in_from_contains xs (get_or xs k d) (Contains-get_or xs k d h)

pub in_permutation : {X : Type 0} (xs ys : List X) (z : X) → IsPermutation xs ys → In z xs → In z ys
in_permutation xs ys z p h = in_from_contains ys z (Contains-permutation xs ys z p (contains_from_in xs z h))

pub in_permutation_back : {X : Type 0} (xs ys : List X) (z : X) → IsPermutation xs ys → In z ys → In z xs
in_permutation_back xs ys z p h = in_permutation ys xs z (IsPermutation-sym xs ys p) h

pub in_append_left : {X : Type 0} (xs ys : List X) (z : X) → In z xs → In z (xs ++ ys)
in_append_left [] ys z h = absurd h
in_append_left (x ∷ xs) ys z (inl e) = inl e
in_append_left (x ∷ xs) ys z (inr h) = inr (in_append_left xs ys z h)

pub in_append_right : {X : Type 0} (xs ys : List X) (z : X) → In z ys → In z (xs ++ ys)
in_append_right [] ys z h = h
in_append_right (x ∷ xs) ys z h = inr (in_append_right xs ys z h)

pub in_append_cases : {X : Type 0} (xs ys : List X) (z : X) → In z (xs ++ ys) → In z xs ⊎ In z ys
in_append_cases [] ys z h = inr h
in_append_cases (x ∷ xs) ys z (inl e) = inl (inl e)
in_append_cases (x ∷ xs) ys z (inr h) = elim (in_append_cases xs ys z h) [ inl k ↦ inl (inr k) | inr k ↦ inr k ]

pub in_append_all : {X : Type 0} (P : X → Type 0) (xs ys : List X) → ((z : X) → In z xs → P z) → ((z : X) → In z ys → P z) → (z : X) → In z (xs ++ ys) → P z
in_append_all P xs ys f g z h = elim (in_append_cases xs ys z h) [ inl k ↦ f z k | inr k ↦ g z k ]

pub in_kept : {X : Type 0} (b : Bool) (x z : X) (ys : List X) → In z ys → In z (cond b (x ∷ ys) ys)
in_kept b x z ys h = cond_both b (x ∷ ys) ys (In z) (λ _. inr h) (λ _. h)

pub in_filter : {X : Type 0} (p : X → Bool) (xs : List X) (z : X) → In z xs → p z ≡ true → In z (filter p xs)
in_filter p [] z h e = absurd h
in_filter p (x ∷ xs) z (inl s) e = rw (ap p s ∙ e) (inl s)
in_filter p (x ∷ xs) z (inr h) e = in_kept (p x) x z (filter p xs) (in_filter p xs z h e)

pub from_filter : {X : Type 0} (p : X → Bool) (xs : List X) (z : X) → In z (filter p xs) → In z xs × (p z ≡ true)
from_filter p [] z h = absurd h
from_filter p (x ∷ xs) z h =
    let later : In z (filter p xs) → In z (x ∷ xs) × (p z ≡ true) = λ k. let r = from_filter p xs z k in (inr r.0, r.1) in
    cond_both (p x) (x ∷ filter p xs) (filter p xs) (λ l. In z l → In z (x ∷ xs) × (p z ≡ true)) (λ e i. elim i [ inl q ↦ (inl q, ap p (sym q) ∙ e) | inr k ↦ later k ]) (λ _. later) h
