-- Entries in their order, by recursion.
use Rattle.cell_report.proofs.Names.{◌≡◌, ◌++◌, ℕ, zero, suc, ◌≤◌, true, false, inl, inr, List, [], ◌∷◌, get_or, map, filter, refl, ap, subst, arith, ⊤, IsNonDecreasingBy, cond_both, map-append, filter-append, Answer, Done, Shown, Refused, is_done_answer, Noted, key_at, rank, is_done_noted, stamp_of, done_stamps, In, in_at, contains_from_in, in_filter, from_filter}

-- each element's key is not above those after it
abbrev pub RisesBy : {X : Type 0} → (X → ℕ) → List X → Type 0
RisesBy key [] = ⊤
RisesBy {X} key (x ∷ xs) = ((z : X) → In z xs → key x ≤ key z) × RisesBy key xs

abbrev pub Rises : List Noted → Type 0
Rises xs = RisesBy key_at xs

abbrev pub Ups : List ℕ → Type 0
Ups xs = RisesBy (λ n. n) xs

pub rises_from : {X : Type 0} (key : X → ℕ) (xs : List X) → IsNonDecreasingBy key xs → RisesBy key xs
rises_from key [] up = tt
rises_from key (x ∷ xs) up = (
  λ z h.
      let c = contains_from_in xs z h in
      let le : key x ≤ key (get_or xs c.0 z) = up 0 (suc c.0) z (omega arith) (omega (arith, c.1)) in
      subst (λ w. key x ≤ key w) c.2 le,
  rises_from key xs (λ i j d h k. up (suc i) (suc j) d (omega (arith, h)) (omega (arith, k))),
)

pub from_rises : {X : Type 0} (key : X → ℕ) (xs : List X) → RisesBy key xs → IsNonDecreasingBy key xs
from_rises key [] u i j d h k = absurd (omega (arith, k))
from_rises key (x ∷ xs) u zero zero d h k = omega arith
from_rises key (x ∷ xs) u zero (suc j) d h k = u.0 (get_or xs j d) (in_at xs j d (omega (arith, k)))
from_rises key (x ∷ xs) u (suc i) zero d h k = absurd (omega (arith, h))
from_rises key (x ∷ xs) u (suc i) (suc j) d h k = from_rises key xs u.1 i j d (omega (arith, h)) (omega (arith, k))

pub done_rank : (a : Answer) → is_done_answer a ≡ true → rank a ≡ 0
done_rank Done e = refl
done_rank (Shown _ _ _) e = cc
done_rank (Refused _) e = cc

pub other_rank : (a : Answer) → is_done_answer a ≡ false → rank a ≡ 1
other_rank Done e = cc
other_rank (Shown _ _ _) e = refl
other_rank (Refused _) e = refl

pub in_map : {X Y : Type 0} (f : X → Y) (xs : List X) (z : Y) → In z (map f xs) → (y : X) × In y xs × (f y ≡ z)
in_map f [] z h = absurd h
in_map f (x ∷ xs) z (inl e) = (x, inl refl, e)
in_map f (x ∷ xs) z (inr h) = let y = in_map f xs z h in (y.0, inr y.1, y.2)

pub map_in : {X : Type 0} (f : X → ℕ) (xs : List X) (y : X) → In y xs → In (f y) (map f xs)
map_in f [] y h = absurd h
map_in f (x ∷ xs) y (inl e) = inl (ap f e)
map_in f (x ∷ xs) y (inr h) = inr (map_in f xs y h)

pub from_done : (xs : List Noted) (z : ℕ) → In z (done_stamps xs) → (y : Noted) × In y xs × (is_done_noted y ≡ true) × (y.entry.stamp ≡ z)
from_done xs z h =
    let y = in_map stamp_of (filter is_done_noted xs) z h in
    let k = from_filter is_done_noted xs y.0 y.1 in
    (y.0, k.0, k.1, y.2)

pub to_done : (xs : List Noted) (y : Noted) → In y xs → is_done_noted y ≡ true → In y.entry.stamp (done_stamps xs)
to_done xs y h e = map_in stamp_of (filter is_done_noted xs) y (in_filter is_done_noted xs y h e)

pub done_stamps-append : (a b : List Noted) → done_stamps (a ++ b) ≡ done_stamps a ++ done_stamps b
done_stamps-append a b = simp (filter-append, map-append)

pub done_ups : (xs : List Noted) → Rises xs → Ups (done_stamps xs)
done_ups [] r = tt
done_ups (x ∷ xs) r =
    let ys = filter is_done_noted xs in
    let up = done_ups xs r.1 in
    cond_both (is_done_noted x) (x ∷ ys) ys (λ l. Ups (map stamp_of l))
    (λ e. (λ z h. let y = from_done xs z h in omega (arith, r.0 y.0 y.1, done_rank x.entry.answer e, done_rank y.0.entry.answer y.2, y.3), up)) (λ _. up)
