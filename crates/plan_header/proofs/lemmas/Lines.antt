-- One line more, after those so far.
use Rattle.std.proofs.Common.{◌≡◌, ◌<◌, ℕ, ◌+◌, suc, zero, List, [], ◌++◌, flat_map, get_or, length, take, sym, ap, subst, ◌∙◌, arith}
use Rattle.std.proofs.Common.{Result, Ok, Err, OnOk}
use Rattle.std.specs.List.{range_with_len}
use Rattle.std.proofs.lemmas.List.{append_assoc, append-nil, flat_map_more, take_more}

from_more : (f : ℕ → List ℕ) (a n j : ℕ) → a + n ≡ j
    → flat_map f (range_with_len a (suc n)) ≡ flat_map f (range_with_len a n) ++ f j
from_more f a zero j e = let same : a ≡ j = omega (arith, e) in append-nil (f a) ∙ ap f same
from_more f a (suc n) j e =
    let later : a + 1 + n ≡ j = omega (arith, e) in
    ap (λ l. f a ++ l) (from_more f (a + 1) n j later)
    ∙ sym (append_assoc (f a) (flat_map f (range_with_len (a + 1) n)) (f j))

pub one_more : (f : ℕ → List ℕ) (old before new : List ℕ) (n : ℕ) → before ≡ old ++ flat_map f (range_with_len 0 n)
    → new ≡ before ++ f n → new ≡ old ++ flat_map f (range_with_len 0 (n + 1))
one_more f old before new n so_far next =
    let at : 0 + n ≡ n = omega arith in
    let one : suc n ≡ n + 1 = omega arith in
    let all : new ≡ old ++ flat_map f (range_with_len 0 (suc n)) =
    next ∙ ap (λ l. l ++ f n) so_far ∙ append_assoc old (flat_map f (range_with_len 0 n)) (f n)
    ∙ ap (λ l. old ++ l) (sym (from_more f 0 n n at)) in
    subst (λ k. new ≡ old ++ flat_map f (range_with_len 0 k)) one all

-- three parts, one after the other
pub three_parts : {X E : Type 0} (r : Result X E) (old one two all a b c : List ℕ) → one ≡ old ++ a → two ≡ one ++ b
    → OnOk r (all ≡ two ++ c) → OnOk r (all ≡ old ++ (a ++ (b ++ c)))
three_parts (Err e) old one two all a b c first second third = tt
three_parts (Ok x) old one two all a b c first second third =
    third ∙ ap (λ l. l ++ c) (second ∙ ap (λ l. l ++ b) first) ∙ append_assoc (old ++ a) b c
    ∙ append_assoc old a (b ++ c)

-- one item more of a list
pub item_more : {X : Type 0} (f : X → List ℕ) (xs : List X) (i : ℕ) (d : X) (old before new : List ℕ) → i < length xs
    → before ≡ old ++ flat_map f (take i xs) → new ≡ before ++ f (get_or xs i d)
    → new ≡ old ++ flat_map f (take (i + 1) xs)
item_more f xs i d old before new h so_far next =
    let x = get_or xs i d in
    next ∙ ap (λ l. l ++ f x) so_far ∙ append_assoc old (flat_map f (take i xs)) (f x)
    ∙ ap (λ l. old ++ l) (flat_map_more f [] (take i xs) x ∙ sym (ap (flat_map f) (take_more xs i d h)))
