-- One more number's text, after those so far.
use Rattle.std.proofs.Common.{◌≡◌, ℕ, ◌+◌, suc, zero, List, ◌++◌, flat_map, sym, ap, subst, ◌∙◌, arith}
use Rattle.std.specs.List.{range_with_len}
use Rattle.std.proofs.lemmas.List.{append_assoc, append-nil}

from_more : (f : ℕ → List ℕ) (a n j : ℕ) → a + n ≡ j
    → flat_map f (range_with_len a (suc n)) ≡ flat_map f (range_with_len a n) ++ f j
from_more f a zero j e = let same : a ≡ j = omega (arith, e) in append-nil (f a) ∙ ap f same
from_more f a (suc n) j e =
    let later : a + 1 + n ≡ j = omega (arith, e) in
    ap (λ l. f a ++ l) (from_more f (a + 1) n j later)
    ∙ sym (append_assoc (f a) (flat_map f (range_with_len (a + 1) n)) (f j))

pub one_more : (f : ℕ → List ℕ) (old before new : List ℕ) (n : ℕ) → before ≡ old ++ flat_map f (range_with_len 0 n)
    → new ≡ before ++ f n → new ≡ old ++ flat_map f (range_with_len 0 (n + 1))
one_more f old before new n so_far next =
    let at : 0 + n ≡ n = omega arith in
    let one : suc n ≡ n + 1 = omega arith in
    let all : new ≡ old ++ flat_map f (range_with_len 0 (suc n)) =
    next ∙ ap (λ l. l ++ f n) so_far ∙ append_assoc old (flat_map f (range_with_len 0 n)) (f n)
    ∙ ap (λ l. old ++ l) (sym (from_more f 0 n n at)) in
    subst (λ k. new ≡ old ++ flat_map f (range_with_len 0 k)) one all
