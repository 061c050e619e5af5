-- Lists of the numbers of a range: one number more, after those so far; and pieces, one for each number.
use Rattle.std.proofs.Common.{◌≡◌, ◌<◌, ◌≤◌, ℕ, ◌+◌, ◌-◌, suc, zero, inl, inr, List, [], ◌∷◌, ◌++◌, flat_map, get_or, length, map}
use Rattle.std.proofs.Common.{sym, ap, subst, ◌∙◌, arith}
use Rattle.std.specs.List.{range_with_len}
use Rattle.std.proofs.lemmas.Bool.{cases_lt}
use Rattle.std.proofs.lemmas.List.{append_assoc, get_or-append_right, get_or_append_left, length-append}
use Rattle.plan_types.specs.Below.{sum_below}
use Rattle.plan_rules.proofs.lemmas.Below.{sum_below_more}
use Rattle.plan_picture.proofs.lemmas.Counting.{no_fewer}

range_more : {X : Type 0} (f : ℕ → X) (a n j : ℕ) → a + n ≡ j
    → map f (range_with_len a (suc n)) ≡ map f (range_with_len a n) ++ f j ∷ []
range_more f a zero j e = let same : a ≡ j = omega (arith, e) in ap (λ k. f k ∷ []) same
range_more f a (suc n) j e =
    let later : a + 1 + n ≡ j = omega (arith, e) in ap (λ l. f a ∷ l) (range_more f (a + 1) n j later)

pub mapped_more : {X : Type 0} (f : ℕ → X) (old before new : List X) (n : ℕ) → before ≡ old ++ map f (range_with_len 0 n)
    → new ≡ before ++ f n ∷ [] → new ≡ old ++ map f (range_with_len 0 (n + 1))
mapped_more f old before new n so_far next =
    let at : 0 + n ≡ n = omega arith in
    let one : suc n ≡ n + 1 = omega arith in
    let all : new ≡ old ++ map f (range_with_len 0 (suc n)) =
    next ∙ ap (λ l. l ++ f n ∷ []) so_far ∙ append_assoc old (map f (range_with_len 0 n)) (f n ∷ [])
    ∙ ap (λ l. old ++ l) (sym (range_more f 0 n n at)) in
    subst (λ k. new ≡ old ++ map f (range_with_len 0 k)) one all

-- pieces are as long together as each by itself
each_length_from : {X : Type 0} (f : ℕ → List X) (g : ℕ → ℕ) → ((k : ℕ) → length (f k) ≡ g k) → (a n : ℕ)
    → length (flat_map f (range_with_len a n)) + sum_below g a ≡ sum_below g (a + n)
each_length_from f g each a zero =
    let same : a + zero ≡ a = omega arith in let sums = ap (sum_below g) same in omega (arith, sums)
each_length_from f g each a (suc n) =
    let here = length-append (f a) (flat_map f (range_with_len (a + 1) n)) in
    let one = each a in
    let later = each_length_from f g each (a + 1) n in
    let next = sum_below_more g a in
    let plus : a + 1 + n ≡ a + suc n = omega arith in
    let end = ap (sum_below g) plus in
    omega (arith, here, one, later, next, end)

pub each_length : {X : Type 0} (f : ℕ → List X) (g : ℕ → ℕ) → ((k : ℕ) → length (f k) ≡ g k) → (n : ℕ)
    → length (flat_map f (range_with_len 0 n)) ≡ sum_below g n
each_length f g each n =
    let all = each_length_from f g each 0 n in
    let plus : 0 + n ≡ n = omega arith in
    let end = ap (sum_below g) plus in
    omega (arith, all, end)

-- an item of the piece of k stands after the pieces before it
in_piece_from : {X : Type 0} (f : ℕ → List X) (g : ℕ → ℕ) (d : X) → ((k : ℕ) → length (f k) ≡ g k) → (a n k i j : ℕ)
    → a ≤ k → k < a + n → j < g k → i + sum_below g a ≡ sum_below g k + j
    → get_or (flat_map f (range_with_len a n)) i d ≡ get_or (f k) j d
in_piece_from f g d each a zero k i j low high l e = absurd (omega (arith, low, high))
in_piece_from f g d each a (suc n) k i j low high l e =
    let rest = flat_map f (range_with_len (a + 1) n) in
    elim (cases_lt a k) [
      | inl less ↦
          let one = each a in
          let next = sum_below_more g a in
          let more = no_fewer g (a + 1) k (omega (arith, less)) in
          get_or-append_right (f a) rest (g a) i d one (omega (arith, next, more, e))
          ∙ in_piece_from f g d each (a + 1) n k (i - g a) j (omega (arith, less)) (omega (arith, high)) l
          (omega (arith, next, more, e))
      | inr more ↦
          let same : k ≡ a = omega (arith, low, more) in
          let sums = ap (sum_below g) same in
          let at : i ≡ j = omega (arith, sums, e) in
          let short : j < length (f a) =
          subst (λ m. j < length (f m)) same (subst (λ m. j < m) (sym (each k)) l) in
          ap (λ m. get_or (f a ++ rest) m d) at ∙ get_or_append_left (f a) rest d j short
          ∙ ap (λ m. get_or (f m) j d) (sym same)
    ]

pub in_piece : {X : Type 0} (f : ℕ → List X) (g : ℕ → ℕ) (d : X) → ((k : ℕ) → length (f k) ≡ g k) → (n k j : ℕ) → k < n
    → j < g k → get_or (flat_map f (range_with_len 0 n)) (sum_below g k + j) d ≡ get_or (f k) j d
in_piece f g d each n k j below l =
    in_piece_from f g d each 0 n k (sum_below g k + j) j (omega arith) (omega (arith, below)) l (omega arith)
