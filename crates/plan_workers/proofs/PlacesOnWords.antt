-- Places in a list, and in what is left of it: as in a whole program, and in a word's.
use Rattle.std.proofs.Common.{◌≡◌, ℕ, zero, suc, ◌+◌, ◌<◌, ◌≤◌, nat_lt, Bool, true, false, if◌then◌else◌, List, [], ◌∷◌, length, take, Option, Some, None, refl, sym, ap, ◌∙◌, arith, inl, inr}
use Rattle.std.specs.List.{filter_map, cons_option, slice_get}
use Rattle.std.proofs.lemmas.Bool.{cases_lt}
use Rattle.std.proofs.lemmas.List.{take_all}
use Rattle.std.proofs.lemmas.Option.{slice_get_within}

-- the place after a place in a list of this length, round and round
abbrev pub next : ℕ → ℕ → ℕ
next n p = if nat_lt (p + 1) n then p + 1 else 0

abbrev none_before : ℕ
none_before = 0

one_more : (p : ℕ) → p + 1 ≡ suc p
one_more p = omega arith

-- ---- a place that wraps

lt_test : (m n : ℕ) → m < n → nat_lt m n ≡ true
lt_test m n low = grind arith

not_lt_test : (m n : ℕ) → n ≤ m → nat_lt m n ≡ false
not_lt_test m n high = grind arith

within : (k n : ℕ) → k < n → (if nat_lt k n then k else 0) ≡ k
within k n low = ap (λ (b : Bool). if b then k else 0) (lt_test k n low)

at_end : (k n : ℕ) → n ≤ k → (if nat_lt k n then k else 0) ≡ 0
at_end k n high = ap (λ (b : Bool). if b then k else 0) (not_lt_test k n high)

at_first : (n : ℕ) → (if nat_lt 0 n then 0 else 0) ≡ none_before
at_first n = by (nat_lt 0 n)
  where
    by : (b : Bool) → (if b then 0 else 0) ≡ none_before
    by true = refl
    by false = refl

module _ {X Y : Type 0} (h : X → Option Y) where
  -- how many before a place are left, and their place
  abbrev pub count : List X → ℕ → ℕ
  count xs p = length (filter_map h (take p xs))

  abbrev pub place : List X → ℕ → ℕ
  place xs p = if nat_lt (count xs p) (length (filter_map h xs)) then count xs p else 0

  -- ---- a first element, which is left or isn't

  past : (o : Option Y) (ys zs : List Y) (y : Y) → slice_get ys (length zs) ≡ Some y → slice_get (cons_option o ys) (length (cons_option o zs)) ≡ Some y
  past None ys zs y e = e
  past (Some z) ys zs y e = e

  first : (o : Option Y) (y : Y) (ys : List Y) → o ≡ Some y → slice_get (cons_option o ys) 0 ≡ Some y
  first None y ys e = cc
  first (Some z) y ys e = e

  length_some : (o : Option Y) (y : Y) (ys : List Y) → o ≡ Some y → length (cons_option o ys) ≡ length ys + 1
  length_some None y ys e = cc
  length_some (Some z) y ys e = omega arith

  length_none : (o : Option Y) (ys : List Y) → o ≡ None → length (cons_option o ys) ≡ length ys
  length_none None ys e = refl
  length_none (Some z) ys e = cc

  length_same : (o : Option Y) (ys zs : List Y) → length ys ≡ length zs → length (cons_option o ys) ≡ length (cons_option o zs)
  length_same None ys zs e = e
  length_same (Some z) ys zs e = ap suc e

  length_next : (o : Option Y) (ys zs : List Y) → length ys ≡ length zs + 1 → length (cons_option o ys) ≡ length (cons_option o zs) + 1
  length_next None ys zs e = e
  length_next (Some z) ys zs e = omega (arith, e)

  -- ---- an element that is left is at its place, and past it there is one more; past another one there are as many

  here : (xs : List X) (p : ℕ) (x : X) (y : Y) → slice_get xs p ≡ Some x → h x ≡ Some y → slice_get (filter_map h xs) (count xs p) ≡ Some y
  here [] p x y at is = cc
  here (z ∷ xs) zero x y at is =
      let same : z ≡ x = grind arith in
      first (h z) y (filter_map h xs) (ap h same ∙ is)
  here (z ∷ xs) (suc p) x y at is = past (h z) (filter_map h xs) (filter_map h (take p xs)) y (here xs p x y at is)

  more_here : (xs : List X) (p : ℕ) (x : X) (y : Y) → slice_get xs p ≡ Some x → h x ≡ Some y → count xs (suc p) ≡ count xs p + 1
  more_here [] p x y at is = cc
  more_here (z ∷ xs) zero x y at is =
      let same : z ≡ x = grind arith in
      length_some (h z) y [] (ap h same ∙ is)
  more_here (z ∷ xs) (suc p) x y at is = length_next (h z) (filter_map h (take (suc p) xs)) (filter_map h (take p xs)) (more_here xs p x y at is)

  more_not : (xs : List X) (p : ℕ) (x : X) → slice_get xs p ≡ Some x → h x ≡ None → count xs (suc p) ≡ count xs p
  more_not [] p x at is = cc
  more_not (z ∷ xs) zero x at is =
      let same : z ≡ x = grind arith in
      length_none (h z) [] (ap h same ∙ is)
  more_not (z ∷ xs) (suc p) x at is = length_same (h z) (filter_map h (take (suc p) xs)) (filter_map h (take p xs)) (more_not xs p x at is)

  all : (xs : List X) (n : ℕ) → length xs ≤ n → count xs n ≡ length (filter_map h xs)
  all xs n le = ap (λ ys. length (filter_map h ys)) (take_all n xs le)

  fewer : (xs : List X) (p : ℕ) (x : X) (y : Y) → slice_get xs p ≡ Some x → h x ≡ Some y → count xs p < length (filter_map h xs)
  fewer xs p x y at is = slice_get_within (filter_map h xs) (count xs p) y (here xs p x y at is)

  placed : (xs : List X) (p : ℕ) (x : X) (y : Y) → slice_get xs p ≡ Some x → h x ≡ Some y → place xs p ≡ count xs p
  placed xs p x y at is = within (count xs p) (length (filter_map h xs)) (fewer xs p x y at is)

  pub stands : (xs : List X) (p : ℕ) (x : X) (y : Y) → slice_get xs p ≡ Some x → h x ≡ Some y → slice_get (filter_map h xs) (place xs p) ≡ Some y
  stands xs p x y at is = ap (slice_get (filter_map h xs)) (placed xs p x y at is) ∙ here xs p x y at is

  pub goes_round : (xs : List X) → place xs 0 ≡ 0
  goes_round xs = at_first (length (filter_map h xs))

  pub next_here : (xs : List X) (p : ℕ) (x : X) (y : Y) → slice_get xs p ≡ Some x → h x ≡ Some y → place xs (next (length xs) p) ≡ next (length (filter_map h xs)) (place xs p)
  next_here xs p x y at is =
      let n = length (filter_map h xs) in
      let more : count xs (p + 1) ≡ count xs p + 1 = ap (count xs) (one_more p) ∙ more_here xs p x y at is in
      let on : next n (count xs p) ≡ next n (place xs p) = ap (next n) (sym (placed xs p x y at is)) in
      elim (cases_lt (p + 1) (length xs)) [
        | inl low ↦ ap (place xs) (within (p + 1) (length xs) low) ∙ (ap (λ k. if nat_lt k n then k else 0) more ∙ on)
        | inr high ↦
            let end : count xs (p + 1) ≡ n = all xs (p + 1) high in
            ap (place xs) (at_end (p + 1) (length xs) high) ∙ (goes_round xs ∙ (sym (at_end (count xs p + 1) n (omega (arith, end, more))) ∙ on))
      ]

  pub next_not : (xs : List X) (p : ℕ) (x : X) → slice_get xs p ≡ Some x → h x ≡ None → place xs (next (length xs) p) ≡ place xs p
  next_not xs p x at is =
      let n = length (filter_map h xs) in
      let more : count xs (p + 1) ≡ count xs p = ap (count xs) (one_more p) ∙ more_not xs p x at is in
      elim (cases_lt (p + 1) (length xs)) [
        | inl low ↦ ap (place xs) (within (p + 1) (length xs) low) ∙ ap (λ k. if nat_lt k n then k else 0) more
        | inr high ↦
            let end : count xs (p + 1) ≡ n = all xs (p + 1) high in
            ap (place xs) (at_end (p + 1) (length xs) high) ∙ (goes_round xs ∙ sym (at_end (count xs p) n (omega (arith, end, more))))
      ]
