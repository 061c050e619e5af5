-- Some of the numbers from a number on: they rise, and none that passes the test is missing.
use Rattle.std.proofs.Common.{◌≡◌, ℕ, zero, suc, ◌+◌, ◌<◌, ◌≤◌, inl, inr, Bool, true, false, ◌||◌, List, [], ◌∷◌, length, get_or, filter, refl, sym, subst, ap, ◌∙◌, arith, if◌then◌else◌}
use Rattle.std.specs.List.{range_with_len, list_any}
use Rattle.plan_rules.proofs.lemmas.Puts.{same_or_not}
use Rattle.plan_words.specs.Group.{past, Rises}
use Rattle.plan_words.proofs.Tables.{Found}

pub record Picked (test : ℕ → Bool) (xs : List ℕ) (from bound : ℕ) : Type 0 where
  pub rises : (i j : ℕ) → i < j → j < length xs → get_or xs i past < get_or xs j past
  pub least : (i : ℕ) → i < length xs → from ≤ get_or xs i past
  pub below : (i : ℕ) → i < length xs → get_or xs i past < bound
  pub passes : (i : ℕ) → i < length xs → test (get_or xs i past) ≡ true

none_picked : (test : ℕ → Bool) (from bound : ℕ) → Picked test [] from bound
none_picked test from bound = record {
  rises = λ i j l m. absurd (omega (arith, m));
  least = λ i l. absurd (omega (arith, l));
  below = λ i l. absurd (omega (arith, l));
  passes = λ i l. absurd (omega (arith, l));
}

lower : (test : ℕ → Bool) (xs : List ℕ) (from bound : ℕ) → Picked test xs (from + 1) bound → Picked test xs from bound
lower test xs from bound k = record {
  rises = k.rises;
  least = λ i l. let h = k.least i l in omega (arith, h);
  below = k.below;
  passes = k.passes;
}

first_rises : (test : ℕ → Bool) (x : ℕ) (xs : List ℕ) (bound : ℕ) → Picked test xs (x + 1) bound → (i j : ℕ) → i < j → j < length (x ∷ xs) → get_or (x ∷ xs) i past < get_or (x ∷ xs) j past
first_rises test x xs bound k i zero l m = absurd (omega (arith, l))
first_rises test x xs bound k zero (suc j) l m = let h = k.least j (omega (arith, m)) in omega (arith, h)
first_rises test x xs bound k (suc i) (suc j) l m = k.rises i j (omega (arith, l)) (omega (arith, m))

first_least : (test : ℕ → Bool) (x : ℕ) (xs : List ℕ) (bound : ℕ) → Picked test xs (x + 1) bound → (i : ℕ) → i < length (x ∷ xs) → x ≤ get_or (x ∷ xs) i past
first_least test x xs bound k zero l = omega arith
first_least test x xs bound k (suc i) l = let h = k.least i (omega (arith, l)) in omega (arith, h)

first_below : (test : ℕ → Bool) (x : ℕ) (xs : List ℕ) (bound : ℕ) → Picked test xs (x + 1) bound → x < bound → (i : ℕ) → i < length (x ∷ xs) → get_or (x ∷ xs) i past < bound
first_below test x xs bound k b zero l = b
first_below test x xs bound k b (suc i) l = k.below i (omega (arith, l))

first_passes : (test : ℕ → Bool) (x : ℕ) (xs : List ℕ) (bound : ℕ) → Picked test xs (x + 1) bound → test x ≡ true → (i : ℕ) → i < length (x ∷ xs) → test (get_or (x ∷ xs) i past) ≡ true
first_passes test x xs bound k e zero l = e
first_passes test x xs bound k e (suc i) l = k.passes i (omega (arith, l))

one_more : (test : ℕ → Bool) (x : ℕ) (xs : List ℕ) (bound : ℕ) → x < bound → Picked test xs (x + 1) bound → (b : Bool) → test x ≡ b → Picked test (if b then x ∷ xs else xs) x bound
one_more test x xs bound l k true e = record {
  rises = first_rises test x xs bound k;
  least = first_least test x xs bound k;
  below = first_below test x xs bound k l;
  passes = first_passes test x xs bound k e;
}
one_more test x xs bound l k false e = lower test xs x bound k

pub picked : (test : ℕ → Bool) (from n : ℕ) → Picked test (filter test (range_with_len from n)) from (from + n)
picked test from zero = none_picked test from (from + zero)
picked test from (suc n) =
    let rest : Picked test (filter test (range_with_len (from + 1) n)) (from + 1) (from + suc n) =
    subst (Picked test (filter test (range_with_len (from + 1) n)) (from + 1)) (omega arith) (picked test (from + 1) n) in
    one_more test from (filter test (range_with_len (from + 1) n)) (from + suc n) (omega arith) rest (test from) refl

pub picked_rises : (test : ℕ → Bool) (n : ℕ) → Rises (filter test (range_with_len 0 n)) n
picked_rises test n = let k = picked test 0 n in record { rises = k.rises; below = λ i l. let h = k.below i l in omega (arith, h) }

-- none is missing
there : (xs : List ℕ) (x z : ℕ) → ((i : ℕ) × Found xs z i) → (i : ℕ) × Found (x ∷ xs) z i
there xs x z (i, (l, e)) = (suc i, (omega (arith, l), e))

more_found : (xs : List ℕ) (x z : ℕ) (b : Bool) → ((i : ℕ) × Found xs z i) → (i : ℕ) × Found (if b then x ∷ xs else xs) z i
more_found xs x z true f = there xs x z f
more_found xs x z false f = f

first_found : (xs : List ℕ) (x : ℕ) (b : Bool) → b ≡ true → (i : ℕ) × Found (if b then x ∷ xs else xs) x i
first_found xs x true e = (0, (omega arith, refl))
first_found xs x false e = cc

pub found_from : (test : ℕ → Bool) (from n z : ℕ) → from ≤ z → z < from + n → test z ≡ true → (i : ℕ) × Found (filter test (range_with_len from n)) z i
found_from test from zero z l m e = absurd (omega (arith, l, m))
found_from test from (suc n) z l m e = elim (same_or_not z from) [
  | inl s ↦ subst (λ y. (i : ℕ) × Found (filter test (range_with_len from (suc n))) y i) (sym s) (first_found (filter test (range_with_len (from + 1) n)) from (test from) (ap test (sym s) ∙ e))
  | inr ne ↦ more_found (filter test (range_with_len (from + 1) n)) from z (test from) (found_from test (from + 1) n z (omega (arith, l, ne)) (omega (arith, m)) e)
]

pub found_in : (test : ℕ → Bool) (n z : ℕ) → z < n → test z ≡ true → (i : ℕ) × Found (filter test (range_with_len 0 n)) z i
found_in test n z l e = found_from test 0 n z (omega arith) (omega (arith, l)) e

-- an element that passes a test
or_true : (a b : Bool) → b ≡ true → (a || b) ≡ true
or_true true b e = refl
or_true false b e = e

pub any_found : (test : ℕ → Bool) (xs : List ℕ) (z : ℕ) → ((i : ℕ) × Found xs z i) → test z ≡ true → list_any test xs ≡ true
any_found test [] z (i, f) e = let l = f.0 in absurd (omega (arith, l))
any_found test (x ∷ xs) z (zero, f) e = rw (ap test f.1 ∙ e) refl
any_found test (x ∷ xs) z (suc i, f) e = let l = f.0 in or_true (test x) (list_any test xs) (any_found test xs z (i, (omega (arith, l), f.1)) e)
