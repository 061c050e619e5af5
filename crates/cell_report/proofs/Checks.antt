-- What the tests of the stamps say of all entries.
use Rattle.cell_report.proofs.Names.{◌≡◌, ℕ, ◌<◌, ◌≤◌, max, nat_eq, cond, ◌&&◌, inl, inr, List, [], ◌∷◌, All, get_or, refl, sym, ap, ◌∙◌, subst, arith, IsNonDecreasing, sum_by-IsPermutation, Noted, InOrder, key_at, is_done_noted, done_at, done_stamps, greatest, times, IsTwice, HasNoTwice, IsGap, HasNoGap, In, in_at, in_permutation, in_permutation_back}
use Rattle.cell_report.proofs.Rising.{rises_from, from_rises, done_ups, from_done}
use Rattle.cell_report.proofs.Times.{stands, stands_done, times_is}

-- the Done stamps, in the order
pub rising_stamps : (all ordered : List Noted) (stamps : List ℕ) → InOrder all ordered → stamps ≡ done_stamps ordered → IsNonDecreasing stamps
rising_stamps all ordered stamps o e = subst IsNonDecreasing (sym e) (from_rises (λ n. n) (done_stamps ordered) (done_ups ordered (rises_from key_at ordered o.rising)))

pub counted : (all ordered : List Noted) → InOrder all ordered → (r : ℕ) → stands r (done_stamps ordered) ≡ done_at all r
counted all ordered o r = stands_done ordered r ∙ sum_by-IsPermutation (λ (x : Noted). cond (is_done_noted x && nat_eq x.entry.stamp r) 1 0) all ordered o.same

counted_times : (all ordered : List Noted) (stamps : List ℕ) → InOrder all ordered → stamps ≡ done_stamps ordered → (r : ℕ) → times stamps r ≡ done_at all r
counted_times all ordered stamps o e r = times_is stamps r ∙ (ap (stands r) e ∙ counted all ordered o r)

pub twice_is : (all ordered : List Noted) (stamps : List ℕ) (s : ℕ) → InOrder all ordered → stamps ≡ done_stamps ordered → IsTwice (times stamps) s → IsTwice (done_at all) s
twice_is all ordered stamps s o e t = record {
  twice = subst (λ n. 2 ≤ n) (counted_times all ordered stamps o e s) t.twice;
  least = λ r low. subst (λ n. n ≤ 1) (counted_times all ordered stamps o e r) (t.least r low);
}

pub no_twice : (all ordered : List Noted) (stamps : List ℕ) → InOrder all ordered → stamps ≡ done_stamps ordered → HasNoTwice (times stamps) → HasNoTwice (done_at all)
no_twice all ordered stamps o e t = λ r. subst (λ n. n ≤ 1) (counted_times all ordered stamps o e r) (t r)

pub greatest_least : (t : ℕ) (xs : List Noted) → t ≤ greatest t xs
greatest_least t [] = omega arith
greatest_least t (x ∷ xs) = omega (arith, greatest_least (max t x.entry.stamp) xs)

pub greatest_in : (t : ℕ) (xs : List Noted) (x : Noted) → In x xs → x.entry.stamp ≤ greatest t xs
greatest_in t [] x h = absurd h
greatest_in t (y ∷ ys) x (inl e) = let p = ap (λ (w : Noted). w.entry.stamp) e in omega (arith, greatest_least (max t y.entry.stamp) ys, p)
greatest_in t (y ∷ ys) x (inr h) = greatest_in (max t y.entry.stamp) ys x h

pub greatest_below : (t u : ℕ) (xs : List Noted) → t ≤ u → ((x : Noted) → In x xs → x.entry.stamp ≤ u) → greatest t xs ≤ u
greatest_below t u [] h f = h
greatest_below t u (x ∷ xs) h f = greatest_below (max t x.entry.stamp) u xs (omega (arith, f x (inl refl))) (λ z k. f z (inr k))

pub greatest_same : (t : ℕ) (all ordered : List Noted) → InOrder all ordered → greatest t ordered ≡ greatest t all
greatest_same t all ordered o =
    let a = greatest_below t (greatest t all) ordered (greatest_least t all) (λ x h. greatest_in t all x (in_permutation_back all ordered x o.same h)) in
    let b = greatest_below t (greatest t ordered) all (greatest_least t ordered) (λ x h. greatest_in t ordered x (in_permutation all ordered x o.same h)) in
    omega arith

pub within_top : (t : ℕ) (ordered : List Noted) (stamps : List ℕ) (top : ℕ) → stamps ≡ done_stamps ordered → top ≡ greatest t ordered → All (λ s. s ≤ top) stamps
within_top t ordered stamps top e f = λ k d h.
    let y = from_done ordered (get_or stamps k d) (subst (In (get_or stamps k d)) e (in_at stamps k d h)) in
    omega (arith, greatest_in t ordered y.0 y.1, y.3, f)

pub gap_is : (start t : ℕ) (all ordered : List Noted) (stamps : List ℕ) (top s : ℕ) → InOrder all ordered → stamps ≡ done_stamps ordered → top ≡ greatest t ordered → IsGap start top (times stamps) s → IsGap start (greatest t all) (done_at all) s
gap_is start t all ordered stamps top s o e f g = record {
  later = g.later;
  within = omega (arith, g.within, greatest_same t all ordered o, f);
  missing = sym (counted_times all ordered stamps o e s) ∙ g.missing;
  least = λ r a b. subst (λ n. 0 < n) (counted_times all ordered stamps o e r) (g.least r a b);
}

pub gapless : (start t : ℕ) (all ordered : List Noted) (stamps : List ℕ) (top : ℕ) → InOrder all ordered → stamps ≡ done_stamps ordered → top ≡ greatest t ordered → HasNoGap start top (times stamps) → HasNoGap start (greatest t all) (done_at all)
gapless start t all ordered stamps top o e f g = λ r a b. subst (λ n. 0 < n) (counted_times all ordered stamps o e r) (g r a (omega (arith, b, greatest_same t all ordered o, f)))

-- the same from a start with this stamp
pub gap_from : (a b top s : ℕ) (count : ℕ → ℕ) → a ≡ b → IsGap a top count s → IsGap b top count s
gap_from a b top s count e g = subst (λ n. IsGap n top count s) e g

pub gapless_from : (a b top : ℕ) (count : ℕ → ℕ) → a ≡ b → HasNoGap a top count → HasNoGap b top count
gapless_from a b top count e g = subst (λ n. HasNoGap n top count) e g
