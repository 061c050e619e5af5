-- How often a number occurs in a non-decreasing list.
use Rattle.cell_report.proofs.Names.{zero-add, ◌≡◌, ◌≢◌, ℕ, ◌+◌, ◌-◌, ◌<◌, ◌≤◌, max, nat_eq, nat_lt, Bool, true, false, cond, ◌&&◌, ◌⊎◌, inl, inr, List, [], ◌∷◌, map, filter, Option, Some, None, refl, sym, ap, ◌∙◌, subst, arith, drop, length, get_or, All, cases_eq, cases_lt, cond_both, eqb-true, eq-eqb, ne_eqb, lt-ltb, le-ltb, at_drop_more, at_drop_all, sum_by-cons, All-contains, option_eq, IsNonDecreasing, Noted, is_done_noted, stamp_of, done_at, done_stamps, times, IsTwice, HasNoTwice, IsGap}
use Rattle.cell_report.proofs.Names.{HasNoGap, In, contains_from_in}
use Rattle.std.proofs.Common.{MatchOption}
use Rattle.std.proofs.lemmas.Option.{same_Some}
use Rattle.cell_report.proofs.Rising.{Ups, rises_from}

abbrev pub tick : Bool → ℕ
tick b = cond b 1 0

abbrev pub stands : ℕ → List ℕ → ℕ
stands r [] = 0
stands r (x ∷ xs) = tick (nat_eq x r) + stands r xs

pub stands_done : (xs : List Noted) (r : ℕ) → stands r (done_stamps xs) ≡ done_at xs r
stands_done [] r = refl
stands_done (x ∷ xs) r =
    let rest = stands_done xs r in
    let sum = sum_by-cons (λ (y : Noted). cond (is_done_noted y && nat_eq y.entry.stamp r) 1 0) x xs in
    cond_both (is_done_noted x) (x ∷ filter is_done_noted xs) (filter is_done_noted xs) (λ l. stands r (map stamp_of l) ≡ done_at (x ∷ xs) r)
    (λ e. ap (λ n. tick (nat_eq (stamp_of x) r) + n) rest ∙ sym (sum ∙ ap (λ b. tick (b && nat_eq (stamp_of x) r) + done_at xs r) e))
    (λ e. rest ∙ sym (sum ∙ ap (λ b. tick (b && nat_eq (stamp_of x) r) + done_at xs r) e ∙ zero-add (done_at xs r)))

pub eq_cases : (x r : ℕ) → ((x ≡ r) × (tick (nat_eq x r) ≡ 1)) ⊎ ((x ≢ r) × (tick (nat_eq x r) ≡ 0))
eq_cases x r = elim (cases_eq x r) [ inl e ↦ inl (e, rw (eq-eqb x r e) refl) | inr n ↦ inr (n, rw (ne_eqb x r n) refl) ]

pub none_low : (r : ℕ) (xs : List ℕ) → ((z : ℕ) → In z xs → r < z) → stands r xs ≡ 0
none_low r [] f = refl
none_low r (x ∷ xs) f =
    let low = f x (inl refl) in
    let rest = none_low r xs (λ z h. f z (inr h)) in
    elim (eq_cases x r) [ inl e ↦ absurd (omega (arith, e.0, low)) | inr e ↦ omega (arith, e.1, rest) ]

pub stands_in : (r : ℕ) (xs : List ℕ) → In r xs → 0 < stands r xs
stands_in r [] h = absurd h
stands_in r (x ∷ xs) (inl e) = elim (eq_cases x r) [ inl k ↦ omega (arith, k.1) | inr k ↦ absurd (k.0 e) ]
stands_in r (x ∷ xs) (inr h) = omega (arith, stands_in r xs h)

pub in_stands : (r : ℕ) (xs : List ℕ) → 0 < stands r xs → In r xs
in_stands r [] h = absurd (omega arith)
in_stands r (x ∷ xs) h = elim (eq_cases x r) [ inl k ↦ inl k.0 | inr k ↦ inr (in_stands r xs (omega (arith, k.1, h))) ]

all_after : (x : ℕ) (xs : List ℕ) (l : ℕ) → Ups (x ∷ xs) → l < x → (z : ℕ) → In z (x ∷ xs) → l < z
all_after x xs l u h z (inl e) = omega arith
all_after x xs l u h z (inr k) = omega (arith, u.0 z k)

at_most : (l : ℕ) (r t : ℕ) → t ≤ 1 → (l ≡ r → t ≡ 0) → tick (nat_eq l r) + t ≤ 1
at_most l r t h f = elim (eq_cases l r) [ inl e ↦ omega (arith, e.1, f e.0) | inr e ↦ omega (arith, e.1, h) ]

-- ---- the tests, from one number to the next

-- the first number that equals the one before it
abbrev pub is_last : Option ℕ → ℕ → Bool
is_last None x = false
is_last (Some last) x = nat_eq last x

abbrev pub twice_after : Option ℕ → List ℕ → Option ℕ
twice_after last [] = None
twice_after last (x ∷ xs) = cond (is_last last x) (Some x) (twice_after (Some x) xs)

-- the first number after the last, up to top, that is missing
abbrev pub gap_after : ℕ → ℕ → List ℕ → Option ℕ
gap_after last top [] = cond (nat_lt last top) (Some (last + 1)) None
gap_after last top (x ∷ xs) = cond (nat_lt 1 (x - last)) (Some (last + 1)) (gap_after (max last x) top xs)

-- ---- no number twice

abbrev OneEach : List ℕ → Type 0
OneEach xs = (r : ℕ) → stands r xs ≤ 1

not_twice_from : (l : ℕ) (xs : List ℕ) → Ups (l ∷ xs) → twice_after (Some l) xs ≡ None → OneEach (l ∷ xs)
not_twice_from l [] u h = λ r. at_most l r 0 (omega arith) (λ e. refl)
not_twice_from l (x ∷ xs) u h =
    elim (cases_eq l x) [
      | inl e ↦ let bad = rw (eq-eqb l x e) at h in cc
      | inr n ↦
          let rest = not_twice_from x xs u.1 (rw (ne_eqb l x n) at h) in
          let low = u.0 x (inl refl) in
          λ r. at_most l r (stands r (x ∷ xs)) (rest r) (λ e. none_low r (x ∷ xs) (all_after x xs r u.1 (omega (arith, n, low, e))))
    ]

pub not_twice : (xs : List ℕ) → Ups xs → twice_after None xs ≡ None → OneEach xs
not_twice [] u h = λ r. omega arith
not_twice (x ∷ xs) u h = not_twice_from x xs u h

-- ---- the least that occurs twice

abbrev LeastTwice : List ℕ → ℕ → Type 0
LeastTwice xs s = (2 ≤ stands s xs) × ((r : ℕ) → r < s → stands r xs ≤ 1)

twice_from : (l s : ℕ) (xs : List ℕ) → Ups (l ∷ xs) → twice_after (Some l) xs ≡ Some s → LeastTwice (l ∷ xs) s
twice_from l s [] u h = cc
twice_from l s (x ∷ xs) u h =
    elim (cases_eq l x) [
      | inl e ↦
          let is : x ≡ s = same_Some x s (rw (eq-eqb l x e) at h) in
          let none = λ (r : ℕ) (low : r < s). none_low r (x ∷ xs) (all_after x xs r u.1 (omega (arith, is, low))) in
          (rw (eq-eqb l s (e ∙ is), eq-eqb x s is) (omega arith), λ r low. at_most l r (stands r (x ∷ xs)) (omega (arith, none r low)) (λ _. none r low))
      | inr n ↦
          let rest = twice_from x s xs u.1 (rw (ne_eqb l x n) at h) in
          let low = u.0 x (inl refl) in
          (omega (arith, rest.0), λ r k. at_most l r (stands r (x ∷ xs)) (rest.1 r k) (λ q. none_low r (x ∷ xs) (all_after x xs r u.1 (omega (arith, n, low, q)))))
    ]

pub twice_found : (s : ℕ) (xs : List ℕ) → Ups xs → twice_after None xs ≡ Some s → LeastTwice xs s
twice_found s [] u h = cc
twice_found s (x ∷ xs) u h = twice_from x s xs u h

-- ---- gaps

pub no_gap : (last top : ℕ) (xs : List ℕ) → gap_after last top xs ≡ None → (r : ℕ) → last < r → r ≤ top → 0 < stands r xs
no_gap last top [] h r low high = elim (cases_lt last top) [ inl l ↦ let bad = rw (lt-ltb last top l) at h in cc | inr l ↦ absurd (omega (arith, l)) ]
no_gap last top (x ∷ xs) h r low high =
    elim (cases_lt 1 (x - last)) [
      | inl l ↦ let bad = rw (lt-ltb 1 (x - last) l) at h in cc
      | inr l ↦ elim (eq_cases x r) [
        | inl k ↦ omega (arith, k.1)
        | inr k ↦ omega (arith, no_gap (max last x) top xs (rw (le-ltb 1 (x - last) l) at h) r (omega (arith, k.0, l)) high)
      ]
    ]

pub gap_found : (last top s : ℕ) (xs : List ℕ) → Ups xs → ((z : ℕ) → In z xs → z ≤ top) → gap_after last top xs ≡ Some s → IsGap last top (λ r. stands r xs) s
gap_found last top s [] u f h =
    elim (cases_lt last top) [
      | inl l ↦ let is = same_Some (last + 1) s (rw (lt-ltb last top l) at h) in record { later = omega arith; within = omega arith; missing = refl; least = λ r a b. absurd (omega arith) }
      | inr l ↦ let bad = rw (le-ltb last top l) at h in cc
    ]
gap_found last top s (x ∷ xs) u f h =
    elim (cases_lt 1 (x - last)) [
      | inl far ↦
          let is = same_Some (last + 1) s (rw (lt-ltb 1 (x - last) far) at h) in
          record {
            later = omega arith;
            within = omega (arith, f x (inl refl));
            missing = none_low s (x ∷ xs) (all_after x xs s u (omega arith));
            least = λ r a b. absurd (omega arith);
          }
      | inr near ↦
          let rest = gap_found (max last x) top s xs u.1 (λ z k. f z (inr k)) (rw (le-ltb 1 (x - last) near) at h) in
          record {
            later = omega (arith, rest.later);
            within = rest.within;
            missing = elim (eq_cases x s) [ inl k ↦ absurd (omega (arith, k.0, rest.later)) | inr k ↦ omega (arith, k.1, rest.missing) ];
            least = λ r a b. elim (eq_cases x r) [ inl k ↦ omega (arith, k.1) | inr k ↦ omega (arith, rest.least r (omega (arith, k.0)) b) ];
          }
    ]

-- ---- what the tests say of a non-decreasing list

pub times_is : (xs : List ℕ) (r : ℕ) → times xs r ≡ stands r xs
times_is [] r = refl
times_is (x ∷ xs) r = sum_by-cons (λ y. tick (nat_eq y r)) x xs ∙ ap (λ n. tick (nat_eq x r) + n) (times_is xs r)

pub twice_tells : (xs : List ℕ) → IsNonDecreasing xs → (o : Option ℕ) → twice_after None xs ≡ o → MatchOption o (HasNoTwice (times xs)) (IsTwice (times xs))
twice_tells xs up None h = λ r. subst (λ n. n ≤ 1) (sym (times_is xs r)) (not_twice xs (rises_from (λ n. n) xs up) h r)
twice_tells xs up (Some s) h =
    let t = twice_found s xs (rises_from (λ n. n) xs up) h in
    record {
      twice = subst (λ n. 2 ≤ n) (sym (times_is xs s)) t.0;
      least = λ r low. subst (λ n. n ≤ 1) (sym (times_is xs r)) (t.1 r low);
    }

pub gap_tells : (start top : ℕ) (xs : List ℕ) → IsNonDecreasing xs → All (λ s. s ≤ top) xs → (o : Option ℕ) → gap_after start top xs ≡ o → MatchOption o (HasNoGap start top (times xs)) (IsGap start top (times xs))
gap_tells start top xs up within None h = λ r a b. subst (λ n. 0 < n) (sym (times_is xs r)) (no_gap start top xs h r a b)
gap_tells start top xs up within (Some s) h =
    let g = gap_found start top s xs (rises_from (λ n. n) xs up) (λ z k. All-contains (λ n. n ≤ top) xs z within (contains_from_in xs z k)) h in
    record {
      later = g.later;
      within = g.within;
      missing = times_is xs s ∙ g.missing;
      least = λ r a b. subst (λ n. 0 < n) (sym (times_is xs r)) (g.least r a b);
    }

-- ---- how a test ends

option_is : (o : Option ℕ) (x : ℕ) → option_eq nat_eq o (Some x) ≡ true → o ≡ Some x
option_is None x h = cc
option_is (Some y) x h = ap Some (eqb-true y x h)

pub twice_here : (xs : List ℕ) (i d : ℕ) (last : Option ℕ) → i < length xs → option_eq nat_eq last (Some (get_or xs i d)) ≡ true → twice_after last (drop i xs) ≡ twice_after None xs → twice_after None xs ≡ last
twice_here xs i d last h same is =
    let x : ℕ = get_or xs i d in
    let e : last ≡ Some x = option_is last x same in
    let found : twice_after (Some x) (x ∷ drop (i + 1) xs) ≡ Some x = rw (eq-eqb x x refl) refl in
    let here : twice_after last (drop i xs) ≡ twice_after (Some x) (x ∷ drop (i + 1) xs) = ap (λ o. twice_after o (drop i xs)) e ∙ at_drop_more (twice_after (Some x)) xs i d h in
    sym is ∙ (here ∙ (found ∙ sym e))

pub twice_end : (xs : List ℕ) (i : ℕ) (last : Option ℕ) → length xs ≤ i → twice_after last (drop i xs) ≡ twice_after None xs → twice_after None xs ≡ None
twice_end xs i last h is = sym is ∙ at_drop_all (twice_after last) xs i h

pub gap_here : (start top last : ℕ) (xs : List ℕ) (i d : ℕ) → i < length xs → 1 < get_or xs i d - last → gap_after last top (drop i xs) ≡ gap_after start top xs → gap_after start top xs ≡ Some (last + 1)
gap_here start top last xs i d h far is =
    let x : ℕ = get_or xs i d in
    let found : gap_after last top (x ∷ drop (i + 1) xs) ≡ Some (last + 1) = rw (lt-ltb 1 (x - last) far) refl in
    sym is ∙ (at_drop_more (gap_after last top) xs i d h ∙ found)

pub gap_end : (start top last : ℕ) (xs : List ℕ) (i : ℕ) → length xs ≤ i → gap_after last top (drop i xs) ≡ gap_after start top xs → gap_after start top xs ≡ cond (nat_lt last top) (Some (last + 1)) None
gap_end start top last xs i h is = sym is ∙ at_drop_all (gap_after last top) xs i h
