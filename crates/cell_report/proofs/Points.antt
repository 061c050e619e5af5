-- If the stamps pass their tests, an entry that fits has the stamp of its point.
use Rattle.cell_report.proofs.Names.{◌≡◌, ℕ, ◌+◌, ◌*◌, ◌<◌, ◌≤◌, true, false, cond, nat_eq, ◌&&◌, ◌⊎◌, inl, inr, List, [], ◌∷◌, ◌++◌, refl, sym, ap, ◌∙◌, subst, arith, append_assoc, ⊤, cases_lt, sum_by-append, ModelState, reply, next, is_done_answer, Noted, key_at, is_done_noted, done_stamps, greatest, HasStamps, Fits, AllFit, In, in_append_left, in_append_right, in_append_cases, in_append_all, in_permutation_back}
use Rattle.cell_report.proofs.Rising.{Rises, rises_from, done_rank, other_rank, from_done, to_done}
use Rattle.cell_report.proofs.Times.{stands, stands_done, stands_in, in_stands}
use Rattle.cell_report.proofs.Checks.{counted, greatest_in}
use Rattle.cell_report.proofs.Runs.{next_cases, stamp_rises}

-- an entry that has the answer and the stamp of its point
pub record FitsAt (now : ModelState) (x : Noted) : Type 0 where
  pub answer : x.entry.answer ≡ reply now x.machine x.entry.call
  pub stamp : x.entry.stamp ≡ (next now x.machine x.entry.call).stamp

abbrev pub AllFitAt : ModelState → List Noted → Type 0
AllFitAt now [] = ⊤
AllFitAt now (x ∷ rest) = FitsAt now x × AllFitAt (next now x.machine x.entry.call) rest

-- what the tests of the stamps say of the entries in their order
pub record Stamped (start : ℕ) (ordered : List Noted) : Type 0 where
  pub rises : Rises ordered
  pub once : (r : ℕ) → stands r (done_stamps ordered) ≤ 1
  pub filled : (x : Noted) → In x ordered → (r : ℕ) → start < r → r ≤ x.entry.stamp → In r (done_stamps ordered)

pub stamped : (start t : ℕ) (all ordered : List Noted) → HasStamps start (greatest t all) all ordered → Stamped start ordered
stamped start t all ordered k = record {
  rises = rises_from key_at ordered k.order.rising;
  once = λ r. subst (λ n. n ≤ 1) (sym (counted all ordered k.order r)) (k.no_twice r);
  filled = λ x i r a b.
      in_stands r (done_stamps ordered)
      (subst (λ n. 0 < n) (sym (counted all ordered k.order r)) (k.no_gap r a (omega (arith, b, greatest_in t all x (in_permutation_back all ordered x k.order.same i)))));
}

-- a state that entries lead to from the start
pub record Reached (s : ModelState) (before : List Noted) (r : ModelState) : Type 0 where
  pub low : s.stamp ≤ r.stamp
  pub high : (y : Noted) → In y before → y.entry.stamp ≤ r.stamp
  pub from : (r.stamp ≡ s.stamp) ⊎ In r.stamp (done_stamps before)

pub reached_first : (s : ModelState) → Reached s [] s
reached_first s = record { low = omega arith; high = λ y i. absurd i; from = inl refl }

pub reached_more : (s : ModelState) (before : List Noted) (r : ModelState) (x : Noted) → Reached s before r → FitsAt r x → Reached s (before ++ x ∷ []) (next r x.machine x.entry.call)
reached_more s before r x k f = record {
  low = omega (arith, k.low, stamp_rises r x.machine x.entry.call);
  high = in_append_all (λ y. y.entry.stamp ≤ (next r x.machine x.entry.call).stamp) before (x ∷ []) (λ y b. omega (arith, k.high y b, stamp_rises r x.machine x.entry.call))
      (λ y b. elim b [ inl q ↦ let same = ap (λ (w : Noted). w.entry.stamp) q in omega (arith, same, f.stamp) | inr z ↦ absurd z ]);
  from = elim (next_cases r x.machine x.entry.call) [
    | inl c ↦ inr (subst (λ n. In n (done_stamps (before ++ x ∷ []))) f.stamp (to_done (before ++ x ∷ []) x (in_append_right before (x ∷ []) x (inl refl)) (ap is_done_answer f.answer ∙ c.0)))
    | inr c ↦
        let same : (next r x.machine x.entry.call).stamp ≡ r.stamp = ap (λ (t : ModelState). t.stamp) c.1 in
        elim k.from [
          | inl q ↦ inl (same ∙ q)
          | inr q ↦ let y = from_done before r.stamp q in inr (subst (λ n. In n (done_stamps (before ++ x ∷ []))) (y.3 ∙ sym same) (to_done (before ++ x ∷ []) y.0 (in_append_left before (x ∷ []) y.0 y.1) y.2))
        ]
  ];
}

-- ---- what is before an entry, and what is after it

pub rises_apart : (a b : List Noted) (y x : Noted) → Rises (a ++ x ∷ b) → In y a → key_at y ≤ key_at x
rises_apart [] b y x r h = absurd h
rises_apart (z ∷ a) b y x r (inl e) = let p = ap key_at e in omega (arith, r.0 x (in_append_right a (x ∷ b) x (inl refl)), p)
rises_apart (z ∷ a) b y x r (inr h) = rises_apart a b y x r.1 h

pub rises_rest : (a b : List Noted) → Rises (a ++ b) → Rises b
rises_rest [] b r = r
rises_rest (z ∷ a) b r = rises_rest a b r.1

twice_in : (r : ℕ) (a b : List Noted) → In r (done_stamps a) → In r (done_stamps b) → 2 ≤ stands r (done_stamps (a ++ b))
twice_in r a b h k =
    omega (arith, stands_done (a ++ b) r, sum_by-append (λ (x : Noted). cond (is_done_noted x && nat_eq x.entry.stamp r) 1 0) a b, stands_done a r, stands_done b r, stands_in r (done_stamps a) h, stands_in r (done_stamps b) k)

-- the last Done stamp isn't that of a later Done entry
pub not_again : (start : ℕ) (ordered before rest : List Noted) (x : Noted) → Stamped start ordered → ordered ≡ before ++ x ∷ rest → is_done_noted x ≡ true → In x.entry.stamp (done_stamps before) → ⊥
not_again start ordered before rest x st e done q =
    let two = twice_in x.entry.stamp before (x ∷ rest) q (to_done (x ∷ rest) x (inl refl) done) in
    let once = subst (λ l. stands x.entry.stamp (done_stamps l) ≤ 1) e (st.once x.entry.stamp) in
    omega (arith, two, once)

-- a Done entry of the next stamp is after the entries before this one, and not before this one
pub after_next : (ordered before rest : List Noted) (x : Noted) (n : ℕ) → ordered ≡ before ++ x ∷ rest → Rises ordered → ((y : Noted) → In y before → y.entry.stamp ≤ n) → In (n + 1) (done_stamps ordered) → key_at x ≤ 2 * (n + 1)
after_next ordered before rest x n e up high i =
    let d = from_done ordered (n + 1) i in
    let rank_d = done_rank d.0.entry.answer d.2 in
    let tail : Rises (x ∷ rest) = rises_rest before (x ∷ rest) (subst Rises e up) in
    elim (in_append_cases before (x ∷ rest) d.0 (subst (In d.0) e d.1)) [
      | inl b ↦ absurd (omega (arith, high d.0 b, d.3))
      | inr b ↦ elim b [
        | inl q ↦ let keys = ap key_at q in omega (arith, keys, rank_d, d.3)
        | inr k ↦ let keys = tail.0 d.0 k in omega (arith, keys, rank_d, d.3)
      ]
    ]

-- a Done stamp of the entries before is not above this one's
pub before_last : (ordered before rest : List Noted) (x : Noted) (n : ℕ) → ordered ≡ before ++ x ∷ rest → Rises ordered → In n (done_stamps before) → 2 * n ≤ key_at x
before_last ordered before rest x n e up i =
    let y = from_done before n i in
    let keys = rises_apart before rest y.0 x (subst Rises e up) y.1 in
    omega (arith, keys, done_rank y.0.entry.answer y.2, y.3)

-- ---- the stamp of an entry that fits

done_not_low : (s r : ModelState) (ordered before rest : List Noted) (x : Noted) → ordered ≡ before ++ x ∷ rest → Reached s before r → Stamped s.stamp ordered → Fits s r x → is_done_noted x ≡ true → r.stamp < x.entry.stamp
done_not_low s r ordered before rest x e k st f done =
    elim (cases_lt r.stamp x.entry.stamp) [
      | inl l ↦ l
      | inr l ↦ elim (cases_lt s.stamp x.entry.stamp) [
        | inr early ↦ absurd (f.in_time (inr (done, early)))
        | inl late ↦ elim k.from [
          | inl q ↦ absurd (omega (arith, q, l, late))
          | inr q ↦
              let keys = before_last ordered before rest x r.stamp e st.rises q in
              let at : r.stamp ≡ x.entry.stamp = omega (arith, keys, done_rank x.entry.answer done, l) in
              absurd (not_again s.stamp ordered before rest x st e done (subst (λ n. In n (done_stamps before)) at q))
        ]
      ]
    ]

other_not_low : (s r : ModelState) (ordered before rest : List Noted) (x : Noted) → ordered ≡ before ++ x ∷ rest → Reached s before r → Stamped s.stamp ordered → Fits s r x → is_done_noted x ≡ false → r.stamp ≤ x.entry.stamp
other_not_low s r ordered before rest x e k st f other =
    elim (cases_lt x.entry.stamp r.stamp) [
      | inr l ↦ l
      | inl l ↦ elim (cases_lt x.entry.stamp s.stamp) [
        | inl early ↦ absurd (f.in_time (inl early))
        | inr late ↦ elim k.from [
          | inl q ↦ absurd (omega (arith, q, l, late))
          | inr q ↦ let keys = before_last ordered before rest x r.stamp e st.rises q in absurd (omega (arith, keys, other_rank x.entry.answer other, l))
        ]
      ]
    ]

not_after : (s r : ModelState) (ordered before rest : List Noted) (x : Noted) → ordered ≡ before ++ x ∷ rest → Reached s before r → Stamped s.stamp ordered → r.stamp < x.entry.stamp → key_at x ≤ 2 * (r.stamp + 1)
not_after s r ordered before rest x e k st l =
    let in_ordered : In x ordered = subst (In x) (sym e) (in_append_right before (x ∷ rest) x (inl refl)) in
    after_next ordered before rest x r.stamp e st.rises k.high (st.filled x in_ordered (r.stamp + 1) (omega (arith, k.low)) (omega (arith, l)))

stamp_follows : (s r : ModelState) (ordered before rest : List Noted) (x : Noted) → ordered ≡ before ++ x ∷ rest → Reached s before r → Stamped s.stamp ordered → Fits s r x → x.entry.stamp ≡ (next r x.machine x.entry.call).stamp
stamp_follows s r ordered before rest x e k st f =
    elim (next_cases r x.machine x.entry.call) [
      | inl c ↦
          let done : is_done_noted x ≡ true = ap is_done_answer f.answer ∙ c.0 in
          let low = done_not_low s r ordered before rest x e k st f done in
          let keys = not_after s r ordered before rest x e k st low in
          omega (arith, keys, done_rank x.entry.answer done, low, c.1)
      | inr c ↦
          let other : is_done_noted x ≡ false = ap is_done_answer f.answer ∙ c.0 in
          let low = other_not_low s r ordered before rest x e k st f other in
          let same = ap (λ (t : ModelState). t.stamp) c.1 in
          elim (cases_lt r.stamp x.entry.stamp) [
            | inr l ↦ omega (arith, low, l, same)
            | inl l ↦ let keys = not_after s r ordered before rest x e k st l in absurd (omega (arith, keys, other_rank x.entry.answer other, l))
          ]
    ]

pub all_fit_at : (s : ModelState) (ordered before xs : List Noted) (r : ModelState) → ordered ≡ before ++ xs → Stamped s.stamp ordered → Reached s before r → AllFit s r xs → AllFitAt r xs
all_fit_at s ordered before [] r e st k fit = tt
all_fit_at s ordered before (x ∷ xs) r e st k fit =
    let here : FitsAt r x = record { answer = fit.0.answer; stamp = stamp_follows s r ordered before xs x e k st fit.0 } in
    (here, all_fit_at s ordered (before ++ x ∷ []) xs (next r x.machine x.entry.call) (e ∙ sym (append_assoc before (x ∷ []) xs)) st (reached_more s before r x k here) fit.1)

-- ---- the converse

fits_from : (s r : ModelState) (x : Noted) → s.stamp ≤ r.stamp → x.in_turn ≡ true → FitsAt r x → Fits s r x
fits_from s r x low turn f = record {
  in_turn = turn;
  in_time = λ early. elim early [
    | inl e ↦ omega (arith, e, f.stamp, stamp_rises r x.machine x.entry.call)
    | inr e ↦ elim (next_cases r x.machine x.entry.call) [
      | inl c ↦ omega (arith, e.1, f.stamp, c.1, low)
      | inr c ↦ let bad = sym e.0 ∙ ap is_done_answer f.answer ∙ c.0 in cc
    ]
  ];
  answer = f.answer;
}

pub all_fit_from : (s r : ModelState) (xs : List Noted) → s.stamp ≤ r.stamp → ((x : Noted) → In x xs → x.in_turn ≡ true) → AllFitAt r xs → AllFit s r xs
all_fit_from s r [] low turn fit = tt
all_fit_from s r (x ∷ xs) low turn fit = (fits_from s r x low (turn x (inl refl)) fit.0, all_fit_from s (next r x.machine x.entry.call) xs (omega (arith, low, stamp_rises r x.machine x.entry.call)) (λ y i. turn y (inr i)) fit.1)
