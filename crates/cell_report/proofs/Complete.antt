-- If there is a history, every entry fits.
use Rattle.cell_report.proofs.Names.{◌≡◌, ◌+◌, ◌≤◌, inl, inr, true, List, [], ◌∷◌, ◌++◌, map, refl, sym, ap, ◌∙◌, subst, arith, append_assoc, append-nil, cases_lt, Machine, Event, Entry, ModelState, reply, next, after, IsLegal, is_done_answer, noted, Noted, noted_from, all_noted, event_of, key_at, is_done_noted, done_stamps, In, in_append_right, in_append_cases, in_filter}
use Rattle.cell_report.proofs.Own.{is_of, same_itself, own_entries}
use Rattle.cell_report.proofs.Rising.{Rises, done_rank, from_done}
use Rattle.cell_report.proofs.Turns.{in_turn_from_rises}
use Rattle.cell_report.proofs.Runs.{Through, through_low, through_one, NotedAt, point, in_from, key, journal_rises, next_cases, stamp_rises}
use Rattle.cell_report.proofs.Points.{FitsAt, AllFitAt, Stamped, Reached, reached_more, rises_rest, before_last, not_again}

own_in : (j : Machine → List Entry) (x : Noted) → In x (all_noted j) → In x (noted_from x.machine [] (j x.machine))
own_in j x h = subst (In x) (own_entries j x.machine) (in_filter (is_of x.machine) (all_noted j) x h (same_itself x.machine))

pub noted_point : (s : ModelState) (j : Machine → List Entry) (h : List Event) (x : Noted) → IsLegal s h → ((m : Machine) → noted s h m ≡ j m) → In x (all_noted j) → NotedAt s h x.machine x.entry
noted_point s j h x legal own k = point s h x.machine x.entry legal (subst (In x.entry) (sym (own x.machine)) (in_from x.machine [] (j x.machine) x (own_in j x k)).1)

pub noted_in_turn : (s : ModelState) (j : Machine → List Entry) (h : List Event) (x : Noted) → IsLegal s h → ((m : Machine) → noted s h m ≡ j m) → In x (all_noted j) → x.in_turn ≡ true
noted_in_turn s j h x legal own k =
    in_turn_from_rises x.machine (j x.machine) (subst (λ es. Rises (noted_from x.machine [] es)) (own x.machine) (journal_rises s h x.machine [] legal)) x (own_in j x k)

-- the stamp at which the next entry was noted is that of the state reached
not_above : (s : ModelState) (h : List Event) (ordered before xs : List Noted) (x : Noted) (r : ModelState) → Stamped s.stamp ordered → ordered ≡ before ++ x ∷ xs → Reached s before r → (p : NotedAt s h x.machine x.entry) → In x ordered → p.at.stamp ≤ r.stamp
not_above s h ordered before xs x r st e reached p k =
    elim (cases_lt r.stamp p.at.stamp) [
      | inr le ↦ le
      | inl lt ↦
          let key_x = (key x.machine p.at x.entry p.answer p.stamp).0 in
          let d = from_done ordered (r.stamp + 1) (st.filled x k (r.stamp + 1) (omega (arith, reached.low)) (omega (arith, p.stamp, stamp_rises p.at x.machine x.entry.call))) in
          let rank_d = done_rank d.0.entry.answer d.2 in
          let up : Rises (before ++ x ∷ xs) = subst Rises e st.rises in
          elim (in_append_cases before (x ∷ xs) d.0 (subst (In d.0) e d.1)) [
            | inl b ↦ absurd (omega (arith, reached.high d.0 b, d.3))
            | inr b ↦ elim b [
              | inl q ↦ let keys = ap key_at q in absurd (omega (arith, keys, key_x, rank_d, d.3, lt))
              | inr i ↦ let keys = (rises_rest before (x ∷ xs) up).0 d.0 i in absurd (omega (arith, keys, key_x, rank_d, d.3, lt))
            ]
          ]
    ]

not_below : (s : ModelState) (h : List Event) (ordered before xs : List Noted) (x : Noted) (r : ModelState) → Stamped s.stamp ordered → ordered ≡ before ++ x ∷ xs → Reached s before r → (p : NotedAt s h x.machine x.entry) → r.stamp ≤ p.at.stamp
not_below s h ordered before xs x r st e reached p =
    elim (cases_lt p.at.stamp r.stamp) [
      | inr le ↦ le
      | inl lt ↦ elim reached.from [
        | inl q ↦ absurd (omega (arith, through_low s h p.at p.through, q, lt))
        | inr q ↦
            let keys = before_last ordered before xs x r.stamp e st.rises q in
            let high = (key x.machine p.at x.entry p.answer p.stamp).1 in
            elim (next_cases p.at x.machine x.entry.call) [
              | inr c ↦ let same = ap (λ (t : ModelState). t.stamp) c.1 in absurd (omega (arith, keys, high, same, lt))
              | inl c ↦
                  let done : is_done_noted x ≡ true = ap is_done_answer p.answer ∙ c.0 in
                  let at : r.stamp ≡ x.entry.stamp = omega (arith, keys, done_rank x.entry.answer done, lt, p.stamp, c.1) in
                  absurd (not_again s.stamp ordered before xs x st e done (subst (λ n. In n (done_stamps before)) at q))
            ]
      ]
    ]

-- what holds after all entries
pub record Followed (s : ModelState) (h : List Event) (ordered before xs : List Noted) (r : ModelState) : Type 0 where
  pub fit : AllFitAt r xs
  pub through : Through s h (after r (map event_of xs))
  pub high : (y : Noted) → In y ordered → y.entry.stamp ≤ (after r (map event_of xs)).stamp

pub follow : (s : ModelState) (h : List Event) (ordered : List Noted) → Stamped s.stamp ordered → ((x : Noted) → In x ordered → NotedAt s h x.machine x.entry) → (before xs : List Noted) (r : ModelState) → ordered ≡ before ++ xs → Through s h r → Reached s before r → Followed s h ordered before xs r
follow s h ordered st points before [] r e thr reached =
    record { fit = tt; through = thr; high = λ y k. reached.high y (subst (In y) (e ∙ append-nil before) k) }
follow s h ordered st points before (x ∷ xs) r e thr reached =
    let k : In x ordered = subst (In x) (sym e) (in_append_right before (x ∷ xs) x (inl refl)) in
    let p = points x k in
    let stamps : p.at.stamp ≡ r.stamp = omega (arith, not_above s h ordered before xs x r st e reached p k, not_below s h ordered before xs x r st e reached p) in
    let at : p.at ≡ r = through_one s h p.at r p.through thr stamps in
    let here : FitsAt r x = record {
      answer = p.answer ∙ ap (λ t. reply t x.machine x.entry.call) at;
      stamp = p.stamp ∙ ap (λ t. (next t x.machine x.entry.call).stamp) at;
    } in
    let rest = follow s h ordered st points (before ++ x ∷ []) xs (next r x.machine x.entry.call) (e ∙ sym (append_assoc before (x ∷ []) xs)) (subst (λ t. Through s h (next t x.machine x.entry.call)) at p.then) (reached_more s before r x reached here) in
    record { fit = (here, rest.fit); through = rest.through; high = rest.high }
