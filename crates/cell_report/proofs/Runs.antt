-- The states of a legal history, and at which point each entry was noted.
use Rattle.cell_report.proofs.Names.{◌≡◌, ◌+◌, ◌*◌, ◌≤◌, Bool, true, false, cond, ◌⊎◌, inl, inr, List, [], ◌∷◌, ◌++◌, refl, sym, ap, ◌∙◌, subst, arith, Machine, Call, Answer, Done, Shown, Refused, Event, same_machine, one_machine, Entry, ModelState, reply, next, next_by, after, IsLegal, is_done_answer, noted, entry_of, state_left, Noted, noted_from, rank, In}
use Rattle.cell_report.proofs.Rising.{Rises, done_rank, other_rank}

by_answer : (a : Answer) (s : ModelState) (m : Machine) (c : Call) → ((is_done_answer a ≡ true) × ((next_by a s m c).stamp ≡ s.stamp + 1)) ⊎ ((is_done_answer a ≡ false) × (next_by a s m c ≡ s))
by_answer Done s m c = inl (refl, refl)
by_answer (Shown _ _ _) s m c = inr (refl, refl)
by_answer (Refused _) s m c = inr (refl, refl)

-- a Done call adds one to the stamp, and any other changes nothing
pub next_cases : (s : ModelState) (m : Machine) (c : Call) → ((is_done_answer (reply s m c) ≡ true) × ((next s m c).stamp ≡ s.stamp + 1)) ⊎ ((is_done_answer (reply s m c) ≡ false) × (next s m c ≡ s))
next_cases s m c = by_answer (reply s m c) s m c

pub stamp_rises : (s : ModelState) (m : Machine) (c : Call) → s.stamp ≤ (next s m c).stamp
stamp_rises s m c = elim (next_cases s m c) [ inl e ↦ omega (arith, e.1) | inr e ↦ let p = ap (λ (t : ModelState). t.stamp) e.1 in omega (arith, p) ]

-- a state that the history passes through
abbrev pub Through : ModelState → List Event → ModelState → Type 0
Through s [] t = s ≡ t
Through s (e ∷ h) t = (s ≡ t) ⊎ Through (state_left s e) h t

pub through_first : (s : ModelState) (h : List Event) → Through s h s
through_first s [] = refl
through_first s (e ∷ h) = inl refl

pub through_last : (s : ModelState) (h : List Event) → Through s h (after s h)
through_last s [] = refl
through_last s (e ∷ h) = inr (through_last (state_left s e) h)

pub through_low : (s : ModelState) (h : List Event) (t : ModelState) → Through s h t → s.stamp ≤ t.stamp
through_low s [] t e = let p = ap (λ (u : ModelState). u.stamp) e in omega (arith, p)
through_low s (f ∷ h) t (inl e) = let p = ap (λ (u : ModelState). u.stamp) e in omega (arith, p)
through_low s (f ∷ h) t (inr k) = omega (arith, stamp_rises s f.machine f.call, through_low (state_left s f) h t k)

pub through_high : (s : ModelState) (h : List Event) (t : ModelState) → Through s h t → t.stamp ≤ (after s h).stamp
through_high s [] t e = let p = ap (λ (u : ModelState). u.stamp) e in omega (arith, p)
through_high s (f ∷ h) t (inl e) = let p = ap (λ (u : ModelState). u.stamp) e in omega (arith, p, stamp_rises s f.machine f.call, through_high (state_left s f) h (state_left s f) (through_first (state_left s f) h))
through_high s (f ∷ h) t (inr k) = through_high (state_left s f) h t k

-- two such states with one stamp are the same
first_and : (s : ModelState) (f : Event) (h : List Event) (a b : ModelState) → s ≡ a → Through (state_left s f) h b → a.stamp ≡ b.stamp → ((a b : ModelState) → Through (state_left s f) h a → Through (state_left s f) h b → a.stamp ≡ b.stamp → a ≡ b) → a ≡ b
first_and s f h a b e k q same =
    elim (next_cases s f.machine f.call) [
      | inl d ↦ let p = ap (λ (u : ModelState). u.stamp) e in absurd (omega (arith, d.1, through_low (state_left s f) h b k, p, q))
      | inr d ↦ same a b (subst (Through (state_left s f) h) (d.1 ∙ e) (through_first (state_left s f) h)) k q
    ]

pub through_one : (s : ModelState) (h : List Event) (a b : ModelState) → Through s h a → Through s h b → a.stamp ≡ b.stamp → a ≡ b
through_one s [] a b e k q = sym e ∙ k
through_one s (f ∷ h) a b (inl e) (inl k) q = sym e ∙ k
through_one s (f ∷ h) a b (inl e) (inr k) q = first_and s f h a b e k q (through_one (state_left s f) h)
through_one s (f ∷ h) a b (inr e) (inl k) q = sym (first_and s f h b a k e (sym q) (through_one (state_left s f) h))
through_one s (f ∷ h) a b (inr e) (inr k) q = through_one (state_left s f) h a b e k q

-- the point of a history at which a machine noted an entry
pub record NotedAt (s : ModelState) (h : List Event) (m : Machine) (e : Entry) : Type 0 where
  pub at : ModelState
  pub through : Through s h at
  pub then : Through s h (next at m e.call)
  pub answer : e.answer ≡ reply at m e.call
  pub stamp : e.stamp ≡ (next at m e.call).stamp

further : (s : ModelState) (f : Event) (h : List Event) (m : Machine) (e : Entry) → NotedAt (state_left s f) h m e → NotedAt s (f ∷ h) m e
further s f h m e p = record { at = p.at; through = inr p.through; then = inr p.then; answer = p.answer; stamp = p.stamp }

here : (s : ModelState) (f : Event) (h : List Event) (m : Machine) (e : Entry) → f.answer ≡ reply s f.machine f.call → f.machine ≡ m → entry_of s f ≡ e → NotedAt s (f ∷ h) m e
here s f h m e a p q =
    let P : Machine → Type 0 = λ n. NotedAt s (f ∷ h) n e in
    let Q : Entry → Type 0 = λ d. NotedAt s (f ∷ h) f.machine d in
    subst P p (subst Q q (record { at = s; through = inl refl; then = inr (through_first (state_left s f) h); answer = a; stamp = refl }))

point_by : (b : Bool) (s : ModelState) (f : Event) (h : List Event) (m : Machine) (e : Entry) → same_machine f.machine m ≡ b → f.answer ≡ reply s f.machine f.call → (In e (noted (state_left s f) h m) → NotedAt (state_left s f) h m e) → In e (cond b (entry_of s f ∷ noted (state_left s f) h m) (noted (state_left s f) h m)) → NotedAt s (f ∷ h) m e
point_by true s f h m e b a rest (inl k) = here s f h m e a (one_machine f.machine m b) k
point_by true s f h m e b a rest (inr k) = further s f h m e (rest k)
point_by false s f h m e b a rest k = further s f h m e (rest k)

pub point : (s : ModelState) (h : List Event) (m : Machine) (e : Entry) → IsLegal s h → In e (noted s h m) → NotedAt s h m e
point s [] m e legal k = absurd k
point s (f ∷ h) m e legal k = point_by (same_machine f.machine m) s f h m e refl legal.0 (point (state_left s f) h m e legal.1) k

-- each entry's key is above that of the state before it, and not above that of the state after it
pub key : (m : Machine) (p : ModelState) (e : Entry) → e.answer ≡ reply p m e.call → e.stamp ≡ (next p m e.call).stamp → (2 * p.stamp + 1 ≤ 2 * e.stamp + rank e.answer) × (2 * e.stamp + rank e.answer ≤ 2 * (next p m e.call).stamp + 1)
key m p e a s =
    elim (next_cases p m e.call) [
      | inl d ↦ let r = done_rank e.answer (ap is_done_answer a ∙ d.0) in (omega (arith, r, d.1, s), omega (arith, r, d.1, s))
      | inr d ↦ let r = other_rank e.answer (ap is_done_answer a ∙ d.0) in let q = ap (λ (u : ModelState). u.stamp) d.1 in (omega (arith, r, q, s), omega (arith, r, q, s))
    ]

pub in_from : (m : Machine) (earlier es : List Entry) (z : Noted) → In z (noted_from m earlier es) → (z.machine ≡ m) × In z.entry es
in_from m earlier [] z h = absurd h
in_from m earlier (e ∷ es) z (inl q) = (sym (ap (λ (w : Noted). w.machine) q), inl (ap (λ (w : Noted). w.entry) q))
in_from m earlier (e ∷ es) z (inr h) = let r = in_from m (earlier ++ e ∷ []) es z h in (r.0, inr r.1)

rises_by : (b : Bool) (s : ModelState) (f : Event) (h : List Event) (m : Machine) (earlier : List Entry) → IsLegal s (f ∷ h) → same_machine f.machine m ≡ b → ((earlier : List Entry) → Rises (noted_from m earlier (noted (state_left s f) h m))) → Rises (noted_from m earlier (cond b (entry_of s f ∷ noted (state_left s f) h m) (noted (state_left s f) h m)))
rises_by true s f h m earlier legal b rest = (
  λ z i.
      let w = in_from m (earlier ++ entry_of s f ∷ []) (noted (state_left s f) h m) z i in
      let p = point (state_left s f) h m z.entry legal.1 w.1 in
      omega (arith, (key f.machine s (entry_of s f) legal.0 refl).1, through_low (state_left s f) h p.at p.through, (key m p.at z.entry p.answer p.stamp).0),
  rest (earlier ++ entry_of s f ∷ []),
)
rises_by false s f h m earlier legal b rest = rest earlier

-- the entries that a machine notes of a legal history rise
pub journal_rises : (s : ModelState) (h : List Event) (m : Machine) (earlier : List Entry) → IsLegal s h → Rises (noted_from m earlier (noted s h m))
journal_rises s [] m earlier legal = tt
journal_rises s (f ∷ h) m earlier legal = rises_by (same_machine f.machine m) s f h m earlier legal refl (λ l. journal_rises (state_left s f) h m l legal.1)
