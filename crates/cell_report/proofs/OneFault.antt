-- Entries have one order, and journals one fault.
use Rattle.cell_report.proofs.Names.{◌≡◌, ◌≢◌, ℕ, ◌<◌, inl, inr, List, [], ◌∷◌, ◌++◌, map, Option, sym, ap, ◌∙◌, subst, refl, arith, cases_lt, ModelState, next, after, Noted, AuditFault, all_noted, event_of, key_at, AllFit, Fits, HasNoGap, HasNoTwice, IsFaultOf, IsGap, IsMisfit, IsTwice, MissesEnd}
use Rattle.cell_report.specs.declared.audit_faults.AuditFault.TheVariants.{Twice, Gap, Differs, End, Memory}
use Rattle.cell_report.specs.AuditLaws.{FaultIsOne, OrderIsOne}
use Rattle.cell_report.proofs.Rising.{rises_from}
use Rattle.cell_report.proofs.Classes.{same_classes}
use Rattle.cell_report.proofs.Refusals.{fit_at}

pub order_is_one : OrderIsOne
order_is_one all one other a b = same_classes one other (rises_from key_at one a.rising) (rises_from key_at other b.rising) (λ z. a.stable z ∙ sym (b.stable z))

neither_first : (s t : ℕ) → (s < t → ⊥) → (t < s → ⊥) → s ≡ t
neither_first s t f g = elim (cases_lt s t) [ inl k ↦ absurd (f k) | inr k ↦ elim (cases_lt t s) [ inl l ↦ absurd (g l) | inr l ↦ omega arith ] ]

one_twice : (count : ℕ → ℕ) (s t : ℕ) → IsTwice count s → IsTwice count t → s ≡ t
one_twice count s t a b = neither_first s t (λ k. omega (arith, a.twice, b.least s k)) (λ k. omega (arith, b.twice, a.least t k))

one_gap : (start top : ℕ) (count : ℕ → ℕ) (s t : ℕ) → IsGap start top count s → IsGap start top count t → s ≡ t
one_gap start top count s t a b =
    neither_first s t (λ k. omega (arith, a.missing, b.least s a.later k)) (λ k. omega (arith, b.missing, a.least t b.later k))

not_twice : {A : Type 0} (count : ℕ → ℕ) (s : ℕ) → IsTwice count s → HasNoTwice count → A
not_twice count s a b = absurd (omega (arith, a.twice, b s))

not_gap : {A : Type 0} (start top : ℕ) (count : ℕ → ℕ) (s : ℕ) → IsGap start top count s → HasNoGap start top count → A
not_gap start top count s a b = absurd (omega (arith, a.missing, b s a.later a.within))

-- only one entry is the first that doesn't fit
first_misfit : (start now : ModelState) (before others : List Noted) (x y : Noted) (rest more : List Noted) → before ++ x ∷ rest ≡ others ++ y ∷ more
    → AllFit start now before → ¬ Fits start (after now (map event_of before)) x → AllFit start now others → ¬ Fits start (after now (map event_of others)) y → x ≡ y
first_misfit start now [] [] x y rest more e f n g m = cc
first_misfit start now [] (z ∷ others) x y rest more e f n g m = let same : z ≡ x = cc in absurd (n (subst (Fits start now) same g.0))
first_misfit start now (z ∷ before) [] x y rest more e f n g m = let same : z ≡ y = cc in absurd (m (subst (Fits start now) same f.0))
first_misfit start now (z ∷ before) (w ∷ others) x y rest more e f n g m =
    let same : w ≡ z = cc in
    let tails : before ++ x ∷ rest ≡ others ++ y ∷ more = cc in
    first_misfit start (next now z.machine z.entry.call) before others x y rest more tails f.1 n
    (subst (λ (v : Noted). AllFit start (next now v.machine v.entry.call) others) same g.1)
    (subst (λ (v : Noted). ¬ Fits start (after (next now v.machine v.entry.call) (map event_of others)) y) same m)

one_misfit : (start : ModelState) (ordered : List Noted) (s t : ℕ) → IsMisfit start ordered s → IsMisfit start ordered t → s ≡ t
one_misfit start ordered s t a b =
    let same : a.x ≡ b.x = first_misfit start start a.before b.before a.x b.x a.rest b.rest (sym a.split ∙ b.split) a.fit a.misfit b.fit b.misfit in
    a.is ∙ (ap (λ (x : Noted). x.entry.stamp) same ∙ sym b.is)

not_misfit : {A : Type 0} (start : ModelState) (ordered : List Noted) (s : ℕ) (end : Option ModelState) → IsMisfit start ordered s → MissesEnd start ordered end → A
not_misfit start ordered s end a b = absurd (a.misfit (fit_at start start a.before a.x a.rest (subst (AllFit start start) a.split b.fit)))

one_of : (start : ModelState) (end : Option ModelState) (all : List Noted) (one other : AuditFault) → IsFaultOf start end all one → IsFaultOf start end all other → one ≢ Memory → other ≢ Memory → one ≡ other
one_of start end all (Twice s) (Twice t) f g n m = ap Twice (one_twice _ s t f g)
one_of start end all (Twice s) (Gap t) f g n m = not_twice _ s f g.0
one_of start end all (Twice s) (Differs t) f g n m = not_twice _ s f g.1.no_twice
one_of start end all (Twice s) End f g n m = not_twice _ s f g.1.no_twice
one_of start end all (Gap s) (Twice t) f g n m = not_twice _ t g f.0
one_of start end all (Gap s) (Gap t) f g n m = ap Gap (one_gap _ _ _ s t f.1 g.1)
one_of start end all (Gap s) (Differs t) f g n m = not_gap _ _ _ s f.1 g.1.no_gap
one_of start end all (Gap s) End f g n m = not_gap _ _ _ s f.1 g.1.no_gap
one_of start end all (Differs s) (Twice t) f g n m = not_twice _ t g f.1.no_twice
one_of start end all (Differs s) (Gap t) f g n m = not_gap _ _ _ t g.1 f.1.no_gap
one_of start end all (Differs s) (Differs t) f g n m = ap Differs (one_misfit start g.0 s t (subst (λ l. IsMisfit start l s) (order_is_one all f.0 g.0 f.1.order g.1.order) f.2) g.2)
one_of start end all (Differs s) End f g n m = not_misfit start g.0 s end (subst (λ l. IsMisfit start l s) (order_is_one all f.0 g.0 f.1.order g.1.order) f.2) g.2
one_of start end all End (Twice t) f g n m = not_twice _ t g f.1.no_twice
one_of start end all End (Gap t) f g n m = not_gap _ _ _ t g.1 f.1.no_gap
one_of start end all End (Differs t) f g n m = not_misfit start f.0 t end (subst (λ l. IsMisfit start l t) (order_is_one all g.0 f.0 g.1.order f.1.order) g.2) f.2
one_of start end all End End f g n m = refl
one_of start end all Memory other f g n m = absurd (n refl)
one_of start end all one Memory f g n m = absurd (m refl)

pub fault_is_one : FaultIsOne
fault_is_one start journals end one other f g n m = one_of start end (all_noted journals) one other f g n m
