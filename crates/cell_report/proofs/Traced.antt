-- One entry more of a trace.
use Rattle.cell_report.proofs.Names.{MatchOption, is_some, Result, Ok, Err, append-nil, ◌≡◌, ℕ, max, true, false, Option, Some, None, List, [], ◌∷◌, ◌++◌, ◌+◌, zero, suc, map, replicate, refl, sym, ap, subst, ◌∙◌, arith, append_assoc, fold_push, map-append, replicate_more, replicate-append-replicate, Noted, Event, ModelState, next, Trace, Fits, IsMisfit, Retraced, IsTrace, IsTraceOf, Repeats, InOrder, event_of, stamp_of, done_stamps, greatest}
use Rattle.std.specs.Result.{IfOk}
use Rattle.cell_report.proofs.Rising.{done_stamps-append}
use Rattle.cell_report.proofs.Retraces.{retraced_more, misfit_stays}

-- a trace whose stamps have one entry more than what fits
pub record IsStamped (holds : List Event → Type 0) (start : ModelState) (least : ℕ) (before : List Noted) (x : Noted) (t : Trace) : Type 0 where
  pub stamps : t.stamps.items ≡ done_stamps (before ++ x ∷ [])
  pub top : t.top ≡ greatest least (before ++ x ∷ [])
  pub fit : MatchOption t.misfit (Retraced holds start before t.state) (IsMisfit start before)

pub stamped : (holds : List Event → Type 0) (start : ModelState) (least : ℕ) (before : List Noted) (x : Noted) (s t : Trace) → IsTrace holds start least before s → t.stamps.items ≡ s.stamps.items ++ done_stamps (x ∷ []) → t.top ≡ max s.top (stamp_of x) → t.misfit ≡ s.misfit → t.state ≡ s.state
    → IsStamped holds start least before x t
stamped holds start least before x s t is stamps top m u = record {
  stamps = stamps ∙ (ap (λ l. l ++ done_stamps (x ∷ [])) is.stamps ∙ sym (done_stamps-append before (x ∷ [])));
  top = top ∙ (ap (λ n. max n (stamp_of x)) is.top ∙ sym (fold_push (λ t y. max t (stamp_of y)) least before x));
  fit = rw (m, u) is.fit;
}

pub fit_more : (old new : List Event → Type 0) (start : ModelState) (before : List Noted) (x : Noted) (m : Option ℕ) (now then : ModelState) → m ≡ None → MatchOption m (Retraced old start before now) (IsMisfit start before) → Fits start now x → ((held : List Event) → old held → new (held ++ event_of x ∷ [])) → then ≡ next now x.machine x.entry.call
    → MatchOption m (Retraced new start (before ++ x ∷ []) then) (IsMisfit start (before ++ x ∷ []))
fit_more old new start before x m now then none r fits keeps n = rw (none, n) (retraced_more old new start before x now (rw none at r) fits keeps)

pub none_from : (m : Option ℕ) → is_some m ≡ false → m ≡ None
none_from None e = refl
none_from (Some n) e = cc

pub fit_stays : (holds : List Event → Type 0) (start : ModelState) (before : List Noted) (x : Noted) (m : Option ℕ) (now : ModelState) → is_some m ≡ true → MatchOption m (Retraced holds start before now) (IsMisfit start before)
    → MatchOption m (Retraced holds start (before ++ x ∷ []) now) (IsMisfit start (before ++ x ∷ []))
fit_stays holds start before x None now some f = absurd (cc)
fit_stays holds start before x (Some stamp) now some f = misfit_stays start before (x ∷ []) stamp f

-- a trace of no entries, after all entries in the order
pub trace_in_order : {E : Type 0} (old new : List Event → Type 0) (start : ModelState) (least : ℕ) (all ordered : List Noted) (first : Trace) (r : Result Trace E) → InOrder all ordered → IsTrace old start least [] first → IfOk r (λ t. (n : ℕ) → IsTrace old start n [] first → IsTrace new start n ordered t) → IfOk r (IsTraceOf new start least all)
trace_in_order old new start least all ordered first (Ok t) order none f = record { ordered = ordered; order = order; is = f least none }
trace_in_order old new start least all ordered first (Err e) order none f = tt

-- the events of these entries, and no others
abbrev Exactly : List Noted → List Event → Type 0
Exactly ordered events = events ≡ map event_of ordered

-- an entry that fits again and changes nothing
once_more : (start : ModelState) (least : ℕ) (before : List Noted) (x : Noted) (t : Trace) → Repeats start x t → IsTrace (Exactly before) start least before t → IsTrace (Exactly (before ++ x ∷ [])) start least (before ++ x ∷ []) t
once_more start least before x t again is = record {
  stamps = is.stamps ∙ (sym (append-nil (done_stamps before)) ∙ (ap (λ l. done_stamps before ++ l) (rw again.other refl) ∙ sym (done_stamps-append before (x ∷ []))));
  top = omega (arith, is.top, fold_push (λ t y. max t (stamp_of y)) least before x, again.within);
  fit = fit_more (Exactly before) (Exactly (before ++ x ∷ [])) start before x t.misfit t.state t.state again.fitted is.fit again.fits
      (λ held e. ap (λ l. l ++ event_of x ∷ []) e ∙ sym (map-append event_of before (x ∷ []))) (sym again.same);
}

times_more : (start : ModelState) (least : ℕ) (n : ℕ) (before : List Noted) (x : Noted) (t : Trace) → Repeats start x t → IsTrace (Exactly before) start least before t → IsTrace (Exactly (before ++ replicate n x)) start least (before ++ replicate n x) t
times_more start least zero before x t again is = subst (λ l. IsTrace (Exactly l) start least l t) (sym (append-nil before)) is
times_more start least (suc n) before x t again is =
    subst (λ l. IsTrace (Exactly l) start least l t) (append_assoc before (x ∷ []) (replicate n x))
    (times_more start least n (before ++ x ∷ []) x t again (once_more start least before x t again is))

events_of_run : (n : ℕ) (before : List Noted) (x : Noted) → map event_of (before ++ replicate n x) ≡ map event_of before ++ replicate n (event_of x)
events_of_run n before x = map-append event_of before (replicate n x) ∙ ap (λ l. map event_of before ++ l) (same n x)
  where
    same : (n : ℕ) (x : Noted) → map event_of (replicate n x) ≡ replicate n (event_of x)
    same zero x = refl
    same (suc n) x = ap (λ l. event_of x ∷ l) (same n x)

pub taken_again : (old new : List Event → Type 0) (start : ModelState) (least : ℕ) (before : List Noted) (x : Noted) (n : ℕ) (t : Trace) → IsTrace old start least before t → Repeats start x t → ((held : List Event) → old held → new (held ++ replicate n (event_of x)))
    → IsTrace new start least (before ++ replicate n x) t
taken_again old new start least before x n t is again keeps =
    let now : Retraced old start before t.state = rw again.fitted at is.fit in
    let alone : Retraced (Exactly before) start before t.state = record { fit = now.fit; kept = refl; reached = now.reached } in
    let first : IsTrace (Exactly before) start least before t = record { stamps = is.stamps; top = is.top; fit = rw again.fitted alone } in
    let last : IsTrace (Exactly (before ++ replicate n x)) start least (before ++ replicate n x) t = times_more start least n before x t again first in
    let then : Retraced (Exactly (before ++ replicate n x)) start (before ++ replicate n x) t.state = rw again.fitted at last.fit in
    let all : Retraced new start (before ++ replicate n x) t.state = record { fit = then.fit; kept = subst new (sym (events_of_run n before x)) (keeps (map event_of before) now.kept); reached = then.reached } in
    record { stamps = last.stamps; top = last.top; fit = rw again.fitted all }

-- all that is left of a run
pub taken_rest : (old new : List Event → Type 0) (start : ModelState) (least : ℕ) (before : List Noted) (x : Noted) (n left count : ℕ) (t : Trace) → IsTrace old start least ((before ++ replicate n x) ++ x ∷ []) t → Repeats start x t → ((held : List Event) → old held → new (held ++ replicate left (event_of x)))
    → n + 1 + left ≡ count → IsTrace new start least (before ++ replicate count x) t
taken_rest old new start least before x n left count t is again keeps e =
    let one : (before ++ replicate n x) ++ x ∷ [] ≡ before ++ replicate (n + 1) x = append_assoc before (replicate n x) (x ∷ []) ∙ ap (λ l. before ++ l) (replicate_more n x) in
    let whole : (before ++ replicate (n + 1) x) ++ replicate left x ≡ before ++ replicate count x =
    append_assoc before (replicate (n + 1) x) (replicate left x) ∙ ap (λ l. before ++ l) (replicate-append-replicate (n + 1) left x ∙ ap (λ k. replicate k x) e) in
    subst (λ l. IsTrace new start least l t) whole (taken_again old new start least (before ++ replicate (n + 1) x) x left t (subst (λ l. IsTrace old start least l t) one is) again keeps)

-- the same, if there was memory for the events
pub told_rest : {A E : Type 0} (first old new : List Event → Type 0) (start : ModelState) (s : Trace) (x : Noted) (n left count : ℕ) (t : Trace) (r : Result A E) → ((least : ℕ) (before : List Noted) → IsTrace first start least before s → IsTrace old start least ((before ++ replicate n x) ++ x ∷ []) t)
    → Repeats start x t → n + 1 + left ≡ count → IfOk r (λ _. (held : List Event) → old held → new (held ++ replicate left (event_of x)))
    → IfOk r (λ _. (least : ℕ) (before : List Noted) → IsTrace first start least before s → IsTrace new start least (before ++ replicate count x) t)
told_rest first old new start s x n left count t (Ok a) taken again e keeps = λ least before is. taken_rest old new start least before x n left count t (taken least before is) again keeps e
told_rest first old new start s x n left count t (Err a) taken again e keeps = tt
