-- From one entry to the next.
use Rattle.cell_report.proofs.Names.{◌≡◌, ℕ, List, [], ◌∷◌, ◌++◌, map, refl, sym, ap, ◌∙◌, subst, append_assoc, map-append, Event, ModelState, next, after, Noted, event_of, Fits, AllFit, IsMisfit, Retraced}

after-append : (s : ModelState) (h k : List Event) → after s (h ++ k) ≡ after (after s h) k
after-append s [] k = refl
after-append s (e ∷ h) k = after-append (next s e.machine e.call) h k

all_fit-push : (start now : ModelState) (xs : List Noted) (x : Noted) → AllFit start now xs → Fits start (after now (map event_of xs)) x → AllFit start now (xs ++ x ∷ [])
all_fit-push start now [] x all fits = (fits, tt)
all_fit-push start now (y ∷ ys) x all fits = (all.0, all_fit-push start (next now y.machine y.entry.call) ys x all.1 fits)

pub retraced_more : (old new : List Event → Type 0) (start : ModelState) (before : List Noted) (x : Noted) (now : ModelState) → Retraced old start before now → Fits start now x → ((held : List Event) → old held → new (held ++ event_of x ∷ [])) → Retraced new start (before ++ x ∷ []) (next now x.machine x.entry.call)
retraced_more old new start before x now r fits keeps =
    let events : map event_of (before ++ x ∷ []) ≡ map event_of before ++ event_of x ∷ [] = map-append event_of before (x ∷ []) in
    record {
      fit = all_fit-push start start before x r.fit (subst (λ s. Fits start s x) r.reached fits);
      kept = subst new (sym events) (keeps (map event_of before) r.kept);
      reached = ap (λ s. next s x.machine x.entry.call) r.reached ∙ sym (ap (after start) events ∙ after-append start (map event_of before) (event_of x ∷ []));
    }

-- the first entry that doesn't fit stays the first one
pub misfit_stays : (start : ModelState) (before more : List Noted) (stamp : ℕ) → IsMisfit start before stamp → IsMisfit start (before ++ more) stamp
misfit_stays start before more stamp m = record {
  before = m.before;
  x = m.x;
  rest = m.rest ++ more;
  split = ap (λ l. l ++ more) m.split ∙ append_assoc m.before (m.x ∷ m.rest) more;
  fit = m.fit;
  misfit = m.misfit;
  is = m.is;
}
