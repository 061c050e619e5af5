-- Entries that each fit are a legal history, and each machine noted its own.
use Rattle.cell_report.proofs.Names.{◌≡◌, Option, ℕ, Bool, true, false, cond, inl, inr, List, [], ◌∷◌, map, filter, refl, sym, ap, ◌∙◌, subst, Machine, Event, Entry, same_machine, ModelState, next, IsLegal, noted, entry_of, event_by, IsAudited, EndsIn, Noted, noted_from, all_noted, event_of, greatest, key_at, InOrder, AllFit, HasStamps, Retraced, Retraces, In, in_permutation, from_filter}
use Rattle.cell_rules.proofs.lemmas.Notes.{events_of_noted}
use Rattle.cell_report.proofs.Own.{is_of, entry_in, entries_of, own_entries}
use Rattle.cell_report.proofs.Rising.{Rises, rises_from}
use Rattle.cell_report.proofs.Turns.{rises_in_turn}
use Rattle.cell_report.proofs.Classes.{same_classes, filter_swap, rises_filter, ties_with}
use Rattle.cell_report.proofs.Points.{AllFitAt, all_fit_at, stamped, reached_first}

fit_legal : (s : ModelState) (xs : List Noted) → AllFitAt s xs → IsLegal s (map event_of xs)
fit_legal s [] fit = tt
fit_legal s (x ∷ xs) fit = (fit.0.answer, fit_legal (next s x.machine x.entry.call) xs fit.1)

join : (b : Bool) (e : Entry) (x : Noted) (es : List Entry) (xs : List Noted) → e ≡ x.entry → es ≡ map entry_in xs → cond b (e ∷ es) es ≡ map entry_in (cond b (x ∷ xs) xs)
join true e x es xs p q = cc
join false e x es xs p q = q

fit_noted : (s : ModelState) (xs : List Noted) (m : Machine) → AllFitAt s xs → noted s (map event_of xs) m ≡ map entry_in (filter (is_of m) xs)
fit_noted s [] m fit = refl
fit_noted s (x ∷ xs) m fit =
    join (same_machine x.machine m) (entry_of s (event_of x)) x (noted (next s x.machine x.entry.call) (map event_of xs) m) (filter (is_of m) xs)
    (let f : ℕ → Entry = λ t. record { call = x.entry.call; answer = x.entry.answer; stamp = t } in ap f (sym fit.0.stamp))
    (fit_noted (next s x.machine x.entry.call) xs m fit.1)

turn_of_fit : (s r : ModelState) (xs : List Noted) (x : Noted) → AllFit s r xs → In x xs → x.in_turn ≡ true
turn_of_fit s r [] x fit i = absurd i
turn_of_fit s r (y ∷ ys) x fit (inl q) = subst (λ (w : Noted). w.in_turn ≡ true) q fit.0.in_turn
turn_of_fit s r (y ∷ ys) x fit (inr i) = turn_of_fit s (next r y.machine y.entry.call) ys x fit.1 i

-- the entries of one machine, in the order, are those of its journal
own_in_order : (j : Machine → List Entry) (ordered : List Noted) (m : Machine) → InOrder (all_noted j) ordered → Rises (noted_from m [] (j m)) → filter (is_of m) ordered ≡ noted_from m [] (j m)
own_in_order j ordered m o up =
    same_classes (filter (is_of m) ordered) (noted_from m [] (j m)) (rises_filter (is_of m) ordered (rises_from key_at ordered o.rising)) up
    (λ z. filter_swap (ties_with z) (is_of m) ordered ∙ (ap (filter (is_of m)) (o.stable z) ∙ (filter_swap (is_of m) (ties_with z) (all_noted j) ∙ ap (filter (ties_with z)) (own_entries j m))))

fit_own : (s : ModelState) (j : Machine → List Entry) (ordered : List Noted) (m : Machine) → InOrder (all_noted j) ordered → AllFit s s ordered → filter (is_of m) ordered ≡ noted_from m [] (j m)
fit_own s j ordered m o fit =
    own_in_order j ordered m o
    (rises_in_turn m [] (j m)
    (λ z i. turn_of_fit s s ordered z fit (in_permutation (all_noted j) ordered z o.same (from_filter (is_of m) (all_noted j) z (subst (In z) (sym (own_entries j m)) i)).0)))

pub audited : (holds : List Event → Type 0) (s : ModelState) (j : Machine → List Entry) (end : Option ModelState) (t : ℕ) (ordered : List Noted) (reached : ModelState) → HasStamps s.stamp (greatest t (all_noted j)) (all_noted j) ordered → Retraced holds s ordered reached → EndsIn reached end → IsAudited s j end (map event_of ordered)
audited holds s j end t ordered reached k r ends =
    let at : AllFitAt s ordered = all_fit_at s ordered [] ordered s refl (stamped s.stamp t (all_noted j) ordered k) (reached_first s) r.fit in
    let own : (m : Machine) → noted s (map event_of ordered) m ≡ j m = λ m. fit_noted s ordered m at ∙ (ap (map entry_in) (fit_own s j ordered m k.order r.fit) ∙ entries_of m [] (j m)) in
    record {
      legal = fit_legal s ordered at;
      own = λ m. sym (events_of_noted s (map event_of ordered) m) ∙ ap (map (event_by m)) (own m);
      noted = own;
      ends = subst (λ u. EndsIn u end) r.reached ends;
    }

pub retraces : (holds : List Event → Type 0) (s : ModelState) (j : Machine → List Entry) (end : Option ModelState) (t : ℕ) (ordered : List Noted) (reached : ModelState) → HasStamps s.stamp (greatest t (all_noted j)) (all_noted j) ordered → Retraced holds s ordered reached → EndsIn reached end → Retraces holds s j end
retraces holds s j end t ordered reached k r ends = record {
  history = map event_of ordered;
  audited = audited holds s j end t ordered reached k r ends;
  order = (ordered, k.order, refl);
  kept = r.kept;
}
