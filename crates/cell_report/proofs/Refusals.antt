-- Journals that an audit refuses have no history.
use Rattle.cell_report.proofs.Names.{◌≡◌, ◌≢◌, ℕ, ◌<◌, ◌≤◌, max, inl, inr, List, ◌∷◌, ◌++◌, [], map, Option, Some, None, Result, Ok, Err, IfErr, IfSome, refl, ap, ◌∙◌, subst, arith, true, cases_lt, Machine, Event, Entry, ModelState, next, after, IsLegal, is_done_answer, noted, IsAudited, EndsIn, HasNoHistory, Noted, AuditFault, all_noted, event_of, greatest, is_done_noted, done_stamps, Fits, AllFit, HasStamps, IsFault, end_stamp, top_of, In, in_permutation, in_permutation_back}
use Rattle.cell_report.specs.declared.audit_faults.AuditFault.TheVariants.{Twice, Gap, Differs, End, Memory}
use Rattle.cell_report.proofs.Rising.{to_done}
use Rattle.cell_report.proofs.Times.{stands_done, stands_in}
use Rattle.cell_report.proofs.Checks.{greatest_below}
use Rattle.cell_report.proofs.Runs.{through_first, through_last, through_low, through_high, through_one}
use Rattle.cell_report.proofs.Points.{stamped, reached_first, all_fit_from}
use Rattle.cell_report.proofs.Complete.{Followed, follow, noted_point, noted_in_turn}
use Rattle.cell_report.proofs.Counts.{done_in_run, in_journals, at_most_once}

followed : (s : ModelState) (j : Machine → List Entry) (h : List Event) (t : ℕ) (ordered : List Noted) → IsLegal s h → ((m : Machine) → noted s h m ≡ j m) → HasStamps s.stamp (greatest t (all_noted j)) (all_noted j) ordered → Followed s h ordered [] ordered s
followed s j h t ordered legal own k =
    follow s h ordered (stamped s.stamp t (all_noted j) ordered k) (λ x i. noted_point s j h x legal own (in_permutation_back (all_noted j) ordered x k.order.same i)) [] ordered s refl (through_first s h) (reached_first s)

all_fit : (s : ModelState) (j : Machine → List Entry) (h : List Event) (t : ℕ) (ordered : List Noted) → IsLegal s h → ((m : Machine) → noted s h m ≡ j m) → HasStamps s.stamp (greatest t (all_noted j)) (all_noted j) ordered → AllFit s s ordered
all_fit s j h t ordered legal own k =
    all_fit_from s s ordered (omega arith) (λ x i. noted_in_turn s j h x legal own (in_permutation_back (all_noted j) ordered x k.order.same i)) (followed s j h t ordered legal own k).fit

pub fit_at : (s r : ModelState) (before : List Noted) (x : Noted) (rest : List Noted) → AllFit s r (before ++ x ∷ rest) → Fits s (after r (map event_of before)) x
fit_at s r [] x rest fit = fit.0
fit_at s r (y ∷ before) x rest fit = fit_at s (next r y.machine y.entry.call) before x rest fit.1

-- the Done entry of a stamp that the history reaches
done_noted : (s : ModelState) (j : Machine → List Entry) (h : List Event) (r : ℕ) → IsLegal s h → ((m : Machine) → noted s h m ≡ j m) → s.stamp < r → r ≤ (after s h).stamp → (x : Noted) × In x (all_noted j) × (is_done_noted x ≡ true) × (x.entry.stamp ≡ r)
done_noted s j h r legal own low high =
    let d = done_in_run s h r legal low high in
    let x = in_journals j d.machine d.entry (subst (In d.entry) (own d.machine) d.noted_by) in
    (x.0, x.1, ap (λ (e : Entry). is_done_answer e.answer) x.2 ∙ d.done, ap (λ (e : Entry). e.stamp) x.2 ∙ d.stamp)

end_within : (s : ModelState) (h : List Event) (end : Option ModelState) → EndsIn (after s h) end → end_stamp end ≤ (after s h).stamp
end_within s h None e = omega arith
end_within s h (Some t) e = let p = ap (λ (u : ModelState). u.stamp) e in omega (arith, p)

top_within : (s : ModelState) (j : Machine → List Entry) (end : Option ModelState) (h : List Event) → IsAudited s j end h → top_of s end (all_noted j) ≤ (after s h).stamp
top_within s j end h a =
    greatest_below (max s.stamp (end_stamp end)) (after s h).stamp (all_noted j)
    (omega (arith, end_within s h end a.ends, through_low s h (after s h) (through_last s h)))
    (λ x i. let p = noted_point s j h x a.legal a.noted i in omega (arith, p.stamp, through_high s h (next p.at x.machine x.entry.call) p.then))

same_end : (s : ModelState) (j : Machine → List Entry) (h : List Event) (t : ℕ) (ordered : List Noted) → IsLegal s h → ((m : Machine) → noted s h m ≡ j m) → HasStamps s.stamp (greatest t (all_noted j)) (all_noted j) ordered → after s h ≡ after s (map event_of ordered)
same_end s j h t ordered legal own k =
    let f = followed s j h t ordered legal own k in
    let q : ModelState = after s (map event_of ordered) in
    let high = through_high s h q f.through in
    let low : (after s h).stamp ≤ q.stamp =
    elim (cases_lt q.stamp (after s h).stamp) [
      | inr le ↦ le
      | inl lt ↦
          let x = done_noted s j h (after s h).stamp legal own (omega (arith, through_low s h q f.through, lt)) (omega arith) in
          absurd (omega (arith, f.high x.0 (in_permutation (all_noted j) ordered x.0 k.order.same x.1), x.3, lt))
    ] in
    through_one s h (after s h) q (through_last s h) f.through (omega (arith, high, low))

pub refused : (s : ModelState) (j : Machine → List Entry) (end : Option ModelState) (fault : AuditFault) → IsFault s j end fault → fault ≢ Memory → HasNoHistory s j end
refused s j end (Twice r) f n = λ h a. omega (arith, f.twice, at_most_once s j h r a.legal a.noted)
refused s j end (Gap r) f n = λ h a.
    let g = f.1 in
    let x = done_noted s j h r a.legal a.noted g.later (omega (arith, g.within, top_within s j end h a)) in
    let one = stands_in r (done_stamps (all_noted j)) (subst (λ n. In n (done_stamps (all_noted j))) x.3 (to_done (all_noted j) x.0 x.1 x.2)) in
    omega (arith, one, stands_done (all_noted j) r, g.missing)
refused s j end (Differs r) f n = λ h a.
    let m = f.2 in
    m.misfit (fit_at s s m.before m.x m.rest (subst (AllFit s s) m.split (all_fit s j h (max s.stamp (end_stamp end)) f.0 a.legal a.noted f.1)))
refused s j end End f n = λ h a. f.2.misses (subst (λ t. EndsIn t end) (same_end s j h (max s.stamp (end_stamp end)) f.0 a.legal a.noted f.1) a.ends)
refused s j end Memory f n = absurd (n refl)

pub refused_if : {X : Type 0} (s : ModelState) (j : Machine → List Entry) (end : Option ModelState) (r : Result X AuditFault) → IfErr r (λ fault. IsFault s j end fault) → IfErr r (λ fault. fault ≢ Memory → HasNoHistory s j end)
refused_if s j end (Ok x) f = tt
refused_if s j end (Err e) f = refused s j end e f

pub refused_if_some : (s : ModelState) (j : Machine → List Entry) (end : Option ModelState) (o : Option AuditFault) → IfSome o (λ fault. IsFault s j end fault) → IfSome o (λ fault. fault ≢ Memory → HasNoHistory s j end)
refused_if_some s j end None f = tt
refused_if_some s j end (Some e) f = refused s j end e f
