-- The cell is stopped by the events exactly where the state after has the mark.
use Rattle.cell_rules.proofs.Names.{◌≡◌, Bool, true, false, ◌&&◌, ◌||◌, not, List, [], ◌∷◌, ◌++◌, ◌⊎◌, inl, inr, refl, sym, ap, ◌∙◌, ◌↔◌, IsTrue, subst, and-true, and-false, or_left, or_right, false_from_ne_true, All-nil, All-cons, All-head, All-tail, Machine, Watch, Turning, Travelling, Running, Call, Claim, Give, SetPose, Stop, Resume, Done, Event, one_machine, ModelState, claim_refusal, give_refusal, pose_refusal, stop_refusal}
use Rattle.cell_rules.proofs.Names.{resume_refusal, reply, next, changed, after, IsLegal, StoppedUntilResumed, is_barred, done, stops, resumes, is_stop, is_resume, NeverResumes, StopsAndStays, IsStopped}
use Rattle.cell_rules.proofs.lemmas.DoneCalls.{not_true, claim_done, give_done, pose_done, stop_done, resume_done}
use Rattle.cell_rules.proofs.lemmas.Soundness.{done_none, event_cases}
use Rattle.cell_rules.proofs.Fitting.{replies_done}
use Rattle.cell_rules.proofs.lemmas.Histories.{legal-left}
use Rattle.cell_rules.proofs.lemmas.HoldsLemmas.{gained_or_kept}

-- event by event
abbrev pub stopped_since : Bool → List Event → Bool
stopped_since b [] = b
stopped_since b (e ∷ h) = stopped_since (is_stop e || (b && not (is_resume e))) h

stopped_since-append : (b : Bool) (x y : List Event) → stopped_since b (x ++ y) ≡ stopped_since (stopped_since b x) y
stopped_since-append b [] y = refl
stopped_since-append b (e ∷ x) y = stopped_since-append (is_stop e || (b && not (is_resume e))) x y

stopped_since-kept : (h : List Event) → NeverResumes h → stopped_since true h ≡ true
stopped_since-kept [] k = refl
stopped_since-kept (e ∷ h) k =
    let here = false_from_ne_true (is_resume e) (All-head (λ x. ¬ IsTrue (is_resume x)) e h k) in
    ap (λ b. stopped_since b h) (or_right (is_stop e) (true && not (is_resume e)) (not_true (is_resume e) here)) ∙ stopped_since-kept h (All-tail (λ x. ¬ IsTrue (is_resume x)) e h k)

stopped_since-stopped : (b : Bool) (h : List Event) → StopsAndStays h → stopped_since b h ≡ true
stopped_since-stopped b h g =
    let before = stopped_since b g.before in
    ap (λ x. stopped_since b x) g.split ∙ stopped_since-append b g.before (g.stop ∷ g.since)
    ∙ ap (λ t. stopped_since t g.since) (or_left (is_stop g.stop) (before && not (is_resume g.stop)) g.stopped) ∙ stopped_since-kept g.since g.kept

by_events : (b : Bool) (h : List Event) → stopped_since b h ≡ true → ((b ≡ true) × NeverResumes h) ⊎ StopsAndStays h
by_events b [] e = inl (e, All-nil (λ x. ¬ IsTrue (is_resume x)))
by_events b (x ∷ h) e =
    elim (by_events (is_stop x || (b && not (is_resume x))) h e) [
      | inl k ↦ elim (gained_or_kept (is_stop x) b (is_resume x) k.0) [
        | inl g ↦ inr (record { before = []; stop = x; since = h; split = refl; stopped = g; kept = k.1 })
        | inr o ↦ inl (o.0, All-cons (λ y. ¬ IsTrue (is_resume y)) x h (λ on. cc) k.1)
      ]
      | inr g ↦ inr (record { before = x ∷ g.before; stop = g.stop; since = g.since; split = ap (λ t. x ∷ t) g.split; stopped = g.stopped; kept = g.kept })
    ]

pub by_test : (s : ModelState) (h : List Event) → IsStopped s h ↔ IsTrue (stopped_since s.stopped h)
by_test s h = (
  λ k. elim k [ inl k ↦ ap (λ b. stopped_since b h) k.0 ∙ stopped_since-kept h k.1 | inr g ↦ stopped_since-stopped s.stopped h g ],
  by_events s.stopped h,
)

-- what one call leaves of the mark
marked : (s : ModelState) (m : Machine) (c : Call) → (changed s m c).stopped ≡ (stops c || (s.stopped && not (resumes c)))
marked s m Resume = sym (and-false s.stopped)
marked s m Stop = refl
marked s m _ = sym (and-true s.stopped)

mark-after : (s : ModelState) (h : List Event) → IsLegal s h → (after s h).stopped ≡ stopped_since s.stopped h
mark-after s [] l = refl
mark-after s (e ∷ h) l =
    let Mark : Bool → ModelState → Type 0 = λ b t. t.stopped ≡ ((b && stops e.call) || (s.stopped && not (b && resumes e.call))) in
    let here = event_cases Mark s e l.0 (λ _. marked s e.machine e.call) (sym (and-true s.stopped)) in
    mark-after (next s e.machine e.call) h l.1 ∙ ap (λ b. stopped_since b h) here

pub mark : (s : ModelState) (h : List Event) → IsLegal s h → IsStopped s h ↔ IsTrue (after s h).stopped
mark s h l =
    let same = mark-after s h l in
    let test = by_test s h in
    (λ k. same ∙ test.0 k, λ o. test.1 (sym same ∙ o))

-- a state with the mark bars
barred_at : (s : ModelState) (m : Machine) (c : Call) → reply s m c ≡ Done → s.stopped ≡ true → is_barred c ≡ false
barred_at s m (Claim z) e k = let off = (claim_done s m z (done_none (claim_refusal s m z) e)).2 in cc
barred_at s m (Give z) e k = let off = (give_done s m z (done_none (give_refusal s m z) e)).3 in cc
barred_at s m (SetPose Turning) e k = let off = (pose_done s m Turning (done_none (pose_refusal s m Turning) e)).4 in cc
barred_at s m (SetPose Travelling) e k = let off = (pose_done s m Travelling (done_none (pose_refusal s m Travelling) e)).4 in cc
barred_at s m (SetPose Running) e k = let off = (pose_done s m Running (done_none (pose_refusal s m Running) e)).4 in cc
barred_at s m _ e k = refl

pub stopped_along : (s : ModelState) (h : List Event) → IsLegal s h → StoppedUntilResumed s h
stopped_along s h l = record {
  mark = mark s h l;
  barred = λ before rest m c split k.
      let at = replies_done s h before m c rest l split in
      barred_at (after s before) m c at ((mark s before (legal-left s before (done m c ∷ rest) (subst (IsLegal s) split l))).0 k);
  stop = λ before rest m split.
      let at = stop_done (after s before) m (done_none (stop_refusal (after s before) m) (replies_done s h before m Stop rest l split)) in
      (one_machine m Watch at.0, λ k. let on = (mark s before (legal-left s before (done m Stop ∷ rest) (subst (IsLegal s) split l))).0 k in let off = at.1 in cc);
  resume = λ before rest m split.
      let at = resume_done (after s before) m (done_none (resume_refusal (after s before) m) (replies_done s h before m Resume rest l split)) in
      (one_machine m Watch at.0, (mark s before (legal-left s before (done m Resume ∷ rest) (subst (IsLegal s) split l))).1 at.1);
}
