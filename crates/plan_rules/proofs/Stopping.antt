-- The plant is stopped by the events exactly where the state after has the mark.
use Rattle.std.proofs.Common.{◌≡◌, ℕ, Bool, true, false, ◌&&◌, ◌||◌, not, List, [], ◌∷◌, ◌++◌, ◌⊎◌, inl, inr, refl, sym, ap, ◌∙◌, ◌↔◌, IsTrue, subst}
use Rattle.std.proofs.Math.Bool.{and-true}
use Rattle.std.proofs.lemmas.Bool.{or_left, or_right, false_from_ne_true}
use Rattle.std.proofs.lemmas.List.Elements.{All-nil, All-cons, All-head, All-tail}
use Rattle.plan_types.specs.declared.call.Call.{Call}
use Rattle.plan_types.specs.declared.call.Call.TheVariants.{Claim, Give, SetPose, Stop, Resume, Advance}
use Rattle.plan_types.specs.declared.answer.Answer.{Answer}
use Rattle.plan_types.specs.declared.answer.Answer.TheVariants.{Done, Shown, Refused}
use Rattle.plan_types.specs.declared.answer.Event.{Event}
use Rattle.plan_types.specs.Table.{PlanTable, is_moving_pose}
use Rattle.plan_rules.specs.declared.state.State.{State}
use Rattle.plan_rules.specs.Reply.{reply, next, next_by, changed}
use Rattle.plan_rules.specs.History.{after, IsLegal, is_done_answer, stops, resumes, is_stop, is_resume, NeverResumes, StopsAndStays, IsStopped}
use Rattle.plan_rules.specs.Laws.{StoppedUntilResumed, is_barred, done}
use Rattle.plan_rules.proofs.lemmas.DoneCalls.{claim_done, give_done, pose_done, advance_done, stop_done, resume_done}
use Rattle.plan_rules.proofs.lemmas.Soundness.{done_none}
use Rattle.plan_rules.proofs.Given.{gives_moving}
use Rattle.plan_rules.proofs.Histories.{legal-left, replies_done}

pub not_true : (b : Bool) → b ≡ false → not b ≡ true
not_true true e = cc
not_true false e = refl

-- event by event
abbrev stopped_since : Bool → List Event → Bool
stopped_since b [] = b
stopped_since b (e ∷ h) = stopped_since (is_stop e || (b && not (is_resume e))) h

stopped_since-append : (b : Bool) (x y : List Event) → stopped_since b (x ++ y) ≡ stopped_since (stopped_since b x) y
stopped_since-append b [] y = refl
stopped_since-append b (e ∷ x) y = stopped_since-append (is_stop e || (b && not (is_resume e))) x y

stopped_since-kept : (h : List Event) → NeverResumes h → stopped_since true h ≡ true
stopped_since-kept [] k = refl
stopped_since-kept (e ∷ h) k =
    let here = false_from_ne_true (is_resume e) (All-head (λ x. ¬ IsTrue (is_resume x)) e h k) in
    ap (λ b. stopped_since b h) (or_right (is_stop e) (true && not (is_resume e)) (not_true (is_resume e) here)) ∙ stopped_since-kept h (All-tail (λ x. ¬ IsTrue (is_resume x)) e h k)

stopped_since-stopped : (b : Bool) (h : List Event) → StopsAndStays h → stopped_since b h ≡ true
stopped_since-stopped b h g =
    let before = stopped_since b g.before in
    ap (λ x. stopped_since b x) g.split ∙ stopped_since-append b g.before (g.stop ∷ g.since)
    ∙ ap (λ t. stopped_since t g.since) (or_left (is_stop g.stop) (before && not (is_resume g.stop)) g.stopped) ∙ stopped_since-kept g.since g.kept

stops_or_stays : (g b l : Bool) → (g || (b && not l)) ≡ true → (g ≡ true) ⊎ ((b ≡ true) × (l ≡ false))
stops_or_stays true b l e = inl refl
stops_or_stays false true false e = inr (refl, refl)
stops_or_stays false true true e = cc
stops_or_stays false false l e = cc

by_events : (b : Bool) (h : List Event) → stopped_since b h ≡ true → ((b ≡ true) × NeverResumes h) ⊎ StopsAndStays h
by_events b [] e = inl (e, All-nil (λ x. ¬ IsTrue (is_resume x)))
by_events b (x ∷ h) e =
    elim (by_events (is_stop x || (b && not (is_resume x))) h e) [
      | inl k ↦ elim (stops_or_stays (is_stop x) b (is_resume x) k.0) [
        | inl g ↦ inr (record { before = []; stop = x; since = h; split = refl; stopped = g; kept = k.1 })
        | inr o ↦ inl (o.0, All-cons (λ y. ¬ IsTrue (is_resume y)) x h (λ on. cc) k.1)
      ]
      | inr g ↦ inr (record { before = x ∷ g.before; stop = g.stop; since = g.since; split = ap (λ t. x ∷ t) g.split; stopped = g.stopped; kept = g.kept })
    ]

by_test : (s : State) (h : List Event) → IsStopped s h ↔ IsTrue (stopped_since s.stopped h)
by_test s h = (
  λ k. elim k [ inl k ↦ ap (λ b. stopped_since b h) k.0 ∙ stopped_since-kept h k.1 | inr g ↦ stopped_since-stopped s.stopped h g ],
  by_events s.stopped h,
)

-- what one call leaves of the mark
and-false : (b : Bool) → (b && false) ≡ false
and-false true = refl
and-false false = refl

marked : (t : PlanTable) (s : State) (m : ℕ) (c : Call) → (changed t s m c).stopped ≡ (stops c || (s.stopped && not (resumes c)))
marked t s m Stop = refl
marked t s m Resume = sym (and-false s.stopped)
marked t s m _ = sym (and-true s.stopped)

marked_by : (a : Answer) (t : PlanTable) (s : State) (m : ℕ) (c : Call) → (next_by a t s m c).stopped ≡ ((is_done_answer a && stops c) || (s.stopped && not (is_done_answer a && resumes c)))
marked_by Done t s m c = marked t s m c
marked_by (Shown o f p) t s m c = sym (and-true s.stopped)
marked_by (Refused r) t s m c = sym (and-true s.stopped)

mark-after : (t : PlanTable) (s : State) (h : List Event) → IsLegal t s h → (after t s h).stopped ≡ stopped_since s.stopped h
mark-after t s [] l = refl
mark-after t s (e ∷ h) l =
    let By : Answer → Type 0 = λ a. (next t s e.machine e.call).stopped ≡ ((is_done_answer a && stops e.call) || (s.stopped && not (is_done_answer a && resumes e.call))) in
    let here = subst By (sym l.0) (marked_by (reply t s e.machine e.call) t s e.machine e.call) in
    mark-after t (next t s e.machine e.call) h l.1 ∙ ap (λ b. stopped_since b h) here

pub mark : (t : PlanTable) (s : State) (h : List Event) → IsLegal t s h → IsStopped s h ↔ IsTrue (after t s h).stopped
mark t s h l =
    let same = mark-after t s h l in
    let test = by_test s h in
    (λ k. same ∙ test.0 k, λ o. test.1 (sym same ∙ o))

only_unless : (a b : Bool) → (a && b) ≡ false → b ≡ true → a ≡ false
only_unless true b e f = cc
only_unless false b e f = refl

-- a state with the mark bars
barred_at : (t : PlanTable) (s : State) (m : ℕ) (c : Call) → reply t s m c ≡ Done → s.stopped ≡ true → is_barred t c ≡ false
barred_at t s m (Claim z) e k = let off = (claim_done t s m z (done_none _ _ e)).goes_on in cc
barred_at t s m (Give z) e k = let off = (give_done t s m z (done_none _ _ e)).goes_on in cc
barred_at t s m (SetPose p) e k = only_unless (is_moving_pose t p) s.stopped (pose_done t s m p (done_none _ _ e)).goes_on k
barred_at t s m (Advance p) e k = let off = (advance_done t s m p (done_none _ _ e)).goes_on in cc
barred_at t s m _ e k = refl

pub stopped_along : (t : PlanTable) (s : State) (h : List Event) → IsLegal t s h → StoppedUntilResumed t s h
stopped_along t s h l = record {
  mark = mark t s h l;
  barred = λ before rest m c split k.
      let at = replies_done t s h before m c rest l split in
      barred_at t (after t s before) m c at ((mark t s before (legal-left t s before (done m c ∷ rest) (subst (IsLegal t s) split l))).0 k);
  stands = λ before rest m p z split k given.
      let at = replies_done t s h before m (SetPose p) rest l split in
      let off = barred_at t (after t s before) m (SetPose p) at ((mark t s before (legal-left t s before (done m (SetPose p) ∷ rest) (subst (IsLegal t s) split l))).0 k) in
      let on = gives_moving t p z given in
      cc;
  stop = λ before rest m split.
      let at = stop_done (after t s before) m (done_none _ _ (replies_done t s h before m Stop rest l split)) in
      (at.caller, λ k. let on = (mark t s before (legal-left t s before (done m Stop ∷ rest) (subst (IsLegal t s) split l))).0 k in let off = at.mark in cc);
  resume = λ before rest m split.
      let at = resume_done (after t s before) m (done_none _ _ (replies_done t s h before m Resume rest l split)) in
      (at.caller, (mark t s before (legal-left t s before (done m Resume ∷ rest) (subst (IsLegal t s) split l))).1 at.mark);
}
