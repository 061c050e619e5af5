-- Where a turn leads, by what the line has seen.
use Rattle.std.proofs.Common.{◌≡◌, ℕ, ◌+◌, Bool, true, false, ◌&&◌, nat_eq, nat_lt, cond, if◌then◌else◌, Option, Some, None, List, [], ◌∷◌, ◌++◌, map, length, zero, suc, refl, sym, ap, subst, IsTrue}
use Rattle.std.specs.Prelude.{slice_get}
use Rattle.std.proofs.lemmas.List.Elements.{All-nil, All-cons}
use Rattle.plan_types.specs.declared.posture.Posture.{Posture}
use Rattle.plan_types.specs.declared.call.Call.{Call}
use Rattle.plan_types.specs.declared.call.Call.TheVariants.{Inquire}
use Rattle.plan_types.specs.declared.answer.Answer.{Answer}
use Rattle.plan_types.specs.declared.answer.Answer.TheVariants.{Done, Shown, Refused}
use Rattle.plan_types.specs.declared.answer.Refusal.{Refusal}
use Rattle.plan_types.specs.declared.answer.Event.{Event}
use Rattle.plan_types.specs.Table.{PlanTable}
use Rattle.plan_rules.specs.declared.state.State.{State}
use Rattle.plan_rules.specs.Reply.{reply, next}
use Rattle.plan_rules.specs.Sound.{is_owned_by}
use Rattle.plan_rules.specs.History.{after, IsLegal, is_done, is_done_answer, own_events}
use Rattle.plan_rules.proofs.lemmas.Zones.{owner_is}
use Rattle.plan_rules.proofs.lemmas.Soundness.{never_done}
use Rattle.plan_drives.specs.declared.line.Line.{Line}
use Rattle.plan_drives.specs.declared.line.Line.TheVariants as line
use Rattle.plan_drives.specs.Course.{is_done_by, Stays, IsAt}
use Rattle.plan_drives.proofs.lemmas.Going.{courses_go_on, shown_owns, stays_in_step}
use Rattle.plan_controller.specs.declared.step.Step.{Step}
use Rattle.plan_controller.specs.declared.step.Step.TheVariants.{Do, Await, Run}
use Rattle.plan_controller.specs.declared.outcome.Outcome.TheVariants as outcome
use Rattle.plan_controller.specs.declared.faults.Faults.{Faults}
use Rattle.plan_controller.specs.Faults.{is_waited_out, mendable, no_faults}
use Rattle.plan_controller.specs.Steps.{line_of, after_refusal, after_call, after_inquiry}
use Rattle.plan_controller.specs.Seen.{event, SeesOthers, SeesAnswer, SeenAfter}
use Rattle.plan_controller.specs.Turns.{Control, step_in, program_in, next_place, place_after, InStepGoesOn, RoundsBeginAnywhere}

-- ---- what leaves a machine where it is

own_head : (b : Bool) (e : Event) (own : List Event) → cond b (e ∷ own) own ≡ [] → (b ≡ false) × (own ≡ [])
own_head true e own h = cc
own_head false e own h = (refl, h)

differ : (b : Bool) → b ≡ false → b ≡ true → ⊥
differ true e f = cc
differ false e f = cc

others_stay : (others : List Event) (m : ℕ) → own_events others m ≡ [] → Stays others m
others_stay [] m none = All-nil (λ e. ¬ IsTrue (is_done_by m e))
others_stay (x ∷ xs) m none =
    let apart = own_head (nat_eq x.machine m) x (own_events xs m) none in
    All-cons (λ e. ¬ IsTrue (is_done_by m e)) x xs (differ (is_done_by m x) (ap (λ b. b && is_done x) apart.0)) (others_stay xs m apart.1)

and_false : (a b : Bool) → b ≡ false → (a && b) ≡ false
and_false true b e = e
and_false false b e = refl

event_stays : (m : ℕ) (c : Call) (a : Answer) → is_done_answer a ≡ false → Stays (event m c a ∷ []) m
event_stays m c a none =
    All-cons (λ e. ¬ IsTrue (is_done_by m e)) (event m c a) [] (differ (is_done_by m (event m c a)) (and_false (nat_eq m m) (is_done_answer a) none)) (All-nil (λ e. ¬ IsTrue (is_done_by m e)))

-- ---- places and lines

mapped : (steps : List Step) (k : ℕ) (step : Step) → slice_get steps k ≡ Some step → slice_get (map line_of steps) k ≡ Some (line_of step)
mapped [] k step e = cc
mapped (x ∷ xs) zero step e = ap (λ (o : Option Step). elim o as (λ _. Option Line) [ None ↦ None | Some y ↦ Some (line_of y) ]) e
mapped (x ∷ xs) (suc k) step e = mapped xs k step e

abbrev At : PlanTable → State → List Event → Control → ℕ → Type 0
At t s h c k = IsAt t s h c.machine (program_in c) k

next_at : (t : PlanTable) (s : State) (h : List Event) (c : Control) → At t s h c (c.place + 1) → At t s h c (next_place c)
next_at t s h c at = by (nat_lt (c.place + 1) (length c.steps))
  where
    by : (b : Bool) → At t s h c (if b then c.place + 1 else 0)
    by true = at
    by false = (courses_go_on t s h c.machine (program_in c)).begins

point_at : (t : PlanTable) (s : State) (before now : List Event) (c : Control) (k : ℕ) → SeesOthers c.machine before now → At t s before c k → At t s now c k
point_at t s before now c k sees at =
    subst (λ l. At t s l c k) (sym sees.split) ((courses_go_on t s before c.machine (program_in c)).stays k sees.others at (others_stay sees.others c.machine sees.none_own))

-- an event of its own that isn't a done call
event_at : (t : PlanTable) (s : State) (point now : List Event) (c : Control) (k : ℕ) (call : Call) (a : Answer) → is_done_answer a ≡ false
    → now ≡ point ++ event c.machine call a ∷ [] → At t s point c k → At t s now c k
event_at t s point now c k call a none ends at =
    subst (λ l. At t s l c k) (sym ends) ((courses_go_on t s point c.machine (program_in c)).stays k (event c.machine call a ∷ []) at (event_stays c.machine call a none))

refused_at : (t : PlanTable) (s : State) (h : List Event) (c : Control) (r : Refusal) (faults : Faults) → At t s h c c.place → At t s h c (place_after c (after_refusal r faults))
refused_at t s h c r faults at = by (is_waited_out faults (mendable r))
  where
    by : (b : Bool) → At t s h c (place_after c (if b then outcome.Stays else outcome.Stops r))
    by true = at
    by false = at

pub begins_anywhere : RoundsBeginAnywhere
begins_anywhere t s h c first = subst (At t s h c) (sym first) (courses_go_on t s h c.machine (program_in c)).begins

pub in_step_goes_on : InStepGoesOn
in_step_goes_on t s h c step stays = stays_in_step t s h c.machine (program_in c) c.place step stays

-- ---- a call, an inquiry, a run

pub call_leads : (t : PlanTable) (s : State) (before now : List Event) (c : Control) (call : Call) (faults : Faults) (a : Option Answer) → step_in c ≡ Some (Do call faults)
    → SeenAfter c.machine call a before now → At t s before c c.place → At t s now c (place_after c (after_call a faults))
call_leads t s before now c call faults None is seen at = point_at t s before now c c.place seen at
call_leads t s before now c call faults (Some Done) is seen at =
    let there = point_at t s before seen.point c c.place seen.sees at in
    let on = (courses_go_on t s seen.point c.machine (program_in c)).does c.place call there (mapped c.steps c.place (Do call faults) is) in
    next_at t s now c (subst (λ l. At t s l c (c.place + 1)) (sym seen.ends) on)
call_leads t s before now c call faults (Some (Shown owner flag posture)) is seen at =
    event_at t s seen.point now c c.place call (Shown owner flag posture) refl seen.ends (point_at t s before seen.point c c.place seen.sees at)
call_leads t s before now c call faults (Some (Refused r)) is seen at =
    refused_at t s now c r faults (event_at t s seen.point now c c.place call (Refused r) refl seen.ends (point_at t s before seen.point c c.place seen.sees at))

legal_end : (t : PlanTable) (s : State) (h : List Event) (e : Event) → IsLegal t s (h ++ e ∷ []) → e.answer ≡ reply t (after t s h) e.machine e.call
legal_end t s [] e l = l.0
legal_end t s (x ∷ h) e l = legal_end t (next t s x.machine x.call) h e l.1

shown_at : (t : PlanTable) (s : State) (before now : List Event) (c : Control) (z : ℕ) (owner : Option ℕ) (flag : Bool) (posture : Posture) → IsLegal t s now → step_in c ≡ Some (Await z)
    → SeesAnswer c.machine (Inquire z) (Shown owner flag posture) before now → At t s before c c.place
    → At t s now c (place_after c (if is_owned_by owner c.machine then outcome.GoesOn else outcome.Stays))
shown_at t s before now c z owner flag posture legal is seen at = by (is_owned_by owner c.machine) refl
  where
    there : At t s seen.point c c.place
    there = point_at t s before seen.point c c.place seen.sees at

    e : Event
    e = event c.machine (Inquire z) (Shown owner flag posture)

    by : (b : Bool) → is_owned_by owner c.machine ≡ b → At t s now c (place_after c (if b then outcome.GoesOn else outcome.Stays))
    by false own = event_at t s seen.point now c c.place (Inquire z) (Shown owner flag posture) refl seen.ends there
    by true own =
        let whole = subst (IsLegal t s) seen.ends legal in
        let mine : Shown owner flag posture ≡ Shown (Some c.machine) flag posture = ap (λ o. Shown o flag posture) (owner_is owner c.machine own) in
        let owned = shown_owns t s seen.point (event c.machine (Inquire z) (Shown owner flag posture)) c.machine z flag posture whole refl mine in
        let on = (courses_go_on t s seen.point c.machine (program_in c)).awaits c.place z there (mapped c.steps c.place (Await z) is) owned in
        next_at t s now c (event_at t s seen.point now c (c.place + 1) (Inquire z) (Shown owner flag posture) refl seen.ends on)

pub inquiry_leads : (t : PlanTable) (s : State) (before now : List Event) (c : Control) (z : ℕ) (a : Option Answer) → IsLegal t s now → step_in c ≡ Some (Await z)
    → SeenAfter c.machine (Inquire z) a before now → At t s before c c.place → At t s now c (place_after c (after_inquiry c.machine a))
inquiry_leads t s before now c z None legal is seen at = point_at t s before now c c.place seen at
inquiry_leads t s before now c z (Some Done) legal is seen at =
    let whole = subst (IsLegal t s) seen.ends legal in
    never_done t (after t s seen.point) c.machine z (sym (legal_end t s seen.point (event c.machine (Inquire z) Done) whole))
inquiry_leads t s before now c z (Some (Shown owner flag posture)) legal is seen at = shown_at t s before now c z owner flag posture legal is seen at
inquiry_leads t s before now c z (Some (Refused r)) legal is seen at =
    refused_at t s now c r no_faults (event_at t s seen.point now c c.place (Inquire z) (Refused r) refl seen.ends (point_at t s before seen.point c c.place seen.sees at))

pub run_leads : (t : PlanTable) (s : State) (h : List Event) (c : Control) (motors until : ℕ) (ends : Bool) → step_in c ≡ Some (Run motors until)
    → At t s h c c.place → At t s h c (place_after c (if ends then outcome.GoesOn else outcome.Stays))
run_leads t s h c motors until true is at =
    next_at t s h c ((courses_go_on t s h c.machine (program_in c)).runs c.place motors at (mapped c.steps c.place (Run motors until) is))
run_leads t s h c motors until false is at = at

pub step_runs : (c : Control) (motors until : ℕ) → step_in c ≡ Some (Run motors until) → slice_get (program_in c) c.place ≡ Some (line.Run motors)
step_runs c motors until is = mapped c.steps c.place (Run motors until) is
