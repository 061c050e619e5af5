-- Postures that lead to no danger still lead to none after each call.
use Rattle.std.proofs.Common.{◌≡◌, ◌≢◌, ℕ, zero, suc, ◌<◌, inl, inr, Bool, true, false, not, nat_eq, nat_lt, is_none, unwrap_or, if◌then◌else◌, Option, Some, None, List, [], ◌∷◌, get_or, replicate, refl, sym, ap, ◌∙◌, subst, arith, IsTrue}
use Rattle.std.proofs.lemmas.Bool.{eqb-true, and_parts}
use Rattle.plan_types.specs.declared.posture.Posture.{Posture}
use Rattle.plan_types.specs.declared.posture.Posture.TheVariants.{Moving}
use Rattle.plan_types.specs.declared.call.Call.{Call}
use Rattle.plan_types.specs.declared.call.Call.TheVariants.{SetPose}
use Rattle.plan_types.specs.declared.answer.Answer.{Answer}
use Rattle.plan_types.specs.declared.answer.Answer.TheVariants.{Done, Shown, Refused}
use Rattle.plan_types.specs.declared.answer.Event.{Event}
use Rattle.plan_types.specs.Same.{same_posture}
use Rattle.plan_types.specs.Table.{PlanTable, zone_count, pose_count, host_of, machine_of, pose_row, posture_of, is_hosted}
use Rattle.plan_types.specs.Plan.{IsPlan}
use Rattle.plan_rules.specs.declared.state.State.{State}
use Rattle.plan_rules.specs.State.{zone_at, posture_at, free_zone}
use Rattle.plan_rules.specs.Sound.{IsSound, IsStart, implies}
use Rattle.plan_rules.specs.Reply.{reply, next}
use Rattle.plan_rules.specs.History.{after, is_done_answer, posture_given}
use Rattle.plan_rules.specs.Laws.{EveryLegalHistoryIsLawful}
use Rattle.plan_rules.proofs.lemmas.Puts.{apart-nat_eq}
use Rattle.plan_rules.proofs.lemmas.Soundness.{next_keeps, some_or_none}
use Rattle.plan_motors.specs.declared.motor.Motor.{Motor}
use Rattle.plan_motors.specs.declared.poses.Leads.{Leads}
use Rattle.plan_motors.specs.Decided.{NeverBoth}
use Rattle.plan_motors.specs.Poses.{fits_in, leads_on, matters, LeadOn, posture_after, given_leads_on, GivesWell, LeavesAlone, AllMove, LeadsFurther, LeadsByMoving, AreLeads, LeadSomewhere, HasPosturesOf, IsApartByPoses, NeverFromPostures}
use Rattle.plan_motors.proofs.Wanted.{fits_if}
use Rattle.plan_motors.proofs.lemmas.Lasting.{sound_after, never_after}

pub implied : (a b : Bool) → (a ≡ true → b ≡ true) → implies a b ≡ true
implied true b k = k refl
implied false b k = refl

pub holds : (a b : Bool) → implies a b ≡ true → a ≡ true → b ≡ true
holds true b e h = e
holds false b e h = cc

-- ---- one pose, of a zone
given_well : (test : Posture → Bool) (given : Option Posture → Bool) (b : Bool) (o : Option Posture) (q : Posture)
    → (given None ≡ true) → ((r : Posture) → given (Some r) ≡ test r) → implies b (test (unwrap_or o q)) ≡ true → implies b (given o) ≡ true
given_well test given b None q n k e = implied b (given None) (λ h. n)
given_well test given b (Some r) q n k e = implied b (given (Some r)) (λ h. k r ∙ holds b (test r) e h)

left_alone : (test : Posture → Bool) (b : Bool) (o : Option Posture) (q : Posture)
    → implies b (is_none o) ≡ true → implies b (test (unwrap_or o q)) ≡ true → implies b (test q) ≡ true
left_alone test b None q e f = f
left_alone test true (Some r) q e f = cc
left_alone test false (Some r) q e f = refl

abbrev pub After : PlanTable → ℕ → (ℕ → Posture) → ℕ → Posture
After t p q z = posture_after t p z (q z)

-- a pose that may be taken at any time
back_any : (t : PlanTable) (a b : Motor) (m : ℕ) (any : List Bool) (moving : Bool) (p : ℕ) (q : ℕ → Posture)
    → (GivesWell t a b m any moving p → LeavesAlone t m any p) → LeadOn t a b m any moving (After t p q) → LeadOn t a b m any moving q
back_any t a b m any moving p q kept lead =
    let well : GivesWell t a b m any moving p = λ z l.
    given_well (leads_on t a b moving z) (given_leads_on t a b moving z) (matters t m any z) (posture_of t p z) (q z) refl (λ r. refl) (lead z l) in
    let alone = kept well in
    λ z l. left_alone (leads_on t a b moving z) (matters t m any z) (posture_of t p z) (q z) (alone z l) (lead z l)

pub mattering : (t : PlanTable) (m : ℕ) (any : List Bool) (z : ℕ) → matters t m any z ≡ true → is_hosted t z m ≡ true
mattering t m any z e = (and_parts (is_hosted t z m) (not (get_or any z false)) e).0

-- a pose of another machine gives none of these zones a posture
foreign : (t : PlanTable) (m p z : ℕ) → IsPlan t → p < pose_count t → z < zone_count t → machine_of t p ≢ m → is_hosted t z m ≡ true → (q : Posture) → posture_after t p z q ≡ q
foreign t m p z plan l there other hosted q =
    let few = plan.zones_at_most in
    let host : host_of t z ≡ m = eqb-true (host_of t z) m (and_parts (nat_lt z (zone_count t)) (nat_eq (host_of t z) m) hosted).1 in
    let ten : z < 10 = omega (arith, few, there) in
    elim (some_or_none (posture_of t p z)) [
      | inl none ↦ ap (λ o. unwrap_or o q) none
      | inr x ↦ absurd (other (sym (plan.pose_of_host p z x.0 l ten x.1).1 ∙ host))
    ]

back_foreign : (t : PlanTable) (a b : Motor) (m : ℕ) (any : List Bool) (moving : Bool) (p : ℕ) (q : ℕ → Posture) → IsPlan t → p < pose_count t → machine_of t p ≢ m
    → LeadOn t a b m any moving (After t p q) → LeadOn t a b m any moving q
back_foreign t a b m any moving p q plan l other lead = λ z there.
    implied (matters t m any z) (leads_on t a b moving z (q z)) (λ e.
    ap (leads_on t a b moving z) (sym (foreign t m p z plan l there other (mattering t m any z e) (q z)))
    ∙ holds (matters t m any z) (leads_on t a b moving z (After t p q z)) (lead z there) e)

-- zones that all move lead on where they are to move
pub moving_lead : (t : PlanTable) (a b : Motor) (m : ℕ) (any : List Bool) (q : ℕ → Posture) → AllMove t m q → LeadOn t a b m any true q
moving_lead t a b m any q all = λ z there.
    implied (matters t m any z) (same_posture (q z) Moving) (λ e. ap (λ r. same_posture r Moving) (all z there (mattering t m any z e)))

-- and where they are brought to danger by a pose, so are they by it from Moving
from_moving : (t : PlanTable) (a b : Motor) (m : ℕ) (any : List Bool) (p : ℕ) (q : ℕ → Posture) → AllMove t m q
    → LeadOn t a b m any false (After t p q) → LeadOn t a b m any false (λ z. posture_after t p z Moving)
from_moving t a b m any p q all lead = λ z there.
    implied (matters t m any z) (leads_on t a b false z (posture_after t p z Moving)) (λ e.
    ap (λ r. leads_on t a b false z (posture_after t p z r)) (sym (all z there (mattering t m any z e)))
    ∙ holds (matters t m any z) (leads_on t a b false z (After t p q z)) (lead z there) e)

-- ---- one pose, of all zones of a host
no : false ≡ true → ⊥
no e = cc

stable : (b : Bool) → ((b ≡ true → ⊥) → ⊥) → b ≡ true
stable true k = refl
stable false k = absurd (k no)

left_if : (t : PlanTable) (a b : Motor) (m : ℕ) (any : List Bool) (moving : Bool) (p : ℕ) → machine_of t p ≡ m → (pose_row t p).after_moving ≡ false
    → ¬ LeadsFurther t a b m any moving p → GivesWell t a b m any moving p → LeavesAlone t m any p
left_if t a b m any moving p own free none well = λ z there. stable _ (λ not. none (record { own = own; at_any_time = free; well = well; further = λ alone. not (alone z there) }))

own_pose : (after : Bool) (t : PlanTable) (a b : Motor) (m : ℕ) (l : Leads) (p : ℕ) (q : ℕ → Posture) → (pose_row t p).after_moving ≡ after → p < pose_count t → machine_of t p ≡ m
    → AreLeads t a b m l → (IsTrue (pose_row t p).after_moving → AllMove t m q) → ¬ LeadSomewhere t a b m l q → ¬ LeadSomewhere t a b m l (After t p q)
own_pose false t a b m l p q e there own found moves none (inl lead) =
    none (inl (back_any t a b m l.any false p q (left_if t a b m l.any false p own e (found.danger.all p there)) lead))
own_pose false t a b m l p q e there own found moves none (inr by) =
    none (inr (by.0, back_any t a b m l.any_moving true p q (left_if t a b m l.any_moving true p own e (found.moving.all p there)) by.1))
own_pose true t a b m l p q e there own found moves none (inl lead) =
    let by : LeadsByMoving t a b m l.any p = record { there = there; own = own; waits = e; leads = from_moving t a b m l.any p q (moves e) lead } in
    none (inr (found.by_moving p by, moving_lead t a b m l.any_moving q (moves e)))
own_pose true t a b m l p q e there own found moves none (inr by) = none (inr (by.0, moving_lead t a b m l.any_moving q (moves e)))

foreign_pose : (t : PlanTable) (a b : Motor) (m : ℕ) (l : Leads) (p : ℕ) (q : ℕ → Posture) → IsPlan t → p < pose_count t → machine_of t p ≢ m
    → ¬ LeadSomewhere t a b m l q → ¬ LeadSomewhere t a b m l (After t p q)
foreign_pose t a b m l p q plan there other none (inl lead) = none (inl (back_foreign t a b m l.any false p q plan there other lead))
foreign_pose t a b m l p q plan there other none (inr by) = none (inr (by.0, back_foreign t a b m l.any_moving true p q plan there other by.1))

pose_by : (own : Bool) (t : PlanTable) (a b : Motor) (m : ℕ) (l : Leads) (p : ℕ) (q : ℕ → Posture) → nat_eq (machine_of t p) m ≡ own → IsPlan t → p < pose_count t → AreLeads t a b m l
    → (IsTrue (pose_row t p).after_moving → machine_of t p ≡ m → AllMove t m q) → ¬ LeadSomewhere t a b m l q → ¬ LeadSomewhere t a b m l (After t p q)
pose_by true t a b m l p q e plan there found moves none =
    let own : machine_of t p ≡ m = eqb-true (machine_of t p) m e in
    own_pose (pose_row t p).after_moving t a b m l p q refl there own found (λ w. moves w own) none
pose_by false t a b m l p q e plan there found moves none = foreign_pose t a b m l p q plan there (λ same. apart-nat_eq (machine_of t p) m e same) none

-- ---- along a history
-- postures that are the same lead to the same
pub same_lead : (t : PlanTable) (a b : Motor) (m : ℕ) (any : List Bool) (moving : Bool) (q r : ℕ → Posture) → ((z : ℕ) → z < zone_count t → r z ≡ q z)
    → LeadOn t a b m any moving r → LeadOn t a b m any moving q
same_lead t a b m any moving q r same lead = λ z there. subst (λ x. IsTrue (implies (matters t m any z) (leads_on t a b moving z x))) (same z there) (lead z there)

same_nowhere : (t : PlanTable) (a b : Motor) (m : ℕ) (l : Leads) (q r : ℕ → Posture) → ((z : ℕ) → z < zone_count t → r z ≡ q z) → ¬ LeadSomewhere t a b m l q → ¬ LeadSomewhere t a b m l r
same_nowhere t a b m l q r same none (inl lead) = none (inl (same_lead t a b m l.any false q r same lead))
same_nowhere t a b m l q r same none (inr by) = none (inr (by.0, same_lead t a b m l.any_moving true q r same by.1))

abbrev Given : PlanTable → Call → Answer → State → ℕ → Posture
Given t c a s z = if is_done_answer a then posture_given t c z (posture_at s z) else posture_at s z

nowhere_given : EveryLegalHistoryIsLawful → (t : PlanTable) (a b : Motor) (m : ℕ) (l : Leads) → IsPlan t → AreLeads t a b m l
    → (s : State) (n : ℕ) (c : Call) (answer : Answer) → IsSound t s → reply t s n c ≡ answer → ¬ LeadSomewhere t a b m l (λ z. posture_at s z)
    → ¬ LeadSomewhere t a b m l (λ z. Given t c answer s z)
nowhere_given laws t a b m l plan kept s n (SetPose p) Done sound e now =
    let d : Event = record { machine = n; call = SetPose p; answer = Done } in
    let fit = (laws t s (d ∷ []) plan sound (sym e, tt) (d ∷ []) [] refl).poses_fit in
    let own = fit.own [] [] n p refl in
    let moves : IsTrue (pose_row t p).after_moving → machine_of t p ≡ m → AllMove t m (λ z. posture_at s z) = λ w is z there hosted.
    let host : host_of t z ≡ m = eqb-true _ _ (and_parts _ _ hosted).1 in
    fit.no_jump [] [] n p refl w z there (host ∙ sym is ∙ own.1) in
    pose_by (nat_eq (machine_of t p) m) t a b m l p (λ z. posture_at s z) refl plan own.0 kept moves now
nowhere_given laws t a b m l plan kept s n _ Done sound e now = now
nowhere_given laws t a b m l plan kept s n c (Refused r) sound e now = now
nowhere_given laws t a b m l plan kept s n c (Shown o f q) sound e now = now

nowhere_next : EveryLegalHistoryIsLawful → (t : PlanTable) (a b : Motor) (m : ℕ) (l : Leads) → IsPlan t → AreLeads t a b m l
    → (s : State) (n : ℕ) (c : Call) → IsSound t s → ¬ LeadSomewhere t a b m l (λ z. posture_at s z) → ¬ LeadSomewhere t a b m l (λ z. posture_at (next t s n c) z)
nowhere_next laws t a b m l plan kept s n c sound now =
    let e : Event = record { machine = n; call = c; answer = reply t s n c } in
    let law = laws t s (e ∷ []) plan sound (refl, tt) (e ∷ []) [] refl in
    same_nowhere t a b m l (λ z. Given t c (reply t s n c) s z) (λ z. posture_at (next t s n c) z) (λ z there. sym (law.posture_by_events z there))
    (nowhere_given laws t a b m l plan kept s n c (reply t s n c) sound refl now)

nowhere_after : EveryLegalHistoryIsLawful → (t : PlanTable) (a b : Motor) (m : ℕ) (l : Leads) → IsPlan t → AreLeads t a b m l
    → (s : State) (h : List Event) → IsSound t s → ¬ LeadSomewhere t a b m l (λ z. posture_at s z) → ¬ LeadSomewhere t a b m l (λ z. posture_at (after t s h) z)
nowhere_after laws t a b m l plan kept s [] sound now = now
nowhere_after laws t a b m l plan kept s (e ∷ h) sound now =
    nowhere_after laws t a b m l plan kept (next t s e.machine e.call) h (next_keeps t s e.machine e.call plan sound)
    (nowhere_next laws t a b m l plan kept s e.machine e.call sound now)

pub apart : EveryLegalHistoryIsLawful → (t : PlanTable) (a b : Motor) (m : ℕ) (l : Leads) (s : State) → IsPlan t → AreLeads t a b m l
    → ¬ LeadSomewhere t a b m l (λ z. posture_at s z) → IsApartByPoses t a b s m
apart laws t a b m l s plan kept none = λ o h sound same legal both.
    let there = sound_after t o h plan sound in
    let at = after t o h in
    let begin = same_nowhere t a b m l (λ z. posture_at s z) (λ z. posture_at o z) same none in
    let now = nowhere_after laws t a b m l plan kept o h sound begin in
    now (inl (λ z l2. implied (matters t m l.any z) (fits_in t a b z (posture_at at z)) (λ e.
    let needs = both z l2 (mattering t m l.any z e) in
    fits_if t a b z (zone_at at z) (there.zone_is_lawful z l2) needs.0 needs.1)))

pub never_from : (t : PlanTable) (a b : Motor) (s : State) (m : ℕ) → IsApartByPoses t a b s m → NeverFromPostures t s a b
never_from t a b s m apart = λ o sound same h legal x y. apart o h sound same legal (λ z there own. (x.zones z there, y.zones z there))

pub from_all : (t : PlanTable) (a b : Motor) (s : State) → IsPlan t → NeverBoth t a b → NeverFromPostures t s a b
from_all t a b s p never = λ o sound same h legal x y. never_after t a b o h p never sound x y

-- ---- starts
all_free : (n z : ℕ) → get_or (replicate n free_zone) z free_zone ≡ free_zone
all_free zero z = refl
all_free (suc n) zero = refl
all_free (suc n) (suc z) = all_free n z

closed_at_start : (s : State) (z : ℕ) → IsStart s → posture_at s z ≡ free_zone.posture
closed_at_start s z k = ap (λ (x : State). posture_at x z) k.same ∙ ap (λ v. v.posture) (all_free 10 z)

pub starts_alike : (t : PlanTable) (s o : State) → IsStart s → IsStart o → HasPosturesOf t s o
starts_alike t s o k l = λ z there. closed_at_start o z l ∙ sym (closed_at_start s z k)
