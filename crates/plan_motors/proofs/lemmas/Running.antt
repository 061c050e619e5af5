-- A motor that was permitted may run until a call of its own machine loses the permission.
use Rattle.std.proofs.Common.{◌≡◌, ◌≢◌, ◌↔◌, ℕ, Bool, true, false, nat_eq, cond, List, [], ◌∷◌, ◌++◌, refl, sym, subst}
use Rattle.std.proofs.lemmas.Bool.{eqb-true}
use Rattle.std.proofs.lemmas.List.{append-nil}
use Rattle.plan_types.specs.declared.call.Call.{Call}
use Rattle.plan_types.specs.declared.answer.Answer.{Answer}
use Rattle.plan_types.specs.declared.answer.Answer.TheVariants.{Done, Shown, Refused}
use Rattle.plan_types.specs.declared.answer.Event.{Event}
use Rattle.plan_types.specs.Table.{PlanTable}
use Rattle.plan_types.specs.Plan.{IsPlan}
use Rattle.plan_rules.specs.declared.state.State.{State}
use Rattle.plan_rules.specs.Sound.{IsSound}
use Rattle.plan_rules.specs.Reply.{reply, next, next_by}
use Rattle.plan_rules.specs.History.{after, IsLegal, own_events}
use Rattle.plan_rules.specs.Laws.{EveryLegalHistoryIsLawful}
use Rattle.plan_rules.proofs.lemmas.Puts.{apart-nat_eq}
use Rattle.plan_rules.proofs.lemmas.Soundness.{next_keeps}
use Rattle.plan_motors.specs.declared.motor.Motor.{Motor}
use Rattle.plan_motors.specs.Motor.{Permits}
use Rattle.plan_motors.specs.Decided.{NeverBoth}
use Rattle.plan_motors.specs.Poses.{NeverFrom}
use Rattle.plan_motors.specs.OfPlan.{IsMotorOf}
use Rattle.plan_motors.specs.Laws.{LosesPermission, KeepsPermission, MayStillRun, MayRun}
use Rattle.plan_motors.proofs.lemmas.Lasting.{next_permits, sound_after, never_after}

no : false ≡ true → ⊥
no e = cc

stable : (b : Bool) → ((b ≡ true → ⊥) → ⊥) → b ≡ true
stable true k = refl
stable false k = absurd (k no)

-- what isn't refuted holds: a permission is a conjunction of tests
stable_permits : (t : PlanTable) (s : State) (m : Motor) → ((Permits t s m → ⊥) → ⊥) → Permits t s m
stable_permits t s m k = record {
  zones = λ z l. stable _ (λ none. k (λ x. none (x.zones z l)));
  places = λ q l. stable _ (λ none. k (λ x. none (x.places q l)));
}

step_by : (b : Bool) → EveryLegalHistoryIsLawful → (t : PlanTable) (m : Motor) (s : State) (n : ℕ) (c : Call) → nat_eq n m.machine ≡ b → IsPlan t → IsMotorOf t m
    → IsSound t s → Permits t s m → ¬ LosesPermission t s n c m → Permits t (next t s n c) m
step_by true laws t m s n c e p f k now keep = stable_permits t (next t s n c) m (λ lost. keep (record { own = eqb-true n m.machine e; before = now; lost = lost }))
step_by false laws t m s n c e p f k now keep = next_permits laws t m s n c p f k (λ same. apart-nat_eq n m.machine e same) now

pub kept_permits : EveryLegalHistoryIsLawful → (t : PlanTable) (m : Motor) (s : State) (more : List Event) → IsPlan t → IsMotorOf t m → IsSound t s
    → Permits t s m → KeepsPermission t s more m → Permits t (after t s more) m
kept_permits laws t m s [] p f k now keep = now
kept_permits laws t m s (e ∷ more) p f k now keep =
    let then_too = step_by (nat_eq e.machine m.machine) laws t m s e.machine e.call refl p f k now keep.0 in
    kept_permits laws t m (next t s e.machine e.call) more p f (next_keeps t s e.machine e.call p k) then_too keep.1

after_append : (t : PlanTable) (s : State) (a b : List Event) → after t s (a ++ b) ≡ after t (after t s a) b
after_append t s [] b = refl
after_append t s (e ∷ a) b = after_append t (next t s e.machine e.call) a b

still_permits : EveryLegalHistoryIsLawful → (t : PlanTable) (m : Motor) (s : State) (read since : List Event) → IsPlan t → IsMotorOf t m → IsSound t s
    → MayStillRun t s read since m → Permits t (after t s (read ++ since)) m
still_permits laws t m s read since p f k r =
    subst (λ (x : State). Permits t x m) (sym (after_append t s read since))
    (kept_permits laws t m (after t s read) since p f (sound_after t s read p k) r.permitted r.kept)

pub may_run_permits : EveryLegalHistoryIsLawful → (t : PlanTable) (m : Motor) (s : State) (h : List Event) → IsPlan t → IsMotorOf t m → IsSound t s
    → MayRun t s h m → Permits t (after t s h) m
may_run_permits laws t m s h p f k r =
    subst (λ x. Permits t (after t s x) m) (sym r.split) (still_permits laws t m s r.read r.since p f k r.still)

pub permitted_may_run : (t : PlanTable) (m : Motor) (s : State) (h : List Event) → Permits t (after t s h) m → MayRun t s h m
permitted_may_run t m s h now = record { read = h; since = []; split = sym (append-nil h); still = record { permitted = now; kept = tt } }

-- ---- what ends it
pub keeps_both : (t : PlanTable) (s : State) (a b : List Event) (m : Motor) → KeepsPermission t s a m → KeepsPermission t (after t s a) b m → KeepsPermission t s (a ++ b) m
keeps_both t s [] b m x y = y
keeps_both t s (e ∷ a) b m x y = (x.0, keeps_both t (next t s e.machine e.call) a b m x.1 y)

keeps_first : (t : PlanTable) (s : State) (a b : List Event) (m : Motor) → KeepsPermission t s (a ++ b) m → KeepsPermission t s a m
keeps_first t s [] b m x = tt
keeps_first t s (e ∷ a) b m x = (x.0, keeps_first t (next t s e.machine e.call) a b m x.1)

keeps_last : (t : PlanTable) (s : State) (a b : List Event) (m : Motor) → KeepsPermission t s (a ++ b) m → KeepsPermission t (after t s a) b m
keeps_last t s [] b m x = x
keeps_last t s (e ∷ a) b m x = keeps_last t (next t s e.machine e.call) a b m x.1

pub one_more : (t : PlanTable) (m : Motor) (s : State) (read since : List Event) (e : Event)
    → MayStillRun t s read (since ++ e ∷ []) m ↔ (MayStillRun t s read since m × ¬ LosesPermission t (after t s (read ++ since)) e.machine e.call m)
one_more t m s read since e =
    let at = after t s read in
    let same = after_append t s read since in (
      λ r.
          let last = keeps_last t at since (e ∷ []) m r.kept in
          (record { permitted = r.permitted; kept = keeps_first t at since (e ∷ []) m r.kept }, subst (λ (x : State). ¬ LosesPermission t x e.machine e.call m) (sym same) last.0),
      λ r. record {
        permitted = r.0.permitted;
        kept = keeps_both t at since (e ∷ []) m r.0.kept (subst (λ (x : State). ¬ LosesPermission t x e.machine e.call m) same r.1, tt);
      },
    )

own_head : (b : Bool) (e : Event) (own : List Event) → cond b (e ∷ own) own ≡ [] → (b ≡ false) × (own ≡ [])
own_head true e own h = cc
own_head false e own h = (refl, h)

others_keep : (t : PlanTable) (s : State) (more : List Event) (m : Motor) → own_events more m.machine ≡ [] → KeepsPermission t s more m
others_keep t s [] m none = tt
others_keep t s (e ∷ more) m none =
    let apart = own_head (nat_eq e.machine m.machine) e (own_events more m.machine) none in
    (λ x. apart-nat_eq e.machine m.machine apart.0 x.own, others_keep t (next t s e.machine e.call) more m apart.1)

pub others_end_none : (t : PlanTable) (m : Motor) (s : State) (read since more : List Event) → own_events more m.machine ≡ []
    → MayStillRun t s read since m → MayStillRun t s read (since ++ more) m
others_end_none t m s read since more none r = record {
  permitted = r.permitted;
  kept = keeps_both t (after t s read) since more m r.kept (others_keep t (after t (after t s read) since) more m none);
}

same_unless_done : (a : Answer) (t : PlanTable) (s : State) (n : ℕ) (c : Call) → a ≢ Done → next_by a t s n c ≡ s
same_unless_done Done t s n c other = absurd (other refl)
same_unless_done (Shown o f q) t s n c other = refl
same_unless_done (Refused r) t s n c other = refl

pub only_done_loses : (t : PlanTable) (s : State) (n : ℕ) (c : Call) (m : Motor) → reply t s n c ≢ Done → LosesPermission t s n c m → ⊥
only_done_loses t s n c m other x =
    x.lost (subst (λ (y : State). Permits t y m) (sym (same_unless_done (reply t s n c) t s n c other)) x.before)

-- ---- two machines
pub never_run : EveryLegalHistoryIsLawful → (t : PlanTable) (a b : Motor) (s : State) (h : List Event) → IsPlan t → IsMotorOf t a → IsMotorOf t b → NeverBoth t a b → IsSound t s
    → MayRun t s h a → MayRun t s h b → ⊥
never_run laws t a b s h p f g never k x y =
    never_after t a b s h p never k (may_run_permits laws t a s h p f k x) (may_run_permits laws t b s h p g k y)

pub never_run_from : EveryLegalHistoryIsLawful → (t : PlanTable) (a b : Motor) (s : State) (h : List Event) → IsPlan t → IsMotorOf t a → IsMotorOf t b → NeverFrom t s a b → IsSound t s
    → IsLegal t s h → MayRun t s h a → MayRun t s h b → ⊥
never_run_from laws t a b s h p f g never k l x y =
    never h l (may_run_permits laws t a s h p f k x) (may_run_permits laws t b s h p g k y)
