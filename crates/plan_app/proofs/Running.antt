-- The jobs of a run, one for each machine, and what machines give back.
use Rattle.std.proofs.Common.{◌≡◌, ◌<◌, ◌≤◌, ◌+◌, ◌-◌, ◌∙◌, ◌⊎◌, ℕ, suc, List, [], ◌∷◌, ◌++◌, All, inl, inr, length, map, min, None, ap, sym, subst, refl, arith}
use Rattle.std.specs.Prelude.{slice_index_or}
use Rattle.std.specs.List.{range_with_len}
use Rattle.std.proofs.Math.Nat.{min-eq_left}
use Rattle.std.proofs.lemmas.List.{get_or_append_left, get_or_push, length-append}
use Rattle.plan_types.specs.Table.{PlanTable, watch}
use Rattle.plan_types.proofs.lemmas.Below.{below_next}
use Rattle.plan_rules.specs.declared.state.State.{State}
use Rattle.plan_types.specs.declared.answer.Event.{Event}
use Rattle.plan_document.specs.declared.resolving.ProgrammedPlan.{ProgrammedPlan}
use Rattle.plan_controller.specs.Turns.{control}
use Rattle.plan_interlock.specs.Book.{callers_of, plan_of}
use Rattle.plan_interlock.specs.declared.rules.PlanRules.{PlanRules}
use Rattle.plan_workers.specs.Jobs.{IsJobOf, IsReady, PlanInterlockView}
use Rattle.plan_workers.specs.Lines.{PlanPassView}
use Rattle.plan_workers.specs.Recording.{HaveRecorded}
use Rattle.plan_workers.specs.Turning.{GateOf}
use Rattle.plan_workers.specs.declared.record.PlanRecorded.{PlanRecorded}
use Rattle.plan_workers.specs.declared.run.PlanJob.{PlanJob}
use Rattle.word_interlock.specs.Bunches.{IsNext}
use Rattle.word_interlock.specs.Rule.{new_view}
use Rattle.word_interlock.specs.Views.{view_of}
use Rattle.word_interlock.specs.declared.views.ActorView.{ActorView}
use Rattle.plan_app.specs.Runs.{AreJobsFor, IsJobFor, program_of}
use Rattle.plan_app.specs.Simulated.{Drives, Reads, Simulation, new_simulation}

-- ---- passes

pub next_range : (k n : ℕ) → k < n → range_with_len k (n - k) ≡ k ∷ range_with_len (k + 1) (n - (k + 1))
next_range k n few = let one : n - k ≡ suc (n - (k + 1)) = omega arith in ap (range_with_len k) one

pub all_callers : (t : PlanTable) → t.machines ≤ 30 → callers_of t ≡ range_with_len 0 (t.machines - 0) ++ watch ∷ []
all_callers t few =
    let same : min t.machines 30 ≡ t.machines - 0 = min-eq_left few ∙ omega arith in
    ap (λ n. range_with_len 0 n ++ watch ∷ []) same

abbrev Actor : Type 0
Actor = ActorView PlanRules State ℕ Event

abbrev fresh_view : PlanInterlockView → ℕ → Actor
fresh_view i m = new_view i.rules i.opening m

-- the first of the passes that are left
pub first_left : (i : PlanInterlockView) (k n : ℕ) (actors : List Actor) → actors ≡ map (fresh_view i) (range_with_len k (n - k) ++ watch ∷ []) → k < n
    → actors ≡ fresh_view i k ∷ map (fresh_view i) (range_with_len (k + 1) (n - (k + 1)) ++ watch ∷ [])
first_left i k n actors left few = left ∙ ap (λ r. map (fresh_view i) (r ++ watch ∷ [])) (next_range k n few)

pub is_next : (i : PlanInterlockView) (k n : ℕ) (actors : List Actor) → actors ≡ map (fresh_view i) (range_with_len k (n - k) ++ watch ∷ []) → k < n → IsNext k actors
is_next i k n actors left few = subst (IsNext k) (sym (first_left i k n actors left few)) refl

-- the pass that was taken, and those that are still left
pub record IsTaken (i : PlanInterlockView) (k : ℕ) (pass : PlanPassView) (more rest : List Actor) : Type 0 where
  pub rules : pass.rules ≡ i.rules
  pub actor : pass.actor ≡ k
  pub left : more ≡ rest

pub taken : (i : PlanInterlockView) (k n : ℕ) (pass : PlanPassView) (actors more : List Actor) → actors ≡ map (fresh_view i) (range_with_len k (n - k) ++ watch ∷ []) → k < n → actors ≡ view_of pass ∷ more
    → IsTaken i k pass more (map (fresh_view i) (range_with_len (k + 1) (n - (k + 1)) ++ watch ∷ []))
taken i k n pass actors more left few took =
    let both : fresh_view i k ∷ map (fresh_view i) (range_with_len (k + 1) (n - (k + 1)) ++ watch ∷ []) ≡ view_of pass ∷ more = sym (first_left i k n actors left few) ∙ took in
    let head : fresh_view i k ≡ view_of pass = cc in
    let tail : map (fresh_view i) (range_with_len (k + 1) (n - (k + 1)) ++ watch ∷ []) ≡ more = cc in
    record { rules = sym (ap (λ (v : Actor). v.rules) head); actor = sym (ap (λ (v : Actor). v.actor) head); left = sym tail }

-- ---- jobs

pub is_job : (plan : ProgrammedPlan) (i : PlanInterlockView) (k : ℕ) (pass : PlanPassView) (job : PlanJob Simulation) → pass.rules ≡ i.rules → pass.actor ≡ k → pass.table ≡ i.table → job.pass ≡ pass
    → job.controller ≡ control pass.actor (program_of plan k) 0 None → job.devices ≡ new_simulation (program_of plan k) → ((j : PlanInterlockView) → IsJobOf j pass → IsReady j job) → IsJobFor plan i k job
is_job plan i k pass job rules actor table is controller devices ready = record {
  ready = ready i (record { table = table; plan = ap plan_of rules });
  machine = ap (λ (v : PlanPassView). v.actor) is ∙ actor;
  controller = controller ∙ ap (λ m. control m (program_of plan k) 0 None) actor;
  devices = devices;
}

pub push_job : (plan : ProgrammedPlan) (i : PlanInterlockView) (k : ℕ) (jobs more : List (PlanJob Simulation)) (job : PlanJob Simulation) → AreJobsFor plan i jobs → length jobs ≡ k → IsJobFor plan i k job → more ≡ jobs ++ job ∷ []
    → AreJobsFor plan i more
push_job plan i k jobs more job all many one is =
    subst (AreJobsFor plan i) (sym is) (λ m d few. by m d (below_next m (length jobs) (omega (arith, few, length-append jobs (job ∷ [])))))
  where
    by : (m : ℕ) (d : PlanJob Simulation) → (m < length jobs) ⊎ (m ≡ length jobs) → IsJobFor plan i m (slice_index_or (jobs ++ job ∷ []) m d)
    by m d (inl l) = subst (IsJobFor plan i m) (sym (get_or_append_left jobs (job ∷ []) d m l)) (all m d l)
    by m d (inr e) =
        let own : IsJobFor plan i m job = subst (λ j. IsJobFor plan i j job) (sym many ∙ sym e) one in
        subst (IsJobFor plan i m) (sym (get_or_push jobs job d m (sym e))) own

-- ---- what machines give back

-- the passes that come back are of the same interlock
pub same_tables : (plan : ProgrammedPlan) (i : PlanInterlockView) (gate : ℕ → GateOf) (turns : ℕ) (jobs : List (PlanJob Simulation)) (backs : List (PlanRecorded Simulation)) → AreJobsFor plan i jobs → HaveRecorded Reads Drives i gate turns jobs backs
    → length backs ≡ length jobs → All (λ back. back.worked.pass.table ≡ i.table) backs
same_tables plan i gate turns jobs [] all done many = λ k d few. absurd (omega arith)
same_tables plan i gate turns [] (b ∷ backs) all done many = absurd (omega (arith, many))
same_tables plan i gate turns (j ∷ jobs) (b ∷ backs) all done many = λ k d few.
    let within : k < length (j ∷ jobs) = omega (arith, few, many) in
    (done k j d within).same.table ∙ (all k j within).ready.own.table
