-- The passes of a new interlock, taken one after another in the machines' order, and the jobs by them.
use Rattle.std.proofs.Common.{◌≡◌, ◌<◌, ◌≤◌, ◌+◌, ◌-◌, ◌∙◌, ℕ, suc, List, [], ◌∷◌, ◌++◌, length, map, min, ap, sym, subst, refl, arith}
use Rattle.std.specs.List.{range_with_len}
use Rattle.std.proofs.Math.Nat.{min-eq_left}
use Rattle.plan_types.specs.Table.{PlanTable, watch}
use Rattle.plan_types.specs.declared.answer.Event.{Event}
use Rattle.plan_rules.specs.declared.state.State.{State}
use Rattle.plan_interlock.specs.Book.{callers_of}
use Rattle.plan_interlock.specs.declared.rules.PlanRules.{PlanRules}
use Rattle.word_interlock.specs.Bunches.{IsNext}
use Rattle.word_interlock.specs.Rule.{new_view}
use Rattle.word_interlock.specs.Views.{pass_of, view_of}
use Rattle.word_interlock.specs.declared.views.ActorView.{ActorView}
use Rattle.plan_workers.specs.declared.rounds.PlanMachine.{PlanMachine}
use Rattle.plan_workers.specs.declared.run.PlanJob.{PlanJob}
use Rattle.plan_workers.specs.Lines.{PlanPassView}
use Rattle.plan_workers.specs.Jobs.{PlanInterlockView}
use Rattle.plan_workers.specs.Renewing.{fresh_pass, jobs_from, watch_alone}

next_range : (k n : ℕ) → k < n → range_with_len k (n - k) ≡ k ∷ range_with_len (k + 1) (n - (k + 1))
next_range k n few = let one : n - k ≡ suc (n - (k + 1)) = omega arith in ap (range_with_len k) one

pub all_callers : (t : PlanTable) → t.machines ≤ 30 → callers_of t ≡ range_with_len 0 (t.machines - 0) ++ watch ∷ []
all_callers t few =
    let same : min t.machines 30 ≡ t.machines - 0 = min-eq_left few ∙ omega arith in
    ap (λ n. range_with_len 0 n ++ watch ∷ []) same

abbrev pub Actor : Type 0
Actor = ActorView PlanRules State ℕ Event

-- the passes of the machines from this number on, and the watch's
abbrev pub left_from : PlanInterlockView → ℕ → ℕ → List Actor
left_from i k n = map (new_view i.rules i.opening) (range_with_len k (n - k) ++ watch ∷ [])

first_left : (i : PlanInterlockView) (k n : ℕ) (actors : List Actor) → actors ≡ left_from i k n → k < n → actors ≡ new_view i.rules i.opening k ∷ left_from i (k + 1) n
first_left i k n actors left few = left ∙ ap (λ r. map (new_view i.rules i.opening) (r ++ watch ∷ [])) (next_range k n few)

pub is_next : (i : PlanInterlockView) (k n : ℕ) (actors : List Actor) → actors ≡ left_from i k n → k < n → IsNext k actors
is_next i k n actors left few = subst (IsNext k) (sym (first_left i k n actors left few)) refl

-- the pass that was taken, and those that are still left
pub record IsTaken (i : PlanInterlockView) (k n : ℕ) (taken : PlanPassView) (more : List Actor) : Type 0 where
  pub pass : taken ≡ fresh_pass i k
  pub left : more ≡ left_from i (k + 1) n

pub taken : (i : PlanInterlockView) (k n : ℕ) (pass : PlanPassView) (actors more : List Actor) → actors ≡ left_from i k n → k < n → actors ≡ view_of pass ∷ more → pass.table ≡ i.table → IsTaken i k n pass more
taken i k n pass actors more left few took table =
    let both : new_view i.rules i.opening k ∷ left_from i (k + 1) n ≡ view_of pass ∷ more = sym (first_left i k n actors left few) ∙ took in
    let head : new_view i.rules i.opening k ≡ view_of pass = cc in
    let tail : left_from i (k + 1) n ≡ more = cc in
    let whole : pass_of pass.table (view_of pass) ≡ fresh_pass i k = ap (λ v. pass_of pass.table v) (sym head) ∙ ap (λ x. pass_of x (new_view i.rules i.opening k)) table in
    record { pass = whole; left = sym tail }

-- once all machines' passes are taken
pub left_none : (i : PlanInterlockView) (k n : ℕ) (actors : List Actor) → actors ≡ left_from i k n → k ≡ n → actors ≡ watch_alone i
left_none i k n actors left all =
    let none : n - k ≡ 0 = omega (arith, all) in
    left ∙ ap (λ j. map (new_view i.rules i.opening) (range_with_len k j ++ watch ∷ [])) none

-- ---- jobs

module _ {D : Type 0} (i : PlanInterlockView) where
  abbrev job_of : ℕ → PlanMachine D → PlanJob D
  job_of m x = record { pass = fresh_pass i m; controller = x.controller; devices = x.devices }

  more_jobs : (m : ℕ) (machines : List (PlanMachine D)) (x : PlanMachine D) → jobs_from i m (machines ++ x ∷ []) ≡ jobs_from i m machines ++ job_of (m + length machines) x ∷ []
  more_jobs m [] x = let here : m ≡ m + 0 = omega arith in ap (λ n. job_of n x ∷ []) here
  more_jobs m (y ∷ later) x =
      let at : m + 1 + length later ≡ m + length (y ∷ later) = omega arith in
      ap (λ js. job_of m y ∷ js) (more_jobs (m + 1) later x ∙ ap (λ n. jobs_from i (m + 1) later ++ job_of n x ∷ []) at)

  pub push_job : (machines : List (PlanMachine D)) (x : PlanMachine D) (n : ℕ) (pass : PlanPassView) (job : PlanJob D) (jobs more : List (PlanJob D)) → jobs ≡ jobs_from i 0 machines → n ≡ length machines → pass ≡ fresh_pass i n
      → job ≡ record { pass = pass; controller = x.controller; devices = x.devices } → more ≡ jobs ++ job ∷ [] → more ≡ jobs_from i 0 (machines ++ x ∷ [])
  push_job machines x n pass job jobs more all many is made pushed =
      let at : n ≡ 0 + length machines = omega (arith, many) in
      let own : job ≡ job_of (0 + length machines) x = made ∙ (ap (λ p. record { pass = p; controller = x.controller; devices = x.devices }) is ∙ ap (λ k. job_of k x) at) in
      pushed ∙ (ap (λ js. js ++ job ∷ []) all ∙ (ap (λ j. jobs_from i 0 machines ++ j ∷ []) own ∙ sym (more_jobs 0 machines x)))
