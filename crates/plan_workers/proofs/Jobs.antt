-- A machine's work, from where it was in its program, over a line by its pass.
use Rattle.std.proofs.Common.{◌≡◌, ℕ, Option, ap, subst, sym}
use Rattle.std.specs.Prelude.{Result, Ok, Err, IfOk}
use Rattle.plan_types.specs.Table.{PlanTable}
use Rattle.plan_drives.specs.Course.{IsAt}
use Rattle.plan_controller.specs.Turns.{Control, program_in}
use Rattle.plan_workers.specs.declared.run.PlanJob.{PlanJob}
use Rattle.plan_workers.specs.Lines.{LineView, PlanPassView}
use Rattle.plan_workers.specs.Works.{AtWork, at_work}
use Rattle.plan_workers.specs.Turning.{GateOf, HasWorked}
use Rattle.plan_workers.specs.Jobs.{IsInPlace, by_pass}

pub if_ok : {A E : Type 0} (P Q : A → Type 0) (r : Result A E) → IfOk r P → ((v : A) → P v → Q v) → IfOk r Q
if_ok P Q (Ok v) h f = f v h
if_ok P Q (Err e) h f = tt

pub at_work_is : {L D : Type 0} (w : AtWork L D) (k : Control) (l : L) (d : D) → w.control ≡ k → w.line ≡ l → w.devices ≡ d → w ≡ at_work k l d
at_work_is w k l d e f h i = record { control = e i; line = f i; devices = h i }

module _ {D : Type 0} (reads : D → Option ℕ → D → Type 0) (drives : D → ℕ → D → Type 0) where
  pub from_where_it_was : (gate : ℕ → GateOf) (limit took : ℕ) (job : PlanJob D) (line : LineView) (w last : AtWork LineView D) → line.pass ≡ job.pass
      → w.control ≡ job.controller → w.line ≡ line → w.devices ≡ job.devices
      → HasWorked (by_pass reads drives) (gate w.line.pass.actor) limit w last took
      → HasWorked (by_pass reads drives) (gate job.pass.actor) limit (at_work job.controller line job.devices) last took
  from_where_it_was gate limit took job line w last pass begins on with worked =
      let is = at_work_is w job.controller line job.devices begins on with in
      let here = subst (λ (x : AtWork LineView D). HasWorked (by_pass reads drives) (gate x.line.pass.actor) limit x last took) is worked in
      subst (λ (m : ℕ). HasWorked (by_pass reads drives) (gate m) limit (at_work job.controller line job.devices) last took) (ap (λ v. v.actor) pass) here

-- who was in place by a line is so by the line's pass
pub in_place_by : (t u : PlanTable) (pass back : PlanPassView) (c : Control) → pass.actor ≡ c.machine → IsAt u pass.opening pass.seen c.machine (program_in c) c.place → u ≡ t → back ≡ pass → IsInPlace t back c
in_place_by t u pass back c own at plan is =
    let here : IsInPlace t pass c = record { own = sym own; at = subst (λ x. IsAt x pass.opening pass.seen c.machine (program_in c) c.place) plan at } in
    subst (λ (v : PlanPassView). IsInPlace t v c) (sym is) here
