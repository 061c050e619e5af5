-- Motors are permitted over one interlock after another, and no call is answered Worn below the last stamp.
use Rattle.std.proofs.Common.{◌≡◌, ◌≢◌, ◌<◌, ◌≤◌, ◌+◌, ℕ, List, [], ◌∷◌, map, Option, refl, sym, ap, ◌∙◌, subst, arith, All}
use Rattle.std.proofs.lemmas.List.Elements.{All-nil, All-cons}
use Rattle.plan_types.specs.declared.answer.Answer.TheVariants.{Refused}
use Rattle.plan_types.specs.declared.answer.Event.{Event}
use Rattle.plan_types.specs.declared.answer.Refusal.TheVariants.{Worn}
use Rattle.plan_types.specs.Table.{PlanTable}
use Rattle.plan_rules.specs.declared.state.State.{State}
use Rattle.plan_rules.specs.State.{last_stamp}
use Rattle.plan_rules.specs.Reply.{next}
use Rattle.plan_rules.specs.History.{done_count}
use Rattle.plan_rules.specs.SayLaws.{RefusalsAreTrue}
use Rattle.plan_motors.specs.MotorPlan.{MotorTables}
use Rattle.plan_drives.specs.Facts.{OpensByPoses}
use Rattle.plan_drives.specs.Program.{IsDriven}
use Rattle.plan_controller.specs.Steps.{line_of}
use Rattle.plan_controller.specs.Turns.{program_in}
use Rattle.plan_interlock.specs.Book.{plan_book, plan_of}
use Rattle.word_interlock.specs.History.{IsLegal as IsLegalBy, after as after_by}
use Rattle.plan_workers.specs.Works.{AtWork}
use Rattle.plan_workers.specs.Turning.{AreTaken, GateOf}
use Rattle.plan_workers.specs.Recording.{JournalLineView, by_journal}
use Rattle.plan_workers.specs.RenewalLaws.{AreAllPermitted, UnwornEndsTell, WorkIsPermitted}
use Rattle.plan_workers.proofs.Journaling.{stamp_counted}

-- ---- no call is answered Worn

worn_late : RefusalsAreTrue → (t : PlanTable) (s : State) (e : Event) (h : List Event) (end : State) → IsLegalBy (plan_book t) s (e ∷ h) → end ≡ after_by (plan_book t) s (e ∷ h) → end.stamp < last_stamp → e.answer ≢ Refused Worn
worn_late true_said t s e h end l reached low worn =
    let late : 1048575 ≤ s.stamp = true_said t s e.machine e.call Worn (sym l.0 ∙ worn) in
    let counted : end.stamp ≡ s.stamp + done_count (e ∷ h) = ap (λ (x : State). x.stamp) reached ∙ stamp_counted t s (e ∷ h) l in
    let last : last_stamp ≡ 1048575 = refl in
    omega (arith, late, counted, last, low)

none_worn : RefusalsAreTrue → (t : PlanTable) (s : State) (h : List Event) (end : State) → IsLegalBy (plan_book t) s h → end ≡ after_by (plan_book t) s h → end.stamp < last_stamp → All (λ e. e.answer ≢ Refused Worn) h
none_worn true_said t s [] end l reached low = All-nil (λ e. e.answer ≢ Refused Worn)
none_worn true_said t s (e ∷ h) end l reached low =
    All-cons (λ e. e.answer ≢ Refused Worn) e h (worn_late true_said t s e h end l reached low) (none_worn true_said t (next t s e.machine e.call) h end l.1 reached low)

pub unworn_tells : RefusalsAreTrue → UnwornEndsTell
unworn_tells true_said t opening end passes ended low = none_worn true_said t opening ended.history end ended.lawful.legal ended.reached low

-- ---- motors are permitted

module _ {D : Type 0} (reads : D → Option ℕ → D → Type 0) (drives : D → ℕ → D → Type 0) (plan : MotorTables) where
  -- what a machine keeps through its turns, so that its motors are permitted
  record Keeps (x : AtWork JournalLineView D) : Type 0 where
    plan_is : plan.plan ≡ x.line.line.plan
    by_poses : OpensByPoses x.line.line.plan x.line.line.pass.opening
    driven : IsDriven plan x.control.machine (program_in x.control)

  all_permitted : (before : AtWork JournalLineView D) (turns : List (AtWork JournalLineView D)) (taken : AreTaken (by_journal reads drives) before turns) → Keeps before → AreAllPermitted reads drives plan before turns taken
  all_permitted before [] taken k = tt
  all_permitted before (now ∷ later) taken k =
      let turn = taken.0 in
      let plan_is : plan.plan ≡ now.line.line.plan = k.plan_is ∙ sym turn.table in
      let by_poses = subst (λ t. OpensByPoses t now.line.line.pass.opening) (sym turn.table) (subst (OpensByPoses before.line.line.plan) (sym turn.opening) k.by_poses) in
      let driven = subst (λ m. IsDriven plan m (program_in now.control)) (sym turn.careful.machine) (subst (λ xs. IsDriven plan before.control.machine (map line_of xs)) (sym turn.careful.program) k.driven) in
      let still : Keeps now = record { plan_is = plan_is; by_poses = by_poses; driven = driven } in
      (turn.permitted plan plan_is driven by_poses, all_permitted now later taken.1 still)

pub work_permitted : {D : Type 0} (reads : D → Option ℕ → D → Type 0) (drives : D → ℕ → D → Type 0) (gate : ℕ → GateOf) → WorkIsPermitted reads drives gate
work_permitted reads drives gate i turns job back work plan same by_poses driven =
    all_permitted reads drives plan _ work.worked.come.turns work.worked.come.taken (record {
      plan_is = same ∙ sym work.plan;
      by_poses = subst (λ t. OpensByPoses t work.line.line.pass.opening) (sym work.plan) (subst (λ p. OpensByPoses (plan_of i.rules) p.opening) (sym work.pass) by_poses);
      driven = driven;
    })
