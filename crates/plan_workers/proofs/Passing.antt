-- A machine's turns leave it its pass.
use Rattle.std.proofs.Common.{◌≡◌, ℕ, List, [], ◌∷◌, Option, Some, None, refl, sym, ◌∙◌, subst}
use Rattle.plan_types.specs.declared.call.Call.{Call}
use Rattle.plan_types.specs.declared.call.Call.TheVariants.{Inquire}
use Rattle.plan_types.specs.declared.answer.Answer.{Answer}
use Rattle.plan_types.specs.declared.answer.Refusal.{Refusal}
use Rattle.word_interlock.specs.Seen.{IsSamePass}
use Rattle.plan_controller.specs.declared.step.Step.{Step}
use Rattle.plan_controller.specs.declared.step.Step.TheVariants.{Do, Await, Run}
use Rattle.plan_controller.specs.declared.outcome.Outcome.{Outcome}
use Rattle.plan_controller.specs.Turns.{Control, step_in, Performs, TurnsBy, Turns}
use Rattle.plan_workers.specs.Lines.{PlanPassView, LineView}
use Rattle.plan_workers.specs.Works.{AtWork}
use Rattle.plan_workers.specs.Turning.{GateOf, TakesTurn, AreTaken, HasWorked, last_of}
use Rattle.plan_workers.specs.Jobs.{by_pass}

-- what holds of a line that stays, and of one after a call, holds after a turn
module _ (c now : Control) (same : Type 0) (asks : Call → Option Answer → Type 0) (motors : ℕ) (Q : Type 0) (stays : same → Q) (called : (call : Call) (a : Option Answer) → asks call a → Q) where
  performed : (read : ℕ) (o : Outcome) (s : Option Step) → Performs c same asks read s motors o → Q
  performed read o None p = stays p.0
  performed read o (Some (Do call faults)) p = called call p.0 p.1
  performed read o (Some (Await z)) p = called (Inquire z) p.0 p.1
  performed read o (Some (Run run until)) p = stays p.0

  taken_by : (s : Option Refusal) (sensors : Option ℕ) → TurnsBy s c same asks sensors motors now → Q
  taken_by None (Some read) t = performed read t.0 (step_in c) t.1
  taken_by None None t = stays t.0
  taken_by (Some r) sensors t = stays t.0

  pub after_turn : (sensors : Option ℕ) → Turns c same asks sensors motors now → Q
  after_turn sensors t = taken_by c.stopped sensors t

pub same_again : (v : PlanPassView) → IsSamePass v v
same_again v = record { table = refl; rules = refl; opening = refl; actor = refl }

pub same_on : (u v w : PlanPassView) → IsSamePass u v → IsSamePass v w → IsSamePass u w
same_on u v w f g = record { table = g.table ∙ f.table; rules = g.rules ∙ f.rules; opening = g.opening ∙ f.opening; actor = g.actor ∙ f.actor }

module _ {D : Type 0} (reads : D → Option ℕ → D → Type 0) (drives : D → ℕ → D → Type 0) where
  in_turn : (before now : AtWork LineView D) → TakesTurn (by_pass reads drives) before now → IsSamePass before.line.pass now.line.pass
  in_turn before now t =
      after_turn before.control now.control _ _ t.turn.taken.motors (IsSamePass before.line.pass now.line.pass)
      (λ e. subst (λ (l : LineView). IsSamePass before.line.pass l.pass) (sym e.0) (same_again before.line.pass)) (λ call a asked. asked.0.call.pass) t.turn.sensors t.turns

  in_turns : (first : AtWork LineView D) (turns : List (AtWork LineView D)) → AreTaken (by_pass reads drives) first turns → IsSamePass first.line.pass (last_of first turns).line.pass
  in_turns first [] k = same_again first.line.pass
  in_turns first (now ∷ later) k = same_on first.line.pass now.line.pass (last_of now later).line.pass (in_turn first now k.0) (in_turns now later k.1)

  pub keeps_pass : (gate : GateOf) (limit took : ℕ) (first last : AtWork LineView D) (got back : PlanPassView) → HasWorked (by_pass reads drives) gate limit first last took → first.line.pass ≡ got → back ≡ last.line.pass
      → IsSamePass got back
  keeps_pass gate limit took first last got back k from to =
      let there = subst (λ (x : AtWork LineView D). IsSamePass first.line.pass x.line.pass) k.come.is_last (in_turns first k.come.turns k.come.taken) in
      subst (λ v. IsSamePass got v) (sym to) (subst (λ v. IsSamePass v last.line.pass) from there)
