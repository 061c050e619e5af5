use Rattle.std.proofs.Common.{◌≡◌, true, Some, sym, ap, ◌∙◌, subst, rules}
use Rattle.plan_types.specs.declared.call.Call.TheVariants.{Inquire}
use Rattle.plan_rules.specs.History.{IsLegal}
use Rattle.plan_drives.specs.Course.{IsAt}
use Rattle.plan_controller.specs.declared.step.Step.{Step}
use Rattle.plan_controller.specs.declared.step.Step.TheVariants.{Do, Await, Run}
use Rattle.plan_controller.specs.Steps.{after_inquiry}
use Rattle.plan_controller.specs.Seen.{SeenAfter}
use Rattle.plan_controller.specs.Turns.{step_in, program_in, place_after}
use Rattle.plan_controller.proofs.lemmas.Leading.{call_leads, inquiry_leads, run_leads}
use Rattle.plan_controller.proofs.controller.PlanController.perform.Goals as goal

pub returns-in-Some-Do-clause-at : goal.returns-in-Some-Do-clause-at
returns-in-Some-Do-clause-at g c =
    let l = g.L.PlanLine in
    let old = c.args.line.now in
    let new = c.ask-answer.new.self in
    let x = c.args.self.now in
    let call = c.in-Some-Do.call in
    let faults = c.in-Some-Do.faults in
    let is : step_in x ≡ Some (Do call faults) = sym c.step.ensures ∙ c.in-Some-Do.is ∙ ap (λ (s : Step). Some s) c.in-Some-Do.field-0-is in
    let seen = subst (λ m. SeenAfter m call c.ask-answer.result (l.seen old) (l.seen new)) c.requires.own c.ask-answer.ensures.seen in
    let led = call_leads (l.table old) (l.opening old) (l.seen old) (l.seen new) x call faults c.ask-answer.result is seen c.requires.at in
    subst (λ o. IsAt (l.table new) (l.opening new) (l.seen new) x.machine (program_in x) (place_after x o)) (sym c.after_call.ensures)
    (rw (c.ask-answer.ensures.table, c.ask-answer.ensures.opening) led)

pub returns-in-Some-Await-clause-at : goal.returns-in-Some-Await-clause-at
returns-in-Some-Await-clause-at g c =
    let l = g.L.PlanLine in
    let old = c.args.line.now in
    let new = c.ask-answer-in-Some-Await.new.self in
    let x = c.args.self.now in
    let zone = c.in-Some-Await.zone in
    let answer = c.ask-answer-in-Some-Await.result in
    let told = c.ask-answer-in-Some-Await.ensures in
    let is : step_in x ≡ Some (Await zone) = sym c.step.ensures ∙ c.in-Some-Await.is ∙ ap (λ (s : Step). Some s) c.in-Some-Await.field-0-is in
    let seen = subst (λ m. SeenAfter m (Inquire zone) answer (l.seen old) (l.seen new)) c.requires.own told.seen in
    let legal = subst (λ t. IsLegal t (l.opening old) (l.seen new)) told.table (subst (λ s. IsLegal (l.table new) s (l.seen new)) told.opening (g.met.L.PlanLine.legal new)) in
    let led = inquiry_leads (l.table old) (l.opening old) (l.seen old) (l.seen new) x zone answer legal is seen c.requires.at in
    let machine : c.self.inside.machine ≡ x.machine = search rules in
    let after_it = c.after_inquiry.ensures ∙ ap (λ m. after_inquiry m answer) machine in
    subst (λ o. IsAt (l.table new) (l.opening new) (l.seen new) x.machine (program_in x) (place_after x o)) (sym after_it)
    (rw (told.table, told.opening) led)

pub returns-then-ends-2-clause-at : goal.returns-then-ends-2-clause-at
returns-then-ends-2-clause-at g c =
    let l = g.L.PlanLine in
    let line = c.args.line.now in
    let x = c.args.self.now in
    let is : step_in x ≡ Some (Run c.in-Some-Run.motors c.in-Some-Run.until) = sym c.step.ensures ∙ c.in-Some-Run.is ∙ ap (λ (s : Step). Some s) c.in-Some-Run.field-0-is in
    run_leads (l.table line) (l.opening line) (l.seen line) x c.in-Some-Run.motors c.in-Some-Run.until true is c.requires.at
