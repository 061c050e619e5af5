use Rattle.std.proofs.Common.{◌≡◌, Some, refl, sym, ap, ◌∙◌, rules}
use Rattle.std.specs.Prelude.{slice_get}
use Rattle.plan_workers.specs.declared.routed_step.RoutedStep.{RoutedStep}
use Rattle.plan_workers.specs.declared.routed_step.RoutedStep.TheVariants.{Do, Await, Run}
use Rattle.plan_workers.proofs.EachTurn.{asks_one, performs_at}
use Rattle.plan_workers.proofs.plant_controller.PlantController.perform.Goals as goal

pub returns-in-None-clause-performs : goal.returns-in-None-clause-performs
returns-in-None-clause-performs g c =
    performs_at c.args.self.now _ _ _ c.args.sensors _ _ (sym c.step.ensures.step ∙ c.in-None.is) ((refl, refl), refl, refl)

pub returns-in-Some-Do-clause-performs : goal.returns-in-Some-Do-clause-performs
returns-in-Some-Do-clause-performs g c =
    let x = c.args.self.now in
    let it = c.in-Some-Do in
    let at : slice_get x.steps x.place ≡ Some (Do it.word it.call it.faults) = sym c.step.ensures.step ∙ it.is ∙ ap (λ (s : RoutedStep). Some s) it.field-0-is in
    performs_at x _ _ _ c.args.sensors _ _ at
    (c.ask-answer.result, asks_one g.L.PlanLine.asks c.args.lines.now x it.word (Do it.word it.call it.faults) it.call c.ask-answer.result c.index-lines-word.result c.ask-answer.new.self at refl (search rules) c.ask-answer.ensures.asks, refl, c.after_call.ensures)

pub returns-in-Some-Await-clause-performs : goal.returns-in-Some-Await-clause-performs
returns-in-Some-Await-clause-performs g c =
    let x = c.args.self.now in
    let it = c.in-Some-Await in
    let asked = c.ask-answer-in-Some-Await in
    let at : slice_get x.steps x.place ≡ Some (Await it.word it.zone) = sym c.step.ensures.step ∙ it.is ∙ ap (λ (s : RoutedStep). Some s) it.field-0-is in
    performs_at x _ _ _ c.args.sensors _ _ at
    (asked.result, asks_one g.L.PlanLine.asks c.args.lines.now x it.word (Await it.word it.zone) _ asked.result c.index-lines-word-in-Some-Await.result asked.new.self at refl (search rules) asked.ensures.asks, refl, search rules)

pub returns-then-ends-2-clause-performs : goal.returns-then-ends-2-clause-performs
returns-then-ends-2-clause-performs g c =
    let x = c.args.self.now in
    let it = c.in-Some-Run in
    let at : slice_get x.steps x.place ≡ Some (Run it.motors it.until) = sym c.step.ensures.step ∙ it.is ∙ ap (λ (s : RoutedStep). Some s) it.field-0-is in
    performs_at x _ _ _ c.args.sensors _ _ at ((refl, refl), search rules, search rules)

pub returns-else-ends-2-clause-performs : goal.returns-else-ends-2-clause-performs
returns-else-ends-2-clause-performs g c =
    let x = c.args.self.now in
    let it = c.in-Some-Run in
    let at : slice_get x.steps x.place ≡ Some (Run it.motors it.until) = sym c.step.ensures.step ∙ it.is ∙ ap (λ (s : RoutedStep). Some s) it.field-0-is in
    performs_at x _ _ _ c.args.sensors _ _ at ((refl, refl), search rules, search rules)
