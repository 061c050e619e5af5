use Rattle.std.proofs.Math.Logic.{∥∥₁_map}
use Rattle.plan_controller.proofs.lemmas.Benching.{history_grows}
use Rattle.plan_controller.proofs.bench.PlanBenchPlanLine.ask.Goals as goal

pub invariant_of-self : goal.invariant_of-self
invariant_of-self c =
    let b = c.args.self.now in
    record {
      kept = ∥∥₁_map b.kept (λ k.
          rw c.in-Ok.ensures.items
          (history_grows b.plan b.opening b.state c.apply-answer.new.state b.history.items b.machine c.args.call c.apply-answer.result k c.apply-answer.ensures.answer c.apply-answer.ensures.next));
    }
