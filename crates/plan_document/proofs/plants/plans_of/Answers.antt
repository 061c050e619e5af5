use Rattle.std.proofs.Common.{◌∙◌, ◌+◌, ◌∷◌, [], ap, sym, subst, length, length-append}
use Rattle.plan_document.specs.Plants.{IsWordPlanBy}
use Rattle.plan_document.proofs.PlantLines.{both_pushed}
use Rattle.plan_document.proofs.plants.plans_of.Goals as goal

pub loop-word-preserved : goal.loop-word-preserved
loop-word-preserved c =
    let d = c.args.document.now in
    let words = c.args.words.now in
    let documents = c.loop-word.documents.items in
    let plans = c.loop-word.plans.items in
    let part = c.in_ok-part.part in
    let plan = c.in_ok-part.plan in (
      ap length c.in_ok-push.ensures.items ∙ length-append documents (part ∷ []) ∙ ap (λ n. n + 1) c.loop-word.invariant.0,
      ap length c.in_ok-push-2.ensures.items ∙ length-append plans (plan ∷ []) ∙ ap (λ n. n + 1) c.loop-word.invariant.1,
      both_pushed (IsWordPlanBy d words) documents c.push.new.self.items plans c.push-in-loop-word.new.self.items part plan
          (c.loop-word.invariant.0 ∙ sym c.loop-word.invariant.1) c.loop-word.invariant.2
          (subst (λ word. IsWordPlanBy d words word part plan) (sym c.loop-word.invariant.1) c.in_ok-part.ensures)
          c.in_ok-push.ensures.items c.in_ok-push-2.ensures.items,
    )
