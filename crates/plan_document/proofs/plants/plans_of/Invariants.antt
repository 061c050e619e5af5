use Rattle.std.proofs.Common.{◌≡◌, ℕ, Some, length, slice_get}
use Rattle.plan_document.specs.declared.document.Document.{Document}
use Rattle.plan_document.specs.declared.resolving.ProgrammedPlan.{ProgrammedPlan}
use Rattle.plan_document.specs.Plants.{IsWordPlanBy}
use Rattle.plan_document.proofs.plants.plans_of.Given as goal

abbrev pub invariant-loop-word : goal.invariant-loop-word
invariant-loop-word l =
    (length l.documents.items ≡ l.word) × (length l.plans.items ≡ l.word)
    × ((word : ℕ) (part : Document) (plan : ProgrammedPlan) → slice_get l.documents.items word ≡ Some part → slice_get l.plans.items word ≡ Some plan → IsWordPlanBy l.document l.words word part plan)
