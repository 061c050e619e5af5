use Rattle.plan_types.proofs.lemmas.Checked.{is_plan, no_fault_of_plan}
use Rattle.plan_types.proofs.examples.plans_have_no_fault.Goals as goal

pub returns : goal.returns
returns c = λ t. (no_fault_of_plan t, is_plan t)
