use Rattle.plan_text.proofs.TextLaws.{first_own_poses_count, firsts_have_numbers, unknown_names_call_nothing}
use Rattle.plan_text.proofs.laws.first_names_count.Goals as goal

pub returns-clause-numbers : goal.returns-clause-numbers
returns-clause-numbers c = firsts_have_numbers

pub returns-clause-poses : goal.returns-clause-poses
returns-clause-poses c = first_own_poses_count

pub returns-clause-unknown : goal.returns-clause-unknown
returns-clause-unknown c = unknown_names_call_nothing
