use Rattle.plan_c.proofs.Resuming.{resumes_go_on}
use Rattle.plan_c.proofs.laws.resumes_go_on.Goals as goal

pub returns : goal.returns
returns c = resumes_go_on c.lawful_histories.ensures
