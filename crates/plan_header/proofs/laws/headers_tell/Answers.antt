use Rattle.plan_header.proofs.HeadersTold.{headers-tell}
use Rattle.plan_header.proofs.laws.headers_tell.Goals as goal

pub returns : goal.returns
returns c = headers-tell
