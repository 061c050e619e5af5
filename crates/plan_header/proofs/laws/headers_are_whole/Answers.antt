use Rattle.plan_header.proofs.HeaderRows.{whole-headers}
use Rattle.plan_header.proofs.laws.headers_are_whole.Goals as goal

pub returns : goal.returns
returns c = whole-headers
