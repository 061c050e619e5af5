use Rattle.std.proofs.Common.{refl}
use Rattle.plan_app.proofs.explore.waiting_after.Goals as goal

pub returns : goal.returns
returns c = rw (c.in_ok-walk.ensures.outlook, c.in_ok-walk.ensures.end, c.plan.ensures) refl
