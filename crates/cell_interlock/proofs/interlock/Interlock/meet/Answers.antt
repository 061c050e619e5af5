use Rattle.cell_interlock.proofs.Names.{subst, PassView, pass_from, HasSeenMore}
use Rattle.cell_interlock.proofs.Instance.{more_here}
use Rattle.cell_interlock.proofs.interlock.Interlock.meet.Goals as goal

pub returns-clause-left : goal.returns-clause-left
returns-clause-left c =
    subst (λ (v : PassView). HasSeenMore v (pass_from c.meet-left.result.0)) c.left.view_is
    (more_here c.left.inside.inner c.meet-left.result.0 c.meet-left.ensures.left)

pub returns-clause-right : goal.returns-clause-right
returns-clause-right c =
    subst (λ (v : PassView). HasSeenMore v (pass_from c.meet-left.result.1)) c.right.view_is
    (more_here c.right.inside.inner c.meet-left.result.1 c.meet-left.ensures.right)
