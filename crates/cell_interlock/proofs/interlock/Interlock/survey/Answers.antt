use Rattle.cell_interlock.proofs.Names.{subst, PassView, pass_from, HasSeenMore}
use Rattle.cell_interlock.proofs.Instance.{more_here}
use Rattle.cell_interlock.proofs.interlock.Interlock.survey.Goals as goal

pub returns-clause-more : goal.returns-clause-more
returns-clause-more c =
    subst (λ (v : PassView). HasSeenMore v (pass_from c.survey.new.pass)) c.pass.view_is
    (more_here c.pass.inside.inner c.survey.new.pass c.survey.ensures.more)
