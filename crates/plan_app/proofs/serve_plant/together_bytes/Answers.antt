use Rattle.std.proofs.Common.{inr}
use Rattle.plan_app.proofs.serve_plant.together_bytes.Goals as goal

pub returns-clause-well : goal.returns-clause-well
returns-clause-well g c = λ well.
    rw (c.split_at.ensures.front, c.split_at.ensures.back, c.plan_length.ensures.length) at (c.together_document.ensures.well well)

pub returns-clause-failed : goal.returns-clause-failed
returns-clause-failed g c = λ failed.
    inr (rw (c.split_at.ensures.front, c.split_at.ensures.back, c.plan_length.ensures.length) at (c.together_document.ensures.failed failed))
