use Rattle.plan_picture.proofs.hazards.push_danger.Goals as goal

pub returns : goal.returns
returns c = rw c.hazard.ensures at c.push_danger_by.ensures
