use Rattle.plan_picture.proofs.picture.push_thing.Goals as goal

pub returns : goal.returns
returns c = rw c.row.ensures.middle at c.push_thing_at.ensures
