use Rattle.plan_picture.proofs.picture.push_ring.Goals as goal

pub returns : goal.returns
returns c = rw (c.place_thing.ensures.thing, c.name-name.ensures, c.places.ensures, c.named_plan.ensures) at c.push_thing.ensures
