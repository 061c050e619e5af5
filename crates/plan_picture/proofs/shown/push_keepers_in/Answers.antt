use Rattle.plan_types.specs.Table.{keeper_of}
use Rattle.plan_picture.proofs.lemmas.Ranges.{mapped_more}
use Rattle.plan_picture.proofs.shown.push_keepers_in.Goals as goal

pub places-preserved : goal.places-preserved
places-preserved c =
    mapped_more (keeper_of c.args.plan.now) _ _ _ c.places.place c.places.invariant
    (rw c.keeper.ensures at c.in_ok-push.ensures.items)
