use Rattle.plan_header.specs.Headers as spec
use Rattle.plan_header.proofs.lemmas.Lines.{one_more}
use Rattle.plan_header.proofs.header.push_keepers.Goals as goal

pub places-preserved : goal.places-preserved
places-preserved c = one_more (spec.keeper_line c.args.named.now) _ _ _ c.places.place c.places.invariant c.in_ok-push_keeper.ensures
