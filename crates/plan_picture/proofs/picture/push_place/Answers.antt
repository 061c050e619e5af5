use Rattle.plan_picture.specs.Pictures as spec
use Rattle.plan_header.proofs.lemmas.Lines.{three_parts}
use Rattle.plan_picture.proofs.picture.push_place.Goals as goal

pub returns : goal.returns
returns c =
    three_parts c.push_sink.result _ _ _ _ (spec.ring_part c.args.shown.now c.args.place) (spec.source_part c.args.shown.now c.args.place) (spec.sink_part c.args.shown.now c.args.place)
    c.in_ok-push_ring.ensures c.in_ok-push_source.ensures c.push_sink.ensures
