use Rattle.std.proofs.Common.{◌∙◌, ◌≡◌, arith, length-set}
use Rattle.plan_document.proofs.Listed.{known_more, listed_more}
use Rattle.plan_document.proofs.motors.listed_of.Goals as goal

pub loop-item-preserved : goal.loop-item-preserved
loop-item-preserved c =
    let same : c.from-in-loop-item.result ≡ c.in_ok-place.place = c.from-in-loop-item.ensures in
    let about = rw c.as_str-name.ensures.value at c.in_ok-place.ensures in
    record {
      places_count = length-set c.loop-item.listed _ _ ∙ c.loop-item.invariant.places_count;
      known = known_more c.args.places.now c.args.names.now c.loop-item.item c.index-names-item.result c.in_ok-place.place (omega arith) c.index-names-item.is about c.loop-item.invariant.known;
      each =
          λ place small. rw same (listed_more c.args.places.now c.args.names.now c.loop-item.item c.index-names-item.result c.in_ok-place.place c.loop-item.listed (omega arith) c.index-names-item.is about (omega (arith, c.loop-item.invariant.places_count)) c.loop-item.invariant.each place small);
    }
