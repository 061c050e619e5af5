use Rattle.std.proofs.Common.{◌∙◌, ◌≡◌, arith, length-set}
use Rattle.plan_document.specs.Motors.{held_need}
use Rattle.plan_document.proofs.Given.{given_more, known_more}
use Rattle.plan_document.proofs.motors.held_of.Goals as goal

pub loop-i-preserved : goal.loop-i-preserved
loop-i-preserved c =
    let same : c.from-in-loop-i.result ≡ c.in_ok-zone.zone = c.from-in-loop-i.ensures in
    record {
      zones_count = length-set c.loop-i.holds _ _ ∙ c.loop-i.invariant.zones_count;
      known = known_more held_need c.args.zones.now c.args.rows.now c.loop-i.i c.index-rows-i.result c.in_ok-zone.zone c.in_ok-zone.need (omega arith) c.index-rows-i.is c.in_ok-zone.ensures.zone c.in_ok-zone.ensures.need c.loop-i.invariant.known;
      last_given =
          λ zone small. rw same (given_more 10 held_need c.args.zones.now c.args.rows.now c.loop-i.i c.index-rows-i.result c.in_ok-zone.zone c.in_ok-zone.need c.loop-i.holds (omega arith) c.index-rows-i.is c.in_ok-zone.ensures.zone c.in_ok-zone.ensures.need (omega (arith, c.loop-i.invariant.zones_count)) c.loop-i.invariant.last_given zone small);
    }
