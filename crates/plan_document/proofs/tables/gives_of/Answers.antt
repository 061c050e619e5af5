use Rattle.std.proofs.Common.{◌∙◌, ◌≡◌, arith, length-set}
use Rattle.plan_text.specs.Answers.{posture_of}
use Rattle.plan_document.proofs.Given.{given_more, known_more}
use Rattle.plan_document.proofs.tables.gives_of.Goals as goal

pub loop-i-preserved : goal.loop-i-preserved
loop-i-preserved c =
    let same : c.from-in-loop-i.result ≡ c.in_ok-zone.zone = c.from-in-loop-i.ensures in
    record {
      zones_count = length-set c.loop-i.gives _ _ ∙ c.loop-i.invariant.zones_count;
      known = known_more posture_of c.args.zones.now c.args.rows.now c.loop-i.i c.index-rows-i.result c.in_ok-zone.zone c.in_ok-zone.posture (omega arith) c.index-rows-i.is c.in_ok-zone.ensures.zone c.in_ok-zone.ensures.posture c.loop-i.invariant.known;
      last_given =
          λ zone small. rw same (given_more 10 posture_of c.args.zones.now c.args.rows.now c.loop-i.i c.index-rows-i.result c.in_ok-zone.zone c.in_ok-zone.posture c.loop-i.gives (omega arith) c.index-rows-i.is c.in_ok-zone.ensures.zone c.in_ok-zone.ensures.posture (omega (arith, c.loop-i.invariant.zones_count)) c.loop-i.invariant.last_given zone small);
    }
