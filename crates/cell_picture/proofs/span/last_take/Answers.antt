use Rattle.std.proofs.Common.{◌<◌, ◌+◌, IfSome, sym, ap, ◌∙◌, arith}
use Rattle.cell_picture.specs.Parts.{takes_plate}
use Rattle.cell_picture.proofs.Takes.{taken, not_taken, within_more}
use Rattle.cell_picture.proofs.span.last_take.Goals as goal
use Rattle.cell_picture.proofs.span.last_take.Goals.{then-takes_plate, else-takes_plate}

pub loop-at-preserved : goal.loop-at-preserved
loop-at-preserved c =
    let frame = c.index-frames-at.result in
    let here = ap takes_plate (sym c.index-frames-at.is) ∙ sym c.takes_plate.ensures in
    elim c.if-takes_plate.branch [
      | then-takes_plate w ↦ record {
        value = w.latest-is ∙ sym (taken c.args.frames.now c.loop-at.at frame c.loop-at-test.true (here ∙ w.if-takes_plate.true));
        within = rw w.latest-is (omega arith);
      }
      | else-takes_plate w ↦ record {
        value = w.latest-is ∙ c.loop-at.invariant.value ∙ sym (not_taken c.args.frames.now c.loop-at.at frame c.loop-at-test.true (here ∙ w.if-takes_plate.false));
        within = rw w.latest-is (within_more _ _ c.loop-at.invariant.within);
      }
    ]
