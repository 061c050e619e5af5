use Rattle.cell_report.proofs.Names.{ap, arith, Rest}
use Rattle.cell_report.proofs.NextLeast.{least_moves, least_stays}
use Rattle.cell_report.proofs.merged.least.Goals as goal
use Rattle.cell_report.proofs.merged.least.Goals.{then-rests-place, else-rests-place}

pub loop-place-preserved : goal.loop-place-preserved
loop-place-preserved c =
    let rests = c.args.rests.now in
    let this = c.index-rests-place in
    let best = c.index-rests-least in
    let key = ap (λ (r : Rest). r.key) this.is in
    let least = ap (λ (r : Rest). r.key) best.is in
    elim c.if-rests-place.branch [
      | then-rests-place w ↦ rw w.least-is (least_moves rests c.loop-place.place c.loop-place.least this.result best.result c.loop-place.invariant c.loop-place-test.true (omega (arith, key, least, w.if-rests-place.true)))
      | else-rests-place w ↦ rw w.least-is (least_stays rests c.loop-place.place c.loop-place.least this.result best.result c.loop-place.invariant c.loop-place-test.true (omega (arith, key, least, w.if-rests-place.false)))
    ]
