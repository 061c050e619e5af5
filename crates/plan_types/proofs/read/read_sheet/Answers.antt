use Rattle.std.proofs.Common.{Some, All, sym, ap, subst, arith}
use Rattle.plan_types.specs.Table.{PlanTable}
use Rattle.plan_types.specs.Bytes.{HasWholeRows, IsForTenZones}
use Rattle.plan_types.specs.Parts.{IsPartsOf}
use Rattle.plan_types.proofs.PlaceBytes.{narrow_places}
use Rattle.plan_types.proofs.Whole.{one_table, parts_fit, parts_read}
use Rattle.plan_types.proofs.read.read_sheet.Goals.{then-parts-via-then-parts, then-parts-via-else-parts+then-parts-2, then-parts-via-else-parts+else-parts-2+then-parts-gt-MAX_PLACES}
use Rattle.plan_types.proofs.read.read_sheet.Goals as goal

pub returns-then-parts-clause-found : goal.returns-then-parts-clause-found
returns-then-parts-clause-found c = λ t is.
    let parts = c.in_ok-parts.parts in
    let told : IsPartsOf parts t = (c.in_ok-parts.ensures.some t is.rows).0 is.bytes_are in
    let fits = parts_fit parts t is.plan is.rows told in
    absurd (elim c.then-parts.branch [
      | then-parts-via-then-parts w ↦ omega (arith, w.if-parts.true, fits.0)
      | then-parts-via-else-parts+then-parts-2 w ↦ omega (arith, w.if-parts-2.true, fits.1)
      | then-parts-via-else-parts+else-parts-2+then-parts-gt-MAX_PLACES w ↦ omega (arith, w.if-parts-gt-MAX_PLACES.true, fits.2)
    ])

pub returns-clause-found : goal.returns-clause-found
returns-clause-found c = λ t is.
    let parts = c.in_ok-parts.parts in
    let told : IsPartsOf parts t = (c.in_ok-parts.ensures.some t is.rows).0 is.bytes_are in
    let last : PlanTable = c.read_places.result in
    let zones = c.in_ok-sheet.ensures.zones in
    let poses = c.in_ok-sheet-2.ensures.poses in
    let mine : IsPartsOf parts last = parts_read parts c.new.result c.in_ok-sheet.sheet c.in_ok-sheet-2.sheet last
    c.new.ensures zones.0 zones.1 poses.0 poses.1 c.read_places.ensures.places c.read_places.ensures.bytes in
    let rows : HasWholeRows last = subst (λ ps. All IsForTenZones ps)
    (sym (ap (λ (u : PlanTable). u.poses) c.read_places.ensures.places)) c.in_ok-sheet-2.ensures.whole in
    ap (λ x. Some x) (one_table parts last t rows is.rows c.read_places.ensures.narrow (narrow_places t is.plan) mine told)
