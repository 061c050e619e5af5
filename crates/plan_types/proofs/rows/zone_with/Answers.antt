use Rattle.std.proofs.Common.{◌≡◌, length, None, refl}
use Rattle.plan_types.proofs.Same.{no_some}
use Rattle.plan_types.proofs.ZoneRows.{one_zone, entrance_told}
use Rattle.plan_types.proofs.rows.zone_with.Goals as goal

pub returns-in_err-joins : goal.returns-in_err-joins
returns-in_err-joins c = rw c.from_residual.ensures (λ zone. (
  λ some. absurd (no_some None zone refl some),
  λ told. absurd (no_some c.entrance_with.result (zone.joins, zone.inward) c.in_err-joins.was
      ((c.entrance_with.ensures zone.joins zone.inward).1 (entrance_told c.args.row.now zone told))),
))

pub returns : goal.returns
returns c =
    let long : length c.args.row.now ≡ 8 = search in
    one_zone c.args.row.now c.in_ok-joins.joins c.in_ok-joins.inward c.in_ok-outward.outward long
    ((c.entrance_with.ensures c.in_ok-joins.joins c.in_ok-joins.inward).0 c.in_ok-joins.was)
    ((c.way_with.ensures c.in_ok-outward.outward).0 c.in_ok-outward.was)
