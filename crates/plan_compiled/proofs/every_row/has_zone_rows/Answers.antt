use Rattle.std.proofs.Common.{refl}
use Rattle.plan_compiled.proofs.every_row.has_zone_rows.Goals as goal

pub returns : goal.returns
returns c = λ e. record {
  claim = c.if-not-has_rows.ensures refl;
  give = c.if-not-has_rows-2.ensures refl;
  yield = c.if-not-has_rows-3.ensures refl;
  take = c.if-not-has_rows-4.ensures refl;
  release = c.has_rows-5.ensures e;
}
