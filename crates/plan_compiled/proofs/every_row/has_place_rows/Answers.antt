use Rattle.std.proofs.Common.{below_more, refl}
use Rattle.plan_types.specs.declared.call.Call.TheVariants.{Advance}
use Rattle.plan_compiled.specs.Complete.{HasRows}
use Rattle.plan_compiled.proofs.every_row.has_place_rows.Goals as goal

pub loop-place-preserved : goal.loop-place-preserved
loop-place-preserved c =
    below_more (λ p. HasRows c.args.plan.now c.args.rows.now c.args.starts.now c.args.machine (Advance p)) c.loop-place.place c.loop-place.invariant (c.if-not-has_rows.ensures refl)
