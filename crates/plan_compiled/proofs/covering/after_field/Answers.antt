use Rattle.std.proofs.Common.{below_more}
use Rattle.plan_compiled.specs.Complete.{FitsNumber, Narrows}
use Rattle.plan_compiled.proofs.Walking.{narrows_more}
use Rattle.plan_compiled.proofs.covering.after_field.Goals as goal

pub loop-number-preserved : goal.loop-number-preserved
loop-number-preserved c =
    below_more (λ n. FitsNumber c.args.plan.now c.args.asked c.args.field n → Narrows c.args.layout.now c.args.rows.now c.args.span c.args.field n c.args.sets.now c.add_number.new.next) c.loop-number.number
    (λ n l fits. narrows_more c.args.layout.now c.args.rows.now c.args.span c.args.field n c.args.sets.now c.loop-number.next c.add_number.new.next c.add_number.ensures.kept (c.loop-number.invariant n l fits))
    c.add_number.ensures.left
