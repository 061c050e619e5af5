use Rattle.std.proofs.Common.{[]}
use Rattle.plan_controller.specs.Faults.{all_mendable}
use Rattle.plan_header.specs.Turns as spec
use Rattle.plan_header.proofs.lemmas.Lines.{item_more}
use Rattle.plan_header.proofs.turns.barred_bits.Goals as goal

pub faults-preserved : goal.faults-preserved
faults-preserved c =
    item_more (spec.barred_bit c.args.faults) all_mendable c.faults.fault-index _ [] _ _ c.faults-test.true
    c.faults.invariant c.in_ok-push_barred.ensures
