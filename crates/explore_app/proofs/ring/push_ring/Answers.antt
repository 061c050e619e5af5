use Rattle.std.proofs.Common.{refl}
use Rattle.cell_rules.specs.Types.{all_machines}
use Rattle.explore_app.specs.Rings.{ring_line}
use Rattle.explore_app.proofs.Items.{one_more_item}
use Rattle.explore_app.proofs.ring.push_ring.Goals as goal

pub machines-preserved : goal.machines-preserved
machines-preserved c =
    one_more_item (ring_line c.args.ending c.args.walk.now) all_machines c.machines.machine-index _ _ _ _ _ c.machines-test.true refl c.machines.invariant c.in_ok-push_machine.ensures
