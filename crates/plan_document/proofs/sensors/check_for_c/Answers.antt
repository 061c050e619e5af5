use Rattle.std.proofs.Common.{◌∙◌, ◌++◌, ap, subst, sym, take_all}
use Rattle.plan_document.specs.Names.{AreDistinct, sensor_identifiers, sensor_identifiers_in}
use Rattle.plan_document.proofs.Growing.{sensor_identifiers_more}
use Rattle.plan_document.proofs.sensors.check_for_c.Goals as goal

pub loop-machine-preserved : goal.loop-machine-preserved
loop-machine-preserved c =
    let row = c.index-machines-machine.result in
    record {
      names =
          c.in_ok-add_identifiers.ensures.names
          ∙ ap (λ ns. ns ++ sensor_identifiers_in row) c.loop-machine.invariant.names
          ∙ sym (sensor_identifiers_more c.args.machines.now c.loop-machine.machine row c.loop-machine-test.true c.index-machines-machine.is);
      distinct = c.in_ok-add_identifiers.ensures.distinct c.loop-machine.invariant.distinct;
    }

pub returns : goal.returns
returns c =
    subst AreDistinct (c.loop-machine.invariant.names ∙ ap sensor_identifiers (take_all c.loop-machine.machine c.args.machines.now c.loop-machine-test.false)) c.loop-machine.invariant.distinct
