use Rattle.plan_document.specs.Names.{sensors_in}
use Rattle.plan_document.proofs.Growing.{name_more, names_all}
use Rattle.plan_document.proofs.sensors.all_sensors_of.Goals as goal

pub loop-machine-preserved : goal.loop-machine-preserved
loop-machine-preserved c =
    name_more sensors_in c.args.machines.now c.loop-machine.machine c.index-machines-machine.result c.loop-machine.all.items c.push.new.self.items c.in_ok-names.names
    c.loop-machine-test.true c.index-machines-machine.is c.in_ok-names.ensures.names c.in_ok-push.ensures.items c.loop-machine.invariant

pub returns : goal.returns
returns c = record {
  names = names_all sensors_in c.args.machines.now c.loop-machine.machine c.loop-machine.all.items c.loop-machine-test.false c.loop-machine.invariant;
  distinct = c.in_ok-check_for_c.ensures;
}
