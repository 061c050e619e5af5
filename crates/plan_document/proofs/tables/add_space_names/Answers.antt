use Rattle.plan_document.specs.Names.{space_name}
use Rattle.plan_document.proofs.Growing.{name_more, names_all}
use Rattle.plan_document.proofs.tables.add_space_names.Goals as goal

pub loop-i-preserved : goal.loop-i-preserved
loop-i-preserved c =
    name_more space_name c.args.zones.now c.loop-i.i c.index-zones-i.result c.loop-i.names _ _ c.loop-i-test.true c.index-zones-i.is c.space_name.ensures c.in_ok-push_name.ensures.name c.loop-i.invariant

pub returns : goal.returns
returns c = names_all space_name c.args.zones.now c.loop-i.i c.loop-i.names c.loop-i-test.false c.loop-i.invariant
