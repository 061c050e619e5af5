use Rattle.std.proofs.Common.{◌∙◌, ◌∷◌, [], ap, arith, is_none, length, length-append, string_bytes}
use Rattle.std.specs.List.{list_all}
use Rattle.plan_text.specs.Names.{Text, number_in}
use Rattle.plan_document.proofs.Growing.{free_more, name_more, names_more}
use Rattle.plan_document.proofs.sensors.sensors_of.Goals as goal

pub loop-item-preserved : goal.loop-item-preserved
loop-item-preserved c =
    let free = λ (name : Text). is_none (number_in c.args.zones.now name) in
    let name = c.as_str-name.result.now in
    record {
      names =
          name_more string_bytes c.args.row.now.sensors.items c.loop-item.item c.index.result.now c.loop-item.names c.add_sensor.new.names name
          (omega arith) c.index.ensures c.as_str-name.ensures.value c.in_ok-add_sensor.ensures.name c.loop-item.invariant.names;
      few = omega (arith, ap length c.in_ok-add_sensor.ensures.name ∙ length-append c.loop-item.names (name ∷ []), c.in_ok-add_sensor.ensures.room);
      spelled = names_more c.loop-item.names name c.add_sensor.new.names c.loop-item.invariant.spelled c.in_ok-add_sensor.ensures.spelled c.in_ok-add_sensor.ensures.name;
      distinct = c.in_ok-add_sensor.ensures.distinct c.loop-item.invariant.distinct;
      apart = ap (list_all free) c.in_ok-add_sensor.ensures.name ∙ free_more free c.loop-item.names name c.loop-item.invariant.apart c.in_ok-add_sensor.ensures.apart;
    }
