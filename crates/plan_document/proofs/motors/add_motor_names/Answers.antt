use Rattle.std.proofs.Common.{◌∙◌, ap, sym, string_bytes}
use Rattle.plan_document.specs.declared.document.MotorRow.{MotorRow}
use Rattle.plan_document.proofs.Growing.{name_more, names_all, names_more}
use Rattle.plan_document.proofs.motors.add_motor_names.Goals as goal

pub loop-i-preserved : goal.loop-i-preserved
loop-i-preserved c = record {
  names = name_more (λ (row : MotorRow). string_bytes row.name) c.args.motors.now c.loop-i.i c.index-motors-i.result c.loop-i.names c.add_name.new.names c.as_str-name.result.now c.loop-i-test.true c.index-motors-i.is (c.as_str-name.ensures.value ∙ ap (λ (row : MotorRow). string_bytes row.name) (sym c.index-motors-i.is)) c.in_ok-add_name.ensures.name c.loop-i.invariant.names;
  spelled = names_more c.loop-i.names _ _ c.loop-i.invariant.spelled c.in_ok-add_name.ensures.spelled c.in_ok-add_name.ensures.name;
  distinct = c.in_ok-add_name.ensures.distinct c.loop-i.invariant.distinct;
}

pub returns : goal.returns
returns c = record {
  names = names_all (λ (row : MotorRow). string_bytes row.name) c.args.motors.now c.loop-i.i c.loop-i.names c.loop-i-test.false c.loop-i.invariant.names;
  spelled = c.loop-i.invariant.spelled;
  distinct = c.loop-i.invariant.distinct;
}
