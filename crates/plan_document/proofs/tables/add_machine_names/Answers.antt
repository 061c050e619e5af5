use Rattle.std.proofs.Common.{◌∙◌, ap, sym, string_bytes}
use Rattle.std.specs.List.{list_all}
use Rattle.plan_document.specs.Saying.{is_free}
use Rattle.plan_document.specs.declared.document.MachineRow.{MachineRow}
use Rattle.plan_document.proofs.Growing.{free_more, name_more, names_all, names_more}
use Rattle.plan_document.proofs.tables.add_machine_names.Goals as goal

pub loop-i-preserved : goal.loop-i-preserved
loop-i-preserved c = record {
  names = name_more (λ (row : MachineRow). string_bytes row.name) c.args.machines.now c.loop-i.i c.index-machines-i.result c.loop-i.names c.add_name.new.names c.as_str-name.result.now c.loop-i-test.true c.index-machines-i.is (c.as_str-name.ensures.value ∙ ap (λ (row : MachineRow). string_bytes row.name) (sym c.index-machines-i.is)) c.in_ok-add_name.ensures.name c.loop-i.invariant.names;
  free = ap (list_all is_free) c.in_ok-add_name.ensures.name ∙ free_more is_free c.loop-i.names _ c.loop-i.invariant.free c.in_ok-check_free.ensures;
  spelled = names_more c.loop-i.names _ _ c.loop-i.invariant.spelled c.in_ok-add_name.ensures.spelled c.in_ok-add_name.ensures.name;
  distinct = c.in_ok-add_name.ensures.distinct c.loop-i.invariant.distinct;
}

pub returns : goal.returns
returns c = record {
  names = names_all (λ (row : MachineRow). string_bytes row.name) c.args.machines.now c.loop-i.i c.loop-i.names c.loop-i-test.false c.loop-i.invariant.names;
  free = c.loop-i.invariant.free;
  spelled = c.loop-i.invariant.spelled;
  distinct = c.loop-i.invariant.distinct;
}
