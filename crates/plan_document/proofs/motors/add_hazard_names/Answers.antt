use Rattle.std.proofs.Common.{◌∙◌, ap, sym, string_bytes}
use Rattle.std.specs.List.{list_all}
use Rattle.plan_document.specs.Names.{is_title}
use Rattle.plan_document.specs.declared.document.HazardRow.{HazardRow}
use Rattle.plan_document.proofs.Growing.{free_more, name_more, names_all}
use Rattle.plan_document.proofs.motors.add_hazard_names.Goals as goal

pub loop-i-preserved : goal.loop-i-preserved
loop-i-preserved c = record {
  names = name_more (λ (row : HazardRow). string_bytes row.name) c.args.hazards.now c.loop-i.i c.index-hazards-i.result c.loop-i.names c.add_title.new.names c.as_str-title.result.now c.loop-i-test.true c.index-hazards-i.is (c.as_str-title.ensures.value ∙ ap (λ (row : HazardRow). string_bytes row.name) (sym c.index-hazards-i.is)) c.in_ok-add_title.ensures.name c.loop-i.invariant.names;
  spelled = ap (list_all is_title) c.in_ok-add_title.ensures.name ∙ free_more is_title c.loop-i.names _ c.loop-i.invariant.spelled c.in_ok-add_title.ensures.spelled;
  distinct = c.in_ok-add_title.ensures.distinct c.loop-i.invariant.distinct;
}

pub returns : goal.returns
returns c = record {
  names = names_all (λ (row : HazardRow). string_bytes row.name) c.args.hazards.now c.loop-i.i c.loop-i.names c.loop-i-test.false c.loop-i.invariant.names;
  spelled = c.loop-i.invariant.spelled;
  distinct = c.loop-i.invariant.distinct;
}
