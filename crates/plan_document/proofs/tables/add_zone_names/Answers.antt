use Rattle.std.proofs.Common.{◌∙◌, ◌++◌, ◌∷◌, [], ap, sym, arith, string_bytes, take_all}
use Rattle.plan_document.specs.Names.{space_before, taken_names, zone_names}
use Rattle.plan_document.proofs.Growing.{names_more, taken_names_more, zone_names_more}
use Rattle.plan_document.proofs.tables.add_zone_names.Goals as goal

pub loop-i-preserved : goal.loop-i-preserved
loop-i-preserved c =
    let row = c.index-zones-i.result in
    let name = string_bytes row.name in
    record {
      names =
          c.in_ok-add_name.ensures.name
          ∙ ap (λ text. c.loop-i.names ++ text ∷ []) c.as_str.ensures.value
          ∙ ap (λ ns. ns ++ name ∷ []) c.loop-i.invariant.names
          ∙ sym (zone_names_more c.args.zones.now c.loop-i.i row (omega arith) c.index-zones-i.is);
      spelled = names_more c.loop-i.names _ _ c.loop-i.invariant.spelled c.in_ok-add_name.ensures.spelled c.in_ok-add_name.ensures.name;
      distinct = c.in_ok-add_name.ensures.distinct c.loop-i.invariant.distinct;
      taken =
          c.in_ok-add_name-2.ensures.name
          ∙ ap (λ text. c.add_space_before.new.taken ++ text ∷ []) c.as_str-in-loop-i.ensures.value
          ∙ ap (λ ns. ns ++ name ∷ []) (c.in_ok-add_space_before.ensures.names ∙ ap (λ ns. ns ++ space_before row) c.loop-i.invariant.taken)
          ∙ sym (taken_names_more c.args.zones.now c.loop-i.i row (omega arith) c.index-zones-i.is);
      taken_spelled =
          names_more c.add_space_before.new.taken _ _ (c.in_ok-add_space_before.ensures.spelled c.loop-i.invariant.taken_spelled) c.in_ok-add_name-2.ensures.spelled c.in_ok-add_name-2.ensures.name;
      taken_distinct = c.in_ok-add_name-2.ensures.distinct (c.in_ok-add_space_before.ensures.distinct c.loop-i.invariant.taken_distinct);
    }

pub returns : goal.returns
returns c =
    let all = take_all c.loop-i.i c.args.zones.now c.loop-i-test.false in
    record {
      names = c.loop-i.invariant.names ∙ ap zone_names all;
      spelled = c.loop-i.invariant.spelled;
      distinct = c.loop-i.invariant.distinct;
      taken = c.loop-i.invariant.taken ∙ ap taken_names all;
      taken_spelled = c.loop-i.invariant.taken_spelled;
      taken_distinct = c.loop-i.invariant.taken_distinct;
    }
