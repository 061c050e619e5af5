use Rattle.std.proofs.Common.{append-nil, arith, sym, string_bytes}
use Rattle.std.proofs.lemmas.Grind.{common_steps}
use Rattle.plan_document.proofs.Growing.{listed_all, names_more}
use Rattle.plan_document.specs.Saying.{place_of}
use Rattle.plan_document.proofs.tables.add_places.Goals as goal

pub loop-item-preserved : goal.loop-item-preserved
loop-item-preserved c = record {
  names = grind (arith, common_steps);
  spelled = λ all. names_more c.loop-item.names _ _ (c.loop-item.invariant.spelled all) c.in_ok-add_name.ensures.spelled c.in_ok-add_name.ensures.name;
  distinct = λ all. c.in_ok-add_name.ensures.distinct (c.loop-item.invariant.distinct all);
  rows = grind (arith, common_steps);
}

pub loop-item-init : goal.loop-item-init
loop-item-init c = record {
  names = sym (append-nil c.args.names.now);
  spelled = λ all. all;
  distinct = λ all. all;
  rows = sym (append-nil c.args.rows.now.items);
}

pub returns : goal.returns
returns c =
    let places = c.args.row.now.places.items in
    record {
      names = listed_all string_bytes c.args.names.now places c.loop-item.item c.loop-item.names (omega arith) c.loop-item.invariant.names;
      spelled = c.loop-item.invariant.spelled;
      distinct = c.loop-item.invariant.distinct;
      rows = listed_all (λ name. place_of c.args.machine c.args.row.now (string_bytes name)) c.args.rows.now.items places c.loop-item.item c.loop-item.rows.items (omega arith) c.loop-item.invariant.rows;
    }
