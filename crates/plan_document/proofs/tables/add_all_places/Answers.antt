use Rattle.std.proofs.Common.{◌∙◌, ◌++◌, ap, sym, arith, take_all}
use Rattle.plan_document.specs.Names.{place_names, places_in}
use Rattle.plan_document.proofs.Growing.{place_names_more, place_rows_more}
use Rattle.plan_document.specs.Saying.{ends_in, place_rows}
use Rattle.plan_document.proofs.tables.add_all_places.Goals as goal

pub loop-i-preserved : goal.loop-i-preserved
loop-i-preserved c =
    let row = c.index-machines-i.result in
    record {
      names =
          c.in_ok-add_places.ensures.names
          ∙ ap (λ ns. ns ++ places_in row) c.loop-i.invariant.names
          ∙ sym (place_names_more c.args.machines.now c.loop-i.i row (omega arith) c.index-machines-i.is);
      spelled = c.in_ok-add_places.ensures.spelled c.loop-i.invariant.spelled;
      distinct = c.in_ok-add_places.ensures.distinct c.loop-i.invariant.distinct;
      rows =
          c.in_ok-add_places.ensures.rows
          ∙ ap (λ rows. rows ++ ends_in c.loop-i.i row) c.loop-i.invariant.rows
          ∙ sym (place_rows_more c.args.machines.now c.loop-i.i row (omega arith) c.index-machines-i.is);
    }

pub returns : goal.returns
returns c =
    let all = take_all c.loop-i.i c.args.machines.now c.loop-i-test.false in
    record {
      names = c.loop-i.invariant.names ∙ ap place_names all;
      spelled = c.loop-i.invariant.spelled;
      distinct = c.loop-i.invariant.distinct;
      rows = c.loop-i.invariant.rows ∙ ap place_rows all;
    }
