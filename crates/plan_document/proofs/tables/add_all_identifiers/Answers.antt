use Rattle.std.proofs.Common.{◌∙◌, ◌++◌, ap, sym, arith, string_bytes}
use Rattle.plan_document.specs.Names.{identifiers_in}
use Rattle.plan_document.proofs.Growing.{identifiers_more}
use Rattle.plan_document.proofs.tables.add_all_identifiers.Goals as goal

pub loop-i-preserved : goal.loop-i-preserved
loop-i-preserved c =
    let row = c.index-machines-i.result in
    record {
      names =
          c.in_ok-add_identifiers.ensures.names
          ∙ ap (λ ns. ns ++ identifiers_in (string_bytes row.name) row.poses.items) c.loop-i.invariant.names
          ∙ sym (identifiers_more c.args.machines.now c.loop-i.i row (omega arith) c.index-machines-i.is);
      distinct = c.in_ok-add_identifiers.ensures.distinct c.loop-i.invariant.distinct;
    }
