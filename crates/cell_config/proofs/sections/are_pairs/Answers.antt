use Rattle.cell_config.proofs.Names.{◌≡◌, false, true, rules, sym, view, is_pair}
use Rattle.cell_config.proofs.MeasuredLemmas.{fails_at, passes_at}
use Rattle.cell_config.proofs.sections.are_pairs.Goals as goal

pub returns-then-is_none : goal.returns-then-is_none
returns-then-is_none c =
    let fail : is_pair (view c.value-item.result) ≡ false = search rules in
    sym (fails_at is_pair c.args.values.now c.values.value-index c.value-item.result c.values-test.true c.value-item.is fail)

pub values-preserved : goal.values-preserved
values-preserved c =
    let pass : is_pair (view c.value-item.result) ≡ true = search rules in
    passes_at is_pair c.args.values.now c.values.value-index c.value-item.result c.values-test.true c.value-item.is pass c.values.invariant
