use Rattle.cell_config.proofs.Names.{◌≡◌, false, true, Some, rules, arith, ◌∙◌, length-set, view, is_measured, measured_of}
use Rattle.cell_config.proofs.MeasuredLemmas.{fails_at, pair_put, passes_at}
use Rattle.cell_config.proofs.sections.measured_pairs.Goals as goal

pub returns-in_default : goal.returns-in_default
returns-in_default c =
    let fail : is_measured (view c.index-values-i.result) ≡ false = search rules in
    fails_at is_measured c.args.values.now c.values.i c.index-values-i.result (omega arith) c.index-values-i.is fail

pub values-preserved : goal.values-preserved
values-preserved c =
    let found : measured_of (view c.index-values-i.result) ≡ Some c.in-Some.pair = search rules in
    let pass : is_measured (view c.index-values-i.result) ≡ true = search rules in
    record {
      places = length-set c.values.pairs _ _ ∙ c.values.invariant.places;
      fit = passes_at is_measured c.args.values.now c.values.i c.index-values-i.result (omega arith) c.index-values-i.is pass c.values.invariant.fit;
      put = pair_put measured_of c.args.values.now c.values.pairs c.values.i c.index-values-i.result c.in-Some.pair (omega arith) (omega (arith, c.values.invariant.places)) c.index-values-i.is found c.values.invariant.put;
    }
