use Rattle.cell_config.proofs.Names.{◌≡◌, ◌∙◌, true, false, sym, array, items_view, view}
use Rattle.cell_config.proofs.CurveChoices.{array_is, pairs_found}
use Rattle.cell_config.proofs.sections.pairs_in.Goals as goal

pub returns-then-are_pairs : goal.returns-then-are_pairs
returns-then-are_pairs c =
    let is : view c.args.value.now ≡ array (items_view c.as_slice-values.result.now) = rw c.as_slice-values.ensures.value (array_is _ _ c.in_ok-items.ensures) in
    sym (pairs_found (view c.args.value.now) c.as_slice-values.result.now true is (sym c.if-are_pairs.true ∙ c.are_pairs.ensures))

pub returns-else-are_pairs : goal.returns-else-are_pairs
returns-else-are_pairs c =
    let is : view c.args.value.now ≡ array (items_view c.as_slice-values.result.now) = rw c.as_slice-values.ensures.value (array_is _ _ c.in_ok-items.ensures) in
    sym (pairs_found (view c.args.value.now) c.as_slice-values.result.now false is (sym c.if-are_pairs.false ∙ c.are_pairs.ensures))
