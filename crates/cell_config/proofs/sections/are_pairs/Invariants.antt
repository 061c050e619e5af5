use Rattle.cell_config.proofs.Names.{◌≡◌, map, take, true, list_all, view, is_pair}
use Rattle.cell_config.proofs.sections.are_pairs.Given as goal

abbrev pub invariant-values : goal.invariant-values
invariant-values l = list_all is_pair (take l.value-index (map view l.values)) ≡ true
