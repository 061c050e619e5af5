use Rattle.cell_config.proofs.Names.{◌≡◌, length, map, take, true, filter_map, list_all, view, is_measured, measured_of}
use Rattle.cell_config.proofs.sections.measured_pairs.Given as goal

abbrev pub invariant-values : goal.invariant-values
invariant-values l = record {
  places : length l.pairs ≡ 32;
  fit : list_all is_measured (take l.i (map view l.values)) ≡ true;
  put : take l.i l.pairs ≡ filter_map measured_of (take l.i (map view l.values));
}
