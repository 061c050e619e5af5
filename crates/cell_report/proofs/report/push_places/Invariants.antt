use Rattle.cell_report.proofs.Names.{◌≡◌, ◌++◌, map, drop, concat, flag_word, all_places, is_full, places_word}
use Rattle.cell_report.proofs.report.push_places.Given as goal

abbrev pub invariant-places : goal.invariant-places
invariant-places l = (l.place-items ≡ all_places) × (l.page ++ concat (map (λ p. flag_word (is_full l.state p)) (drop l.place-index all_places)) ≡ l.fn.page ++ places_word l.state)
