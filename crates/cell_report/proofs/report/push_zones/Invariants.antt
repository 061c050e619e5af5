use Rattle.cell_report.proofs.Names.{◌≡◌, ◌++◌, map, drop, all_zones, text_of_lines, zone_line}
use Rattle.cell_report.proofs.report.push_zones.Given as goal

abbrev pub invariant-zones : goal.invariant-zones
invariant-zones l = l.page ++ text_of_lines (map (zone_line l.state) (drop l.zone-index all_zones)) ≡ l.fn.page ++ text_of_lines (map (zone_line l.state) all_zones)
