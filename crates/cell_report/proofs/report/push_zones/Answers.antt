use Rattle.cell_report.proofs.Names.{ap, map, drop_more, all_zones, text_of_lines, zone_line}
use Rattle.cell_report.proofs.Reports.{told_more}
use Rattle.cell_report.proofs.report.push_zones.Goals as goal

pub zones-preserved : goal.zones-preserved
zones-preserved c =
    told_more _ _ _ _ _ _ c.in_ok-push_zone.ensures
    (ap (λ zones. text_of_lines (map (zone_line c.args.state.now) zones)) (drop_more all_zones c.zones.zone-index _ c.zones-test.true)) c.zones.invariant
