use Rattle.cell_report.proofs.Names.{◌∙◌, refl, on_ok_weaker}
use Rattle.cell_report.proofs.Reports.{end_told, one_more}
use Rattle.cell_report.proofs.report.push_end_of.Goals as goal

pub returns : goal.returns
returns c =
    let places = one_more _ _ _ _ c.in_ok-push_places.ensures (one_more _ _ _ _ (c.in_ok-write_str.ensures.ok refl) c.in_ok-push_zones.ensures) in
    on_ok_weaker c.writeln.result (λ last. one_more _ _ _ _ last places ∙ end_told c.args.page.now c.args.end.now) c.writeln.ensures
