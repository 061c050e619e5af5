use Rattle.cell_config.proofs.Names.{◌≡◌, of_z, to_z, w32, sym, rules, table_view}
use Rattle.cell_config.proofs.AxisScales.{axis_kept, section_told}
use Rattle.cell_config.proofs.sections.section_of.Goals as goal

pub points_of-requires-clause-wide : goal.points_of-requires-clause-wide
points_of-requires-clause-wide c = c.in_ok-raw.ensures.wide

pub returns-clause-value : goal.returns-clause-value
returns-clause-value c =
    let end : to_z w32 (of_z w32 c.args.end) ≡ c.args.end = search rules in
    section_told c.args.end (table_view c.args.section.now) c.in_ok-raw.raw c.in_ok-tol.tol c.points_of.result c.curve_at.result
    (sym (rw end at c.in_ok-raw.ensures.value)) (sym c.in_ok-tol.ensures.value) (rw end at c.points_of.ensures.value) c.curve_at.ensures.value c.curve_at.ensures.scale

pub returns-clause-axis : goal.returns-clause-axis
returns-clause-axis c =
    let end : to_z w32 (of_z w32 c.args.end) ≡ c.args.end = search rules in
    axis_kept c.args.end c.points_of.result c.curve_at.result (rw end at c.points_of.ensures.axis) c.curve_at.ensures.scale
