use Rattle.cell_config.proofs.Names.{◌≡◌, None, Some, of_z, to_z, w32, refl, rules, as_table, get_member, table_view, view}
use Rattle.cell_config.proofs.AxisScales.{default_raw}
use Rattle.cell_config.proofs.sections.section_at.Goals as goal

pub points_of-requires-clause-wide : goal.points_of-requires-clause-wide
points_of-requires-clause-wide c =
    let end : to_z w32 (of_z w32 c.args.end) ≡ c.args.end = search rules in
    rw end (default_raw c.args.end c.requires).wide

pub returns-in_default-clause-value : goal.returns-in_default-clause-value
returns-in_default-clause-value c =
    let end : to_z w32 (of_z w32 c.args.end) ≡ c.args.end = search rules in
    let absent : get_member c.args.key.now (table_view c.args.table.now) ≡ None = search rules in
    rw (absent, c.of_line.ensures.scale, c.of_line.ensures.pairs, rw end at c.points_of.ensures.value) refl

pub returns-in_default-clause-axis : goal.returns-in_default-clause-axis
returns-in_default-clause-axis c =
    let end : to_z w32 (of_z w32 c.args.end) ≡ c.args.end = search rules in
    rw c.of_line.ensures.scale (rw end at c.points_of.ensures.axis)

pub returns-clause-value : goal.returns-clause-value
returns-clause-value c =
    let end : to_z w32 (of_z w32 c.args.end) ≡ c.args.end = search rules in
    let found : get_member c.args.key.now (table_view c.args.table.now) ≡ Some (view c.in-Some.value.now) = search rules in
    let table : as_table (view c.in-Some.value.now) ≡ Some (table_view c.in-Some-as_table.section.now) = search rules in
    rw (found, table) (rw end at c.section_of.ensures.value)

pub returns-clause-axis : goal.returns-clause-axis
returns-clause-axis c =
    let end : to_z w32 (of_z w32 c.args.end) ≡ c.args.end = search rules in
    rw end at c.section_of.ensures.axis
