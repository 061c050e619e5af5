use Rattle.cell_config.proofs.Names.{◌≡◌, Err, IsOk, rules, table_view, section_by_key}
use Rattle.cell_config.specs.declared.refused_sections.SectionKey.TheVariants.{Arm1, Arm2, Rotation, Turn}
use Rattle.cell_config.proofs.SectionOrder.{third, fourth, last_checked, told}
use Rattle.cell_config.proofs.refused_sections.check_sections.Goals as goal

pub returns-in_err-check_section-3 : goal.returns-in_err-check_section-3
returns-in_err-check_section-3 c =
    let is : c.from_residual-in_err-check_section-3.result ≡ Err c.in_err-check_section-3.field-0.0 = search rules in
    let one : IsOk (section_by_key Arm1 (table_view c.args.table.now)) = search rules in
    let two : IsOk (section_by_key Arm2 (table_view c.args.table.now)) = search rules in
    told _ _ _ _ is c.in_err-check_section-3.ensures.0 (third _ _ one two c.in_err-check_section-3.ensures.1)

pub returns-in_err-check_section-4 : goal.returns-in_err-check_section-4
returns-in_err-check_section-4 c =
    let is : c.from_residual-in_err-check_section-4.result ≡ Err c.in_err-check_section-4.field-0.0 = search rules in
    let one : IsOk (section_by_key Arm1 (table_view c.args.table.now)) = search rules in
    let two : IsOk (section_by_key Arm2 (table_view c.args.table.now)) = search rules in
    let three : IsOk (section_by_key Rotation (table_view c.args.table.now)) = search rules in
    told _ _ _ _ is c.in_err-check_section-4.ensures.0 (fourth _ _ one two three c.in_err-check_section-4.ensures.1)

pub returns : goal.returns
returns c =
    let one : IsOk (section_by_key Arm1 (table_view c.args.table.now)) = search rules in
    let two : IsOk (section_by_key Arm2 (table_view c.args.table.now)) = search rules in
    let three : IsOk (section_by_key Rotation (table_view c.args.table.now)) = search rules in
    let four : IsOk (section_by_key Turn (table_view c.args.table.now)) = search rules in
    last_checked (table_view c.args.table.now) c.check_section-5.result one two three four c.check_section-5.ensures
