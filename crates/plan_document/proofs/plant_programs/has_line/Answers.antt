use Rattle.std.proofs.Common.{◌≤◌, ◌∙◌, [], List, length, map, get_or, ap, rules, sym, string_bytes, bytes_eq}
use Rattle.std.specs.List.{list_any}
use Rattle.plan_document.specs.Texts.{MachineTexts, machine_texts}
use Rattle.plan_document.specs.declared.document.MachineRow.{MachineRow}
use Rattle.plan_document.proofs.PlantLines.{has_line_at, no_line_past}
use Rattle.plan_document.proofs.plant_programs.has_line.Goals as goal

pub returns-in-Some : goal.returns-in-Some
returns-in-Some c =
    let line = c.args.line.now in
    c.is_one_of.ensures
    ∙ ap (list_any (λ other. bytes_eq (string_bytes other) line)) c.deref-in-Some.ensures.value
    ∙ has_line_at c.deref.result.now c.args.machine c.in-Some.row.now line c.in-Some.ensures.lookup.3.0 c.in-Some.ensures.lookup.1
    ∙ ap (λ (rows : List MachineRow). list_any (λ other. bytes_eq other line) (get_or (map (λ (row : MachineTexts). row.program) (map machine_texts rows)) c.args.machine [])) c.deref.ensures.value

pub returns-in-None : goal.returns-in-None
returns-in-None c =
    let line = c.args.line.now in
    let past : length c.deref.result.now ≤ c.args.machine = search rules in
    sym (no_line_past c.deref.result.now c.args.machine line past)
    ∙ ap (λ (rows : List MachineRow). list_any (λ other. bytes_eq other line) (get_or (map (λ (row : MachineTexts). row.program) (map machine_texts rows)) c.args.machine [])) c.deref.ensures.value
