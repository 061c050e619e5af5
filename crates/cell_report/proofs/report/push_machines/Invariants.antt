use Rattle.cell_report.proofs.Names.{◌≡◌, ◌++◌, machine_lines, text_of_lines}
use Rattle.cell_report.proofs.Reports.{machines_from}
use Rattle.cell_report.proofs.report.push_machines.Given as goal

abbrev pub invariant-machines : goal.invariant-machines
invariant-machines l = l.page ++ text_of_lines (machines_from l.index l.counts l.status) ≡ l.fn.page ++ text_of_lines (machine_lines l.counts l.status)
