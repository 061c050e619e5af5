-- The reports of the examples.
use Rattle.cell_report.proofs.Names.{refl, report_text}
use Rattle.std.specs.Fmt.{digits}
use Rattle.cell_report.specs.ReportExamples.{ReportsAreMet}

pub reports_are_met : ReportsAreMet
unfolding report_text digits
reports_are_met = record {
  places = refl;
  owners = refl;
  no_blank = refl;
  one_word = refl;
  three_words = refl;
  no_axis = refl;
  two_axes = refl;
  idle_machine = refl;
  no_machine = refl;
  stopped = refl;
  no_place = refl;
  unknown = refl;
  no_line = refl;
  two_lines = refl;
  with_end_and_fault = λ journals. refl;
  without_end_or_fault = λ journals. refl;
  last_gap = refl;
  first_twice = refl;
  differs_at_nought = refl;
  with_end = λ journals. refl;
  with_stopped_end = λ journals. refl;
  without_end = λ journals. refl;
  ok = refl;
  gap = refl;
  twice = refl;
  differs = refl;
  end = refl;
  memory = refl;
}
