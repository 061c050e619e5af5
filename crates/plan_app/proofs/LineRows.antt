-- The examples of `report_lines_are_met`, `reports_are_whole` and `rows_are_told`.
use Rattle.std.proofs.Common.{refl}
use Rattle.std.specs.Fmt.{digits}
use Rattle.plan_app.specs.Drives.{drives_text}
use Rattle.plan_app.specs.Hazards.{motors_text}
use Rattle.plan_app.specs.LineExamples.{ReportLines, RowsAreTold, WholeReports}
use Rattle.plan_app.specs.Reports.{report_text}

pub report-lines : ReportLines
unfolding digits
report-lines = record {
  machines = refl;
  one_zone = refl;
  no_place = refl;
  width = refl;
  lower = refl;
  upper = refl;
  no_zone = refl;
  inlet = refl;
  cabin = refl;
  loft = refl;
  no_place_more = refl;
  stamp = refl;
  stop = refl;
}

pub whole-reports : WholeReports
unfolding digits report_text drives_text motors_text
whole-reports = record {
  report = refl;
  complete = λ plan start drives findings named steps motors. rw (named, steps, motors) refl;
  unknown = λ plan start drives findings named steps motors. rw (named, steps, motors) refl;
}

pub rows-told : RowsAreTold
rows-told = record {
  complete = refl;
  unknown = refl;
  meant = λ most plan start kept text tells. (tells.every, tells.rows, tells.drives, tells.findings, tells.told);
}
