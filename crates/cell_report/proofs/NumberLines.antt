-- The lines of a report by their numbers.
use Rattle.cell_report.proofs.Names.{refl, report_text}
use Rattle.cell_report.specs.LinesByNumber.{LinesByNumber}

pub lines_by_number : LinesByNumber
unfolding report_text
lines_by_number = record {
  machine = λ m c s. refl;
  machines = λ a b c d e f g s t u v w x y. refl;
  start = λ s. refl;
  places = λ s. refl;
  zone = λ s z. refl;
  axes = λ press arm1 arm2 rotation lift turn crane gripper. refl;
  stamp = λ s. refl;
  gap = λ stamp. refl;
  twice = λ stamp. refl;
  differs = λ stamp. refl;
  without_end = λ r did ended audit. refl;
  with_end = λ r did ended audit s. refl;
  lines = λ line later. refl;
}
