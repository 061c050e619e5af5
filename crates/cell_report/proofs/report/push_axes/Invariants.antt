use Rattle.std.proofs.Common.{◌≡◌, ◌++◌, codes}
use Rattle.cell_report.proofs.Reports.{axes_from}
use Rattle.cell_report.proofs.report.push_axes.Given as goal

abbrev pub invariant-axes : goal.invariant-axes
invariant-axes l = l.page ++ axes_from l.index l.axes ≡ l.fn.page ++ (codes "axes" ++ axes_from 0 l.axes)
