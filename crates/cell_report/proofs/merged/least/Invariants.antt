use Rattle.cell_report.proofs.NextLeast.{IsLeastUpTo, keys_of}
use Rattle.cell_report.proofs.merged.least.Given as goal

abbrev pub invariant-loop-place : goal.invariant-loop-place
invariant-loop-place l = IsLeastUpTo (keys_of l.rests) l.place l.least
