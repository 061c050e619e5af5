use Rattle.std.proofs.Common.{sym}
use Rattle.cell_report.proofs.Times.{twice_tells, twice_here, twice_end}
use Rattle.cell_report.proofs.stamps.least_twice.Goals as goal

pub returns-then-eq : goal.returns-then-eq
returns-then-eq c = twice_tells _ c.requires c.loop-stamp.last (twice_here _ c.loop-stamp.stamp-index 0 c.loop-stamp.last c.loop-stamp-test.true (sym c.if-eq.ensures) c.loop-stamp.invariant)

pub returns : goal.returns
returns c = twice_tells _ c.requires _ (twice_end _ _ _ c.loop-stamp-test.false c.loop-stamp.invariant)
