use Rattle.cell_report.proofs.Names.{◌+◌, Some, None, ◌∙◌, arith, cond-true, cond-false, lt-ltb, le-ltb}
use Rattle.cell_report.proofs.Times.{gap_tells, gap_here, gap_end}
use Rattle.cell_report.proofs.stamps.least_gap.Goals as goal

pub returns-then-saturating_sub-gt1 : goal.returns-then-saturating_sub-gt1
returns-then-saturating_sub-gt1 c =
    gap_tells c.args.start c.args.top _ c.requires.rising c.requires.within (Some (c.loop-stamp.last + 1))
    (gap_here c.args.start c.args.top c.loop-stamp.last _ c.loop-stamp.stamp-index 0 c.loop-stamp-test.true (omega (arith, c.saturating_sub.ensures, c.if-saturating_sub-gt1.true)) c.loop-stamp.invariant)

pub returns-then-last-top : goal.returns-then-last-top
returns-then-last-top c =
    gap_tells c.args.start c.args.top _ c.requires.rising c.requires.within (Some (c.loop-stamp.last + 1))
    (gap_end c.args.start c.args.top c.loop-stamp.last _ _ c.loop-stamp-test.false c.loop-stamp.invariant ∙ cond-true _ _ _ (lt-ltb c.loop-stamp.last c.args.top c.if-last-top.true))

pub returns-else-last-top : goal.returns-else-last-top
returns-else-last-top c =
    gap_tells c.args.start c.args.top _ c.requires.rising c.requires.within None
    (gap_end c.args.start c.args.top c.loop-stamp.last _ _ c.loop-stamp-test.false c.loop-stamp.invariant ∙ cond-false _ _ _ (le-ltb c.loop-stamp.last c.args.top c.if-last-top.false))
