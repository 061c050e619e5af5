use Rattle.std.proofs.Common.{◌∙◌}
use Rattle.cell_report.proofs.Checks.{rising_stamps, twice_is, no_twice, within_top, gap_is, gapless, gap_from, gapless_from}
use Rattle.cell_report.proofs.audits.checked_trace.Goals as goal

pub least_twice-requires : goal.least_twice-requires
least_twice-requires g c = let t = c.in_ok-trace.ensures in rising_stamps _ t.ordered c.deref.result.now t.order (c.deref.ensures.value ∙ t.is.stamps)

pub returns-in-Some : goal.returns-in-Some
returns-in-Some g c = let t = c.in_ok-trace.ensures in twice_is _ t.ordered c.deref.result.now c.in-Some.stamp t.order (c.deref.ensures.value ∙ t.is.stamps) c.in-Some.ensures

pub least_gap-requires-clause-rising : goal.least_gap-requires-clause-rising
least_gap-requires-clause-rising g c = let t = c.in_ok-trace.ensures in rising_stamps _ t.ordered c.deref-2.result.now t.order (c.deref-2.ensures.value ∙ t.is.stamps)

pub least_gap-requires-clause-within : goal.least_gap-requires-clause-within
least_gap-requires-clause-within g c =
    let t = c.in_ok-trace.ensures in within_top c.args.least t.ordered c.deref-2.result.now c.in_ok-trace.trace.top (c.deref-2.ensures.value ∙ t.is.stamps) t.is.top

pub returns-in-Some-least_gap : goal.returns-in-Some-least_gap
returns-in-Some-least_gap g c =
    let t = c.in_ok-trace.ensures in (
      no_twice _ t.ordered c.deref.result.now t.order (c.deref.ensures.value ∙ t.is.stamps) c.in_default.ensures,
      gap_from c.stamp.result c.args.start.now.stamp _ _ _ c.stamp.ensures.stamp
          (gap_is c.stamp.result c.args.least _ t.ordered c.deref-2.result.now c.in_ok-trace.trace.top c.in-Some-least_gap.stamp t.order (c.deref-2.ensures.value ∙ t.is.stamps) t.is.top c.in-Some-least_gap.ensures),
    )

pub returns : goal.returns
returns g c =
    let t = c.in_ok-trace.ensures in
    record {
      ordered = t.ordered;
      stamps = record {
        order = t.order;
        no_twice = no_twice _ t.ordered c.deref.result.now t.order (c.deref.ensures.value ∙ t.is.stamps) c.in_default.ensures;
        no_gap = gapless_from c.stamp.result c.args.start.now.stamp _ _ c.stamp.ensures.stamp
            (gapless c.stamp.result c.args.least _ t.ordered c.deref-2.result.now c.in_ok-trace.trace.top t.order (c.deref-2.ensures.value ∙ t.is.stamps) t.is.top c.in_default-least_gap.ensures);
      };
      is = t.is;
    }
