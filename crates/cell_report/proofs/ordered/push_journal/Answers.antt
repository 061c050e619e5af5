use Rattle.cell_report.proofs.Placed.{noted_more, latest_more}
use Rattle.cell_report.proofs.ordered.push_journal.Goals as goal

pub loop-entry-preserved : goal.loop-entry-preserved
loop-entry-preserved c = record {
  pushed = noted_more c.args.machine c.args.journal.now c.loop-entry.entry-index _ c.loop-entry.latest c.key-key.result c.loop-entry.all.items c.push.new.self.items c.args.all.now.items c.loop-entry.invariant.latest c.loop-entry-test.true c.key-key.ensures.key c.loop-entry.invariant.pushed c.in_ok-push.ensures.items;
  latest = rw c.max-latest.ensures (latest_more c.args.journal.now c.loop-entry.entry-index _ c.loop-entry.latest c.key-key.result c.loop-entry.invariant.latest c.loop-entry-test.true c.key-key.ensures.key);
}
