use Rattle.std.proofs.Common.{◌≤◌, ◌<◌, ◌^◌, rules, subst}
use Rattle.word_interlock.proofs.lemmas.Settling.{still_first, still_after, settled_at_last, paid_for, answered_at_last}
use Rattle.word_interlock.proofs.interlock.Interlock.settle.Goals as goal

pub loop-busy-init : goal.loop-busy-init
loop-busy-init g c = still_first (g.R.Rules.book c.args.self.now.rules) (g.met.R.Rules.lawful c.args.self.now.rules) c.args.self.now.tries c.args.pass.now

pub returns-in-Settled : goal.returns-in-Settled
returns-in-Settled g c =
    let r = c.args.self.now.rules in let b = g.R.Rules.book r in let law = g.met.R.Rules.lawful r in let e = c.in-Settled.ensures in record {
      settled = settled_at_last b law c.args.self.now.tries c.loop-busy._busy c.args.pass.now c.loop-busy.pass c.ask.new.pass c.args.call c.in-Settled.answer c.in-Settled.stamp c.loop-busy.invariant e.lawful e.seen e.pass e.answer e.right;
      asked = record {
        busy = c.loop-busy._busy;
        paid = paid_for b law c.args.self.now.tries c.loop-busy._busy c.args.pass.now c.loop-busy.pass c.ask.new.pass c.args.call c.in-Settled.answer c.in-Settled.stamp c.loop-busy.invariant e.lawful e.seen e.one_load e.few_exchanges;
        last = answered_at_last b law c.args.self.now.tries c.loop-busy._busy c.args.pass.now c.loop-busy.pass c.ask.new.pass c.args.call c.in-Settled.answer c.in-Settled.stamp c.loop-busy.invariant e.lawful e.seen e.real_time;
      };
    }

pub loop-busy-preserved : goal.loop-busy-preserved
loop-busy-preserved g c =
    let r = c.args.self.now.rules in let b = g.R.Rules.book r in let law = g.met.R.Rules.lawful r in let e = c.in-Busy.ensures in
    let some_tries : 1 ≤ c.args.self.now.tries = subst (λ i. 1 ≤ i.tries) c.self.view_is c.self.invariant.3 in
    let room : c.in-Busy.stamp < 2 ^ 32 = search rules in
    still_after b law c.args.self.now.tries c.loop-busy._busy c.args.pass.now c.loop-busy.pass c.ask.new.pass c.args.call c.in-Busy.lost c.in-Busy.stamp some_tries c.loop-busy.invariant room e.pass e.lawful e.seen e.busy e.one_load e.all_lost e.real_time
