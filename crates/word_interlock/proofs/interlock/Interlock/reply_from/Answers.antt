use Rattle.std.proofs.Common.{rules, ◌≡◌, ◌<◌, List, sym, ◌∙◌, subst, arith}
use Rattle.word_interlock.specs.History.{BeginsWith}
use Rattle.word_interlock.proofs.Answered.{look_refused, look_ready, one_load, one_exchange, attempt_won, attempt_refused, attempt_lost, unmade-after, settled-after, stamp_at, busy, changes_since}
use Rattle.word_interlock.proofs.Timing.{lasts_refused, lasts_pending, lasts_won, lasts_answered, lasts_lost}
use Rattle.word_interlock.proofs.interlock.Interlock.reply_from.Goals as goal

pub returns-then-not-is_done : goal.returns-then-not-is_done
returns-then-not-is_done g c = record {
  asked = λ heard v told.
      let r = c.args.self.now.rules in let b = g.R.Rules.book r in let law = g.met.R.Rules.lawful r in
      let s = look_refused b law r heard v _ _ _ _ _ _ _ told c.actor.ensures c.reply_at-answer.ensures c.stamp_of.ensures (search rules) in
      let k = one_load b law r heard v _ _ _ told in record {
        pass = s.pass;
        lawful = s.lawful;
        seen = (s.seen, s.stamped);
        answer = s.answer;
        right = s.right;
        busy = tt;
        one_load = k.0;
        few_exchanges = omega (arith, k.1);
        all_lost = tt;
        since = tt;
        real_time = lasts_refused b law r heard v _ _ _ _ _ _ told c.actor.ensures c.reply_at-answer.ensures (search rules);
      };
}

pub returns-then-found-word : goal.returns-then-found-word
returns-then-found-word g c = record {
  asked = λ heard v told.
      let r = c.args.self.now.rules in let b = g.R.Rules.book r in let law = g.met.R.Rules.lawful r in
      let under = c.loop-lost.invariant.1 in let i = c.loop-lost.invariant.2 heard v told in
      let s = settled-after b law v _ _ _ _ _ i.0 (attempt_won b law r _ _ _ _ _ _ _ _ _ under c.exchange-found.ensures c.if-found-word.true c.stamp_of-then-found-word.ensures) in
      let k = one_exchange b law r _ _ _ _ _ c.exchange-found.ensures in
      let room : c.loop-lost._lost < c.args.self.now.tries = search rules in record {
        pass = s.pass;
        lawful = s.lawful;
        seen = (s.seen, s.stamped);
        answer = s.answer;
        right = s.right;
        busy = tt;
        one_load = k.0 ∙ i.2;
        few_exchanges = omega (arith, k.1, i.3, room);
        all_lost = tt;
        since = tt;
        real_time = lasts_won b law r heard v _ _ _ _ _ _ _ _ i.0.more.pass.actor i.4 under c.exchange-found.ensures c.if-found-word.true;
      };
}

pub returns-then-not-is_done-2 : goal.returns-then-not-is_done-2
returns-then-not-is_done-2 g c = record {
  asked = λ heard v told.
      let r = c.args.self.now.rules in let b = g.R.Rules.book r in let law = g.met.R.Rules.lawful r in
      let i = c.loop-lost.invariant.2 heard v told in
      let s = settled-after b law v _ _ _ _ _ i.0
      (attempt_refused b law r _ _ _ _ _ _ _ _ _ c.exchange-found.ensures c.if-found-word.false c.actor-in-loop-lost.ensures c.reply_at-later.ensures c.stamp_of-then-not-is_done-2.ensures (search rules)) in
      let k = one_exchange b law r _ _ _ _ _ c.exchange-found.ensures in
      let room : c.loop-lost._lost < c.args.self.now.tries = search rules in record {
        pass = s.pass;
        lawful = s.lawful;
        seen = (s.seen, s.stamped);
        answer = s.answer;
        right = s.right;
        busy = tt;
        one_load = k.0 ∙ i.2;
        few_exchanges = omega (arith, k.1, i.3, room);
        all_lost = tt;
        since = tt;
        real_time = lasts_answered b law r heard v _ _ _ _ _ _ _ _ i.0.more.pass.actor i.4 c.exchange-found.ensures c.if-found-word.false c.actor-in-loop-lost.ensures c.reply_at-later.ensures (search rules);
      };
}

pub loop-lost-preserved : goal.loop-lost-preserved
loop-lost-preserved g c =
    let r = c.args.self.now.rules in let b = g.R.Rules.book r in let law = g.met.R.Rules.lawful r in
    let l = attempt_lost b law r _ _ _ _ _ _ _ _ _ _ _ c.loop-lost.invariant.1 c.exchange-found.ensures c.if-found-word.false c.actor-in-loop-lost.ensures c.reply_at-later.ensures (search rules) in
    let k = one_exchange b law r _ _ _ _ _ c.exchange-found.ensures in (
      l.unmade.more.pass.table ∙ c.loop-lost.invariant.0,
      l.under_way,
      λ heard v told. let i = c.loop-lost.invariant.2 heard v told in (
        unmade-after b law v _ _ _ i.0 l.unmade,
        subst (λ (x : List g.row.R-Event.Denot). BeginsWith x v.seen) (sym l.since) i.1,
        k.0 ∙ i.2,
        omega (arith, k.1, i.3),
        lasts_lost b law r heard v _ _ _ _ _ _ _ _ i.0.more.pass.actor i.4 c.exchange-found.ensures c.if-found-word.false c.actor-in-loop-lost.ensures c.reply_at-later.ensures (search rules),
      ),
    )

pub returns : goal.returns
returns g c = record {
  asked = λ heard v told.
      let r = c.args.self.now.rules in let b = g.R.Rules.book r in let law = g.met.R.Rules.lawful r in
      let under = c.loop-lost.invariant.1 in let i = c.loop-lost.invariant.2 heard v told in
      let e : c.loop-lost._lost ≡ c.args.self.now.tries = search rules in
      let w = busy b law v _ _ _ _ _ _ _ i.0 under i.1 e in record {
        pass = i.0.more.pass;
        lawful = i.0.more.lawful;
        seen = (i.0.more.seen, stamp_at b law v _ _ _ _ _ _ _ i.0 under c.stamp_of-2.ensures);
        answer = tt;
        right = tt;
        busy = record { all_lost = search rules; ready = w.ready; changed = w.changed };
        one_load = i.2;
        few_exchanges = omega (arith, i.3, e);
        all_lost = omega (arith, i.3, e);
        real_time = i.4;
        since = changes_since b law v _ _ _ _ _ _ _ i.0 under (search rules);
      };
}

pub loop-lost-init : goal.loop-lost-init
loop-lost-init g c =
    let r = c.args.self.now.rules in let b = g.R.Rules.book r in let law = g.met.R.Rules.lawful r in let first = c.requires.loaded in
    let under = look_ready b law r first.0 first.1 _ _ _ _ _ _ first.2 c.actor.ensures c.reply_at-answer.ensures (search rules) in (
      search rules,
      under.1,
      λ heard v told.
          let t = look_ready b law r heard v _ _ _ _ _ _ told c.actor.ensures c.reply_at-answer.ensures (search rules) in
          let k = one_load b law r heard v _ _ _ told in (
            t.0,
            subst (λ (x : List g.row.R-Event.Denot). BeginsWith x v.seen) (sym t.2) t.0.more.seen.begins,
            k.0,
            omega (arith, k.1),
            lasts_pending b law r heard v _ _ _ _ _ _ told c.actor.ensures c.reply_at-answer.ensures (search rules),
          ),
    )
