use Rattle.std.proofs.Common.{◌≡◌, rules, refl, sym, ◌∙◌, subst}
use Rattle.word_interlock.specs.Going.{IsUnderWay}
use Rattle.word_interlock.proofs.Timing.{lasts_refused, lasts_pending}
use Rattle.word_interlock.proofs.Answered.{look_refused, look_ready, one_load}
use Rattle.word_interlock.proofs.interlock.Interlock.look_from.Goals as goal

pub returns-else-is_done : goal.returns-else-is_done
returns-else-is_done g c = record {
  looked = λ heard v told.
      let r = c.args.self.now.rules in let b = g.R.Rules.book r in let law = g.met.R.Rules.lawful r in
      let k = one_load b law r heard v _ _ _ told in record {
        looked = (look_refused b law r heard v _ _ _ _ _ _ _ told c.actor.ensures c.reply_at-answer.ensures c.stamp_of.ensures (search rules), search rules);
        one_load = k.0;
        no_exchange = k.1;
        real_time = lasts_refused b law r heard v _ _ _ _ _ _ told c.actor.ensures c.reply_at-answer.ensures (search rules);
      };
}

pub returns-then-is_done : goal.returns-then-is_done
returns-then-is_done g c = record {
  looked = λ heard v told.
      let r = c.args.self.now.rules in let b = g.R.Rules.book r in let law = g.met.R.Rules.lawful r in
      let t = look_ready b law r heard v _ _ _ _ _ _ told c.actor.ensures c.reply_at-answer.ensures (search rules) in
      let k = one_load b law r heard v _ _ _ told in
      record { looked = record { unmade = t.0; call = refl; tries = search rules; lost = refl; since = t.2 }; one_load = k.0; no_exchange = k.1; real_time = lasts_pending b law r heard v _ _ _ _ _ _ told c.actor.ensures c.reply_at-answer.ensures (search rules) };
}

pub invariant_of-result : goal.invariant_of-result
invariant_of-result g c =
    let r = c.args.self.now.rules in let b = g.R.Rules.book r in let law = g.met.R.Rules.lawful r in let first = c.requires.loaded in
    let t = look_ready b law r first.0 first.1 _ _ _ _ _ _ first.2 c.actor.ensures c.reply_at-answer.ensures (search rules) in
    let now : c.args.pass.rules ≡ r = t.0.more.pass.rules ∙ first.2.1.rules_are in record {
      under_way = subst (λ (x : g.row.R.Denot). IsUnderWay (g.R.Rules.book x) c.args.pass c.args.call c.reply_at-answer.result.0 c.args.found c.reply_at-answer.result.1 0) (sym now) t.1;
      room = search rules;
      few = search rules;
    }
