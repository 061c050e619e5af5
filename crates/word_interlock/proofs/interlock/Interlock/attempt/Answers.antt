use Rattle.std.proofs.Common.{◌≡◌, [], ◌∷◌, rules, ◌+◌, refl, sym, ◌∙◌, subst, arith}
use Rattle.word_interlock.specs.Views.{TryView}
use Rattle.word_interlock.specs.Seen.{IsSettled}
use Rattle.word_interlock.specs.Going.{IsUnderWay}
use Rattle.word_interlock.specs.Tries.{IsLost, IsBusy}
use Rattle.word_interlock.proofs.Answered.{attempt_won, attempt_refused, attempt_lost, stamp_at, busy_attempt}
use Rattle.word_interlock.specs.Timing.{GoesOn}
use Rattle.word_interlock.specs.declared.views.Moment.TheVariants.{Answered}
use Rattle.word_interlock.proofs.Timing.{lasts_won, lasts_answered, lasts_lost}
use Rattle.word_interlock.proofs.interlock.Interlock.attempt.Goals as goal

pub returns-then-found-old-clause-attempted : goal.returns-then-found-old-clause-attempted
returns-then-found-old-clause-attempted g c =
    let r = c.args.self.now.rules in let b = g.R.Rules.book r in let law = g.met.R.Rules.lawful r in let p = c.pending.inside in let told = c.exchange-found.ensures in
    let under = subst (λ (x : g.row.R.Denot). IsUnderWay (g.R.Rules.book x) p.pass p.call p.answer p.old p.new p.lost) told.1.rules_are c.pending.invariant.under_way in
    subst (λ (t : TryView g.row.R.Denot g.row.R-State.Denot g.row.R-Actor.Denot g.row.R-Call.Denot g.row.R-Event.Denot). IsSettled b t.pass t.call p.answer c.stamp_of.result c.exchange-found.new.pass) c.pending.view_is
    (attempt_won b law r _ _ _ _ _ _ _ _ _ under told c.if-found-old.true c.stamp_of.ensures)

pub returns-then-not-is_done-clause-attempted : goal.returns-then-not-is_done-clause-attempted
returns-then-not-is_done-clause-attempted g c =
    let r = c.args.self.now.rules in let b = g.R.Rules.book r in let law = g.met.R.Rules.lawful r in
    subst (λ (t : TryView g.row.R.Denot g.row.R-State.Denot g.row.R-Actor.Denot g.row.R-Call.Denot g.row.R-Event.Denot). IsSettled b t.pass t.call c.reply_at-answer.result.0 c.stamp_of-then-not-is_done.result c.exchange-found.new.pass) c.pending.view_is
    (attempt_refused b law r _ _ _ _ _ _ _ _ _ c.exchange-found.ensures c.if-found-old.false c.actor.ensures c.reply_at-answer.ensures c.stamp_of-then-not-is_done.ensures (search rules))

pub returns-then-lost-tries-clause-attempted : goal.returns-then-lost-tries-clause-attempted
returns-then-lost-tries-clause-attempted g c =
    let r = c.args.self.now.rules in let b = g.R.Rules.book r in let law = g.met.R.Rules.lawful r in let p = c.pending.inside in let told = c.exchange-found.ensures in
    let under = subst (λ (x : g.row.R.Denot). IsUnderWay (g.R.Rules.book x) p.pass p.call p.answer p.old p.new p.lost) told.1.rules_are c.pending.invariant.under_way in
    let l = attempt_lost b law r _ _ _ _ _ _ _ _ _ _ _ under told c.if-found-old.false c.actor.ensures c.reply_at-answer.ensures (search rules) in
    let room = c.pending.invariant.room in
    let e : p.lost + 1 ≡ p.tries = omega arith in
    subst (λ (t : TryView g.row.R.Denot g.row.R-State.Denot g.row.R-Actor.Denot g.row.R-Call.Denot g.row.R-Event.Denot). IsBusy b t (p.lost + 1) c.stamp_of-then-lost-tries.result c.exchange-found.new.pass) c.pending.view_is record {
      more = l.unmade.more;
      stamped = stamp_at b law _ _ _ _ _ _ _ _ l.unmade l.under_way c.stamp_of-then-lost-tries.ensures;
      last = e;
      overtaken = busy_attempt b law _ _ _ _ _ _ _ _ l e;
    }

pub invariant_of-result : goal.invariant_of-result
invariant_of-result g c =
    let r = c.args.self.now.rules in let b = g.R.Rules.book r in let law = g.met.R.Rules.lawful r in let p = c.pending.inside in let told = c.exchange-found.ensures in
    let under = subst (λ (x : g.row.R.Denot). IsUnderWay (g.R.Rules.book x) p.pass p.call p.answer p.old p.new p.lost) told.1.rules_are c.pending.invariant.under_way in
    let l = attempt_lost b law r _ _ _ _ _ _ _ _ _ _ _ under told c.if-found-old.false c.actor.ensures c.reply_at-answer.ensures (search rules) in
    let now : c.exchange-found.new.pass.rules ≡ r = l.unmade.more.pass.rules ∙ told.1.rules_are in record {
      under_way = subst (λ (x : g.row.R.Denot). IsUnderWay (g.R.Rules.book x) c.exchange-found.new.pass p.call c.reply_at-answer.result.0 c.exchange-found.result c.reply_at-answer.result.1 (p.lost + 1)) (sym now) l.under_way;
      room = omega (arith, c.pending.invariant.room);
      few = c.pending.invariant.few;
    }

pub returns-clause-attempted : goal.returns-clause-attempted
returns-clause-attempted g c =
    let r = c.args.self.now.rules in let b = g.R.Rules.book r in let law = g.met.R.Rules.lawful r in let p = c.pending.inside in let told = c.exchange-found.ensures in
    let under = subst (λ (x : g.row.R.Denot). IsUnderWay (g.R.Rules.book x) p.pass p.call p.answer p.old p.new p.lost) told.1.rules_are c.pending.invariant.under_way in
    let l = attempt_lost b law r _ _ _ _ _ _ _ _ _ _ _ under told c.if-found-old.false c.actor.ensures c.reply_at-answer.ensures (search rules) in
    subst (λ (t : TryView g.row.R.Denot g.row.R-State.Denot g.row.R-Actor.Denot g.row.R-Call.Denot g.row.R-Event.Denot). IsLost b t record { pass = c.exchange-found.new.pass; call = p.call; lost = p.lost + 1; tries = p.tries }) c.pending.view_is
    record { unmade = l.unmade; call = refl; tries = refl; since = l.since; lost = refl; room = omega (arith, c.pending.invariant.room); changed = l.changed }

pub returns-then-found-old-clause-real_time : goal.returns-then-found-old-clause-real_time
returns-then-found-old-clause-real_time g c =
    let r = c.args.self.now.rules in let b = g.R.Rules.book r in let law = g.met.R.Rules.lawful r in let p = c.pending.inside in let told = c.exchange-found.ensures in
    let under = subst (λ (x : g.row.R.Denot). IsUnderWay (g.R.Rules.book x) p.pass p.call p.answer p.old p.new p.lost) told.1.rules_are c.pending.invariant.under_way in
    subst (λ (t : TryView g.row.R.Denot g.row.R-State.Denot g.row.R-Actor.Denot g.row.R-Call.Denot g.row.R-Event.Denot). GoesOn b t (λ v. Answered (b.event v.actor t.call p.answer) ∷ []) c.exchange-found.new.pass) c.pending.view_is
    (λ heard v who k. lasts_won b law r heard v p.pass c.exchange-found.new.pass _ _ _ _ _ _ who k under told c.if-found-old.true)

pub returns-then-not-is_done-clause-real_time : goal.returns-then-not-is_done-clause-real_time
returns-then-not-is_done-clause-real_time g c =
    let r = c.args.self.now.rules in let b = g.R.Rules.book r in let law = g.met.R.Rules.lawful r in let p = c.pending.inside in let told = c.exchange-found.ensures in
    subst (λ (t : TryView g.row.R.Denot g.row.R-State.Denot g.row.R-Actor.Denot g.row.R-Call.Denot g.row.R-Event.Denot). GoesOn b t (λ v. Answered (b.event v.actor t.call c.reply_at-answer.result.0) ∷ []) c.exchange-found.new.pass) c.pending.view_is
    (λ heard v who k. lasts_answered b law r heard v p.pass c.exchange-found.new.pass _ _ _ _ _ _ who k told c.if-found-old.false c.actor.ensures c.reply_at-answer.ensures (search rules))

pub returns-then-lost-tries-clause-real_time : goal.returns-then-lost-tries-clause-real_time
returns-then-lost-tries-clause-real_time g c =
    let r = c.args.self.now.rules in let b = g.R.Rules.book r in let law = g.met.R.Rules.lawful r in let p = c.pending.inside in let told = c.exchange-found.ensures in
    subst (λ (t : TryView g.row.R.Denot g.row.R-State.Denot g.row.R-Actor.Denot g.row.R-Call.Denot g.row.R-Event.Denot). GoesOn b t (λ v. []) c.exchange-found.new.pass) c.pending.view_is
    (λ heard v who k. lasts_lost b law r heard v p.pass c.exchange-found.new.pass _ _ _ _ _ _ who k told c.if-found-old.false c.actor.ensures c.reply_at-answer.ensures (search rules))

pub returns-clause-real_time : goal.returns-clause-real_time
returns-clause-real_time g c =
    let r = c.args.self.now.rules in let b = g.R.Rules.book r in let law = g.met.R.Rules.lawful r in let p = c.pending.inside in let told = c.exchange-found.ensures in
    subst (λ (t : TryView g.row.R.Denot g.row.R-State.Denot g.row.R-Actor.Denot g.row.R-Call.Denot g.row.R-Event.Denot). GoesOn b t (λ v. []) c.exchange-found.new.pass) c.pending.view_is
    (λ heard v who k. lasts_lost b law r heard v p.pass c.exchange-found.new.pass _ _ _ _ _ _ who k told c.if-found-old.false c.actor.ensures c.reply_at-answer.ensures (search rules))
