use Rattle.std.proofs.Common.{[], ◌∷◌, sym, ap, ◌∙◌, subst}
use Rattle.word_interlock.specs.Views.{receipt_of, told_by}
use Rattle.word_interlock.specs.Timing.{IsTimed}
use Rattle.word_interlock.proofs.Telling.{told_in_order, told_stamps, told_began}
use Rattle.word_interlock.proofs.interlock.Interlock.tell.Goals as goal

pub returns-clause-order : goal.returns-clause-order
returns-clause-order g c =
    let r = c.args.self.now.rules in
    told_in_order (g.R.Rules.book r) (g.met.R.Rules.lawful r) c.args.first.now c.ask-answer.new.pass c.args.second.now _ _ c.args.call c.args.next c.receipt-receipt.ensures.receipt c.ask-answer.result c.ask_after-later.result c.ask-answer.ensures.seen c.ask_after-later.ensures.seen c.ask_after-later.ensures.after

pub returns-clause-stamps : goal.returns-clause-stamps
returns-clause-stamps g c =
    let r = c.args.self.now.rules in
    told_stamps (g.R.Rules.book r) (g.met.R.Rules.lawful r) c.args.first.now c.ask-answer.new.pass c.args.second.now _ _ c.args.call c.args.next c.receipt-receipt.ensures.receipt c.ask-answer.result c.ask_after-later.result c.ask-answer.ensures.seen c.ask-answer.ensures.pass.opening c.ask_after-later.ensures.seen c.ask_after-later.ensures.after c.ask_after-later.ensures.lawful

pub returns-clause-began_after : goal.returns-clause-began_after
returns-clause-began_after g c =
    let r = c.args.self.now.rules in
    told_began (g.R.Rules.book r) (g.met.R.Rules.lawful r) c.args.first.now c.ask-answer.new.pass c.args.second.now _ _ c.args.call c.args.next c.receipt-receipt.ensures.receipt c.ask-answer.result c.ask_after-later.result c.ask-answer.ensures.real_time c.ask_after-later.ensures.after

pub returns-clause-real_time : goal.returns-clause-real_time
returns-clause-real_time g c =
    let b = g.R.Rules.book c.args.self.now.rules in let took = c.receipt-receipt.ensures in (
      subst (λ (w : _). IsTimed b [] c.args.first.now c.args.call c.ask-answer.result w) (sym took.pass) c.ask-answer.ensures.real_time,
      subst (λ (r : _). IsTimed b (told_by r ∷ []) c.args.second.now c.args.next c.ask_after-later.result c.ask_after-later.new.pass) (took.receipt ∙ ap (λ v. receipt_of v) (sym took.pass)) c.ask_after-later.ensures.after,
    )
