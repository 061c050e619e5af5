use Rattle.std.proofs.Common.{sym, subst}
use Rattle.plan_rules.specs.declared.state.State.{State}
use Rattle.plan_motors.specs.Mask.{mask_at}
use Rattle.word_interlock.specs.History.{IsLawful}
use Rattle.plan_interlock.specs.Book.{plan_book, plan_of}
use Rattle.plan_interlock.proofs.Permitting.{told, lasts}
use Rattle.plan_interlock.proofs.motors.permitted_motors.Goals as goal

pub returns-clause-permitted : goal.returns-clause-permitted
returns-clause-permitted c =
    let t = plan_of c.args.interlock.now.rules in
    let w = c.survey_word-word.new.pass in
    let more = c.survey_word-word.ensures.more in
    let lawful = subst (λ (o : State). IsLawful (plan_book t) o w.seen) (sym more.pass.opening) more.lawful in
    λ k m low mask.
    told t w.opening w.seen m c.words_are_laid_out.ensures c.permitted_motors.result k c.survey_word-word.result (mask_at c.args.masks.now k) lawful c.survey_word-word.ensures.word (c.permitted_motors.ensures.bits k low) mask

pub returns-clause-lasts : goal.returns-clause-lasts
returns-clause-lasts c =
    let t = plan_of c.args.interlock.now.rules in
    let w = c.survey_word-word.new.pass in
    let more = c.survey_word-word.ensures.more in
    let lawful = subst (λ (o : State). IsLawful (plan_book t) o w.seen) (sym more.pass.opening) more.lawful in
    λ k m low mask is set since kept.
    let both = told t w.opening w.seen m c.words_are_laid_out.ensures c.permitted_motors.result k c.survey_word-word.result (mask_at c.args.masks.now k) lawful c.survey_word-word.ensures.word (c.permitted_motors.ensures.bits k low) mask in
    lasts t w.opening w.seen m c.lawful_histories.ensures since lawful is (both.0 set) kept
