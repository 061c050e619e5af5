use Rattle.std.proofs.Common.{true, false, string_bytes, inl, inr, subst}
use Rattle.text_io.specs.Output.{WrotePrefix}
use Rattle.plan_app.specs.Apart.{IsExploration, TellsExploration, TellsLarge, told_of}
use Rattle.plan_app.specs.Failed.{WroteFault}
use Rattle.plan_app.proofs.Failures.{exploration_written, printed_prefix}
use Rattle.plan_app.proofs.serve.explore_from.Goals as goal

pub returns-in-Ok-Well-clause-failed : goal.returns-in-Ok-Well-clause-failed
returns-in-Ok-Well-clause-failed g c = λ failed.
    let plan = c.args.plan.now in
    let opening = c.args.opening.now in
    let old = g.W.Write.contents c.args.writer.now in
    let new = g.W.Write.contents c.print.new.writer in
    let text = string_bytes c.in-Ok-Well.text in
    let tells : TellsExploration (told_of plan.named plan.programs opening) true text =
    subst (IsExploration c.args.most (told_of plan.named plan.programs opening)) c.in-Ok-Well.field-0-is c.in-Ok-Well.ensures in
    let wrote : WrotePrefix old new text =
    subst (λ t. WrotePrefix old new t) c.as_bytes.ensures.value
    (printed_prefix c.print.result old new c.as_bytes.result.now c.print.ensures.status c.print.ensures.printed) in
    inr (inr (exploration_written plan opening true text old new tells wrote))

pub returns-in-Ok-Unwell-clause-failed : goal.returns-in-Ok-Unwell-clause-failed
returns-in-Ok-Unwell-clause-failed g c = λ failed.
    let plan = c.args.plan.now in
    let opening = c.args.opening.now in
    let old = g.W.Write.contents c.args.writer.now in
    let new = g.W.Write.contents c.print_warning.new.writer in
    let text = string_bytes c.in-Ok-Unwell.text in
    let tells : TellsExploration (told_of plan.named plan.programs opening) false text =
    subst (IsExploration c.args.most (told_of plan.named plan.programs opening)) c.in-Ok-Unwell.field-0-is c.in-Ok-Unwell.ensures in
    let wrote : WrotePrefix old new text =
    subst (λ t. WrotePrefix old new t) c.as_str.ensures.value c.print_warning.ensures.line in
    inr (inr (exploration_written plan opening false text old new tells wrote))

pub returns-in-Ok-Large-clause-failed : goal.returns-in-Ok-Large-clause-failed
returns-in-Ok-Large-clause-failed g c = λ failed.
    let plan = c.args.plan.now in
    let opening = c.args.opening.now in
    let old = g.W.Write.contents c.args.writer.now in
    let new = g.W.Write.contents c.fail.new.writer in
    let words = string_bytes c.in-Ok-Large.words in
    let tells : TellsLarge c.args.most (told_of plan.named plan.programs opening) words =
    subst (IsExploration c.args.most (told_of plan.named plan.programs opening)) c.in-Ok-Large.field-0-is c.in-Ok-Large.ensures in
    inr (inl (words, tells, subst (λ w. WroteFault w old new) c.as_str-in-Ok-Large.ensures.value c.fail.ensures.line))
