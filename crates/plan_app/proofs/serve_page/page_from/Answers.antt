use Rattle.std.proofs.Common.{string_bytes, inl, inr, subst}
use Rattle.plan_app.specs.Failed.{WroteFault}
use Rattle.plan_app.specs.Pages.{IsPage}
use Rattle.plan_app.specs.Screens.{TellsUnfinished}
use Rattle.plan_app.proofs.serve_page.page_from.Goals as goal

pub returns-in-Ok-Large-clause-failed : goal.returns-in-Ok-Large-clause-failed
returns-in-Ok-Large-clause-failed g c = λ failed.
    let plan = c.args.plan.now in
    let opening = c.args.opening.now in
    let old = g.W.Write.contents c.args.writer.now in
    let new = g.W.Write.contents c.fail-in-Ok-Large.new.writer in
    let words = string_bytes c.in-Ok-Large.words in
    let tells : TellsUnfinished c.args.most plan.named plan.programs opening words =
    subst (IsPage c.args.most plan opening) c.in-Ok-Large.field-0-is c.in-Ok-Large.ensures in
    inr (inl (words, tells, subst (λ w. WroteFault w old new) c.as_str-in-Ok-Large.ensures.value c.fail-in-Ok-Large.ensures.line))
