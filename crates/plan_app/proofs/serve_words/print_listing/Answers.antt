use Rattle.std.proofs.Common.{true, false, string_bytes, inr, subst}
use Rattle.text_io.specs.Output.{WrotePrefix}
use Rattle.plan_app.specs.OnWords.{IsListing, TellsWords}
use Rattle.plan_app.proofs.Failures.{printed_prefix}
use Rattle.plan_app.proofs.serve_words.print_listing.Goals as goal

pub returns-in-Ok-Kept-clause-failed : goal.returns-in-Ok-Kept-clause-failed
returns-in-Ok-Kept-clause-failed g c = λ failed.
    let old = g.W.Write.contents c.args.writer.now in
    let new = g.W.Write.contents c.print.new.writer in
    let text = string_bytes c.in-Ok-Kept.text in
    let tells : TellsWords c.args.plans.now true text =
    subst (IsListing c.args.plans.now) c.in-Ok-Kept.field-0-is c.in-Ok-Kept.ensures in
    let wrote : WrotePrefix old new text =
    subst (λ t. WrotePrefix old new t) c.as_bytes.ensures.value
    (printed_prefix c.print.result old new c.as_bytes.result.now c.print.ensures.status c.print.ensures.printed) in
    inr (true, text, tells, wrote)

pub returns-in-Ok-Unkept-clause-failed : goal.returns-in-Ok-Unkept-clause-failed
returns-in-Ok-Unkept-clause-failed g c = λ failed.
    let old = g.W.Write.contents c.args.writer.now in
    let new = g.W.Write.contents c.print_warning.new.writer in
    let text = string_bytes c.in-Ok-Unkept.text in
    let tells : TellsWords c.args.plans.now false text =
    subst (IsListing c.args.plans.now) c.in-Ok-Unkept.field-0-is c.in-Ok-Unkept.ensures in
    let wrote : WrotePrefix old new text =
    subst (λ t. WrotePrefix old new t) c.as_str.ensures.value c.print_warning.ensures.line in
    inr (false, text, tells, wrote)
