use Rattle.std.proofs.Common.{◌∙◌, subst}
use Rattle.text_io.specs.Output.{WrotePrefix}
use Rattle.plan_app.proofs.Failures.{printed_prefix}
use Rattle.plan_app.proofs.serve.print_answers.Goals as goal

pub returns-in-Refused-clause-failed : goal.returns-in-Refused-clause-failed
returns-in-Refused-clause-failed g c = λ failed.
    let old = g.W.Write.contents c.args.writer.now in
    let new = g.W.Write.contents c.print-printed.new.writer in
    subst (λ text. WrotePrefix old new text) (c.as_bytes.ensures.value ∙ c.text.ensures)
    (printed_prefix c.print-printed.result old new c.as_bytes.result.now c.print-printed.ensures.status c.print-printed.ensures.printed)
