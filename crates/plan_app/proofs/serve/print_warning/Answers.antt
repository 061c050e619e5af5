use Rattle.std.proofs.Common.{subst}
use Rattle.text_io.specs.Output.{WrotePrefix}
use Rattle.plan_app.proofs.Failures.{printed_prefix}
use Rattle.plan_app.proofs.serve.print_warning.Goals as goal

pub returns-clause-line : goal.returns-clause-line
returns-clause-line g c =
    let old = g.W.Write.contents c.args.writer.now in
    let new = g.W.Write.contents c.print.new.writer in
    subst (λ text. WrotePrefix old new text) c.as_bytes.ensures.value
    (printed_prefix c.print.result old new c.as_bytes.result.now c.print.ensures.status c.print.ensures.printed)
