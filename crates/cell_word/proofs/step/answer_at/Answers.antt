use Rattle.cell_word.proofs.Names.{sym, ◌∙◌, Some, None, first_refusal, guards_of, written}
use Rattle.cell_word.proofs.Trying.{was_refused, was_passed}
use Rattle.cell_word.proofs.After.{reply_found}
use Rattle.cell_word.proofs.step.answer_at.Goals as goal

pub returns-in-Err : goal.returns-in-Err
returns-in-Err c =
    λ s sound e.
    let m = c.args.machine in
    let call = c.args.call in
    let found = was_refused (first_refusal c.args.word (guards_of m call)) (written m call) c.in-Err.refusal (sym c.check.ensures ∙ c.in-Err.is) in
    sym (reply_found s sound m call c.in_default.not-Inquire c.args.word e (Some c.in-Err.refusal) found)

pub returns-in-Ok : goal.returns-in-Ok
returns-in-Ok c =
    λ s sound e.
    let m = c.args.machine in
    let call = c.args.call in
    let passed = was_passed (first_refusal c.args.word (guards_of m call)) (written m call) c.in-Ok.field-0 (sym c.check.ensures ∙ c.in-Ok.is) in
    sym (reply_found s sound m call c.in_default.not-Inquire c.args.word e None passed.0)
