use Rattle.std.proofs.Common.{◌++◌, codes}
use Rattle.program_shell.proofs.lemmas.Prefixes.{on_err, on_err_more, prefix_of_first, prefix_of_rest}
use Rattle.program_shell.proofs.faults.write_fault.Goals as goal

pub returns-in_err-write_bytes-clause-err : goal.returns-in_err-write_bytes-clause-err
returns-in_err-write_bytes-clause-err g c =
    on_err c.from_residual.result _
    (prefix_of_first _ _ (codes "fault ") (c.args.fault.now ++ codes "\n") c.in_err-write_bytes.ensures.err)

pub returns-in_err-write_bytes-2-clause-err : goal.returns-in_err-write_bytes-2-clause-err
returns-in_err-write_bytes-2-clause-err g c =
    on_err c.from_residual-in_err-write_bytes-2.result _
    (prefix_of_rest _ _ _ (codes "fault ") (c.args.fault.now ++ codes "\n") c.in_ok-write_bytes.ensures.ok
    (prefix_of_first _ _ c.args.fault.now (codes "\n") (rw c.as_bytes.ensures.value at c.in_err-write_bytes-2.ensures.err)))

pub returns-clause-err : goal.returns-clause-err
returns-clause-err g c =
    on_err_more c.write_text.result _ _ c.write_text.ensures.err (λ wrote.
    prefix_of_rest _ _ _ (codes "fault ") (c.args.fault.now ++ codes "\n") c.in_ok-write_bytes.ensures.ok
    (prefix_of_rest _ _ _ c.args.fault.now (codes "\n") (rw c.as_bytes.ensures.value at c.in_ok-write_bytes-2.ensures.ok) wrote))
