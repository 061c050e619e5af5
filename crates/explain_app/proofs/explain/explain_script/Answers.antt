use Rattle.std.proofs.Common.{ap, ◌∙◌}
use Rattle.std.proofs.lemmas.Option.{IfSome_then}
use Rattle.std.proofs.lemmas.Result.{IfOk-weaker}
use Rattle.cell_replay.specs.Script.{script_outcome}
use Rattle.explain_app.proofs.Prefixes.{script_outcome-prefix}
use Rattle.explain_app.specs.Explained.{IsTextOfOutcome, IsTextOfScript}
use Rattle.explain_app.proofs.Unsaid.{unsaid_after}
use Rattle.explain_app.proofs.explain.explain_script.Goals as goal

pub returns-clause-says : goal.returns-clause-says
returns-clause-says g c =
    IfOk-weaker c.explain_script_bytes.result _ _
    (λ verdict said. IfSome_then (g.R.Read.remaining c.args.reader.now) c.in_ok-bytes.ensures.bytes
    (λ read is. rw (ap script_outcome (c.as_slice.ensures.value ∙ is) ∙ script_outcome-prefix read) at said))
    c.explain_script_bytes.ensures.says

pub returns-clause-failed : goal.returns-clause-failed
returns-clause-failed g c =
    unsaid_after (IsTextOfOutcome (script_outcome c.as_slice.result.now)) (IsTextOfScript (g.R.Read.remaining c.args.reader.now))
    (λ text k. IfSome_then (g.R.Read.remaining c.args.reader.now) c.in_ok-bytes.ensures.bytes
    (λ read is. rw (ap script_outcome (c.as_slice.ensures.value ∙ is) ∙ script_outcome-prefix read) at k))
    c.explain_script_bytes.result _ _ c.explain_script_bytes.ensures.failed
