use Rattle.std.proofs.Common.{ap, ◌∙◌}
use Rattle.std.proofs.lemmas.Option.{IfSome_then}
use Rattle.std.proofs.lemmas.Result.{IfOk-weaker}
use Rattle.cell_config.specs.Settings.{settings_of}
use Rattle.explain_app.proofs.Prefixes.{settings_of-prefix}
use Rattle.explain_app.specs.Explained.{IsTextOfSettings, IsTextOfConfig}
use Rattle.explain_app.proofs.Unsaid.{unsaid_after}
use Rattle.explain_app.proofs.explain.explain_configuration.Goals as goal

pub returns-clause-says : goal.returns-clause-says
returns-clause-says g c =
    IfOk-weaker c.explain_configuration_bytes.result _ _
    (λ verdict said. IfSome_then (g.R.Read.remaining c.args.reader.now) c.in_ok-bytes.ensures.bytes
    (λ read is. rw (ap settings_of (c.as_slice.ensures.value ∙ is) ∙ settings_of-prefix read) at said))
    c.explain_configuration_bytes.ensures.says

pub returns-clause-failed : goal.returns-clause-failed
returns-clause-failed g c =
    unsaid_after (IsTextOfSettings (settings_of c.as_slice.result.now)) (IsTextOfConfig (g.R.Read.remaining c.args.reader.now))
    (λ text k. IfSome_then (g.R.Read.remaining c.args.reader.now) c.in_ok-bytes.ensures.bytes
    (λ read is. rw (ap settings_of (c.as_slice.ensures.value ∙ is) ∙ settings_of-prefix read) at k))
    c.explain_configuration_bytes.result _ _ c.explain_configuration_bytes.ensures.failed
