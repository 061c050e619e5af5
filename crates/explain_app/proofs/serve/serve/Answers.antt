use Rattle.std.proofs.Common.{sym, ◌∙◌}
use Rattle.program_shell.specs.Words.{texts_of}
use Rattle.cell_words.proofs.lemmas.Asked.{version_untaken}
use Rattle.explain_app.proofs.serve.serve.Goals as goal

pub returns-then-asks_for_version-clause-script : goal.returns-then-asks_for_version-clause-script
returns-then-asks_for_version-clause-script g c = λ k.
    version_untaken (texts_of c.args.words.now) (sym c.asks_for_version.ensures ∙ c.if-asks_for_version.true) k.0

pub returns-then-asks_for_version-clause-configuration : goal.returns-then-asks_for_version-clause-configuration
returns-then-asks_for_version-clause-configuration g c = λ k.
    version_untaken (texts_of c.args.words.now) (sym c.asks_for_version.ensures ∙ c.if-asks_for_version.true) k.0
