use Rattle.std.proofs.Common.{◌||◌, ap₂, ◌∙◌}
use Rattle.std.proofs.lemmas.Result.{IfOk-weaker}
use Rattle.clap.specs.Words.{with_rule}
use Rattle.cell_words.proofs.words.run_command.Goals as goal

pub returns-clause-app : goal.returns-clause-app
returns-clause-app c =
    let with_turns = c.in_ok-run.ensures.shape c.number_flag-turns.ensures.local ∙ ap₂ with_rule c.command_with_help-run.ensures.app c.number_flag-turns.ensures.rule in
    IfOk-weaker c.arg-2.result _ _ (λ x added. added.shape c.number_flag.ensures.local ∙ ap₂ with_rule with_turns c.number_flag.ensures.rule) c.arg-2.ensures

pub returns-clause-local : goal.returns-clause-local
returns-clause-local c =
    let with_turns = c.in_ok-run.ensures.globals ∙ ap₂ ◌||◌ c.command_with_help-run.ensures.local c.number_flag-turns.ensures.local in
    IfOk-weaker c.arg-2.result _ _ (λ x added. added.globals ∙ ap₂ ◌||◌ with_turns c.number_flag.ensures.local) c.arg-2.ensures
