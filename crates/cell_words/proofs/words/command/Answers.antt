use Rattle.std.proofs.Common.{ap, ap₂, ◌∙◌, subst}
use Rattle.std.proofs.lemmas.Result.{IfOk-weaker}
use Rattle.clap.specs.Words.{AddsInTurn, AddsSubcommand, with_subcommand}
use Rattle.cell_words.proofs.CommandLemmas.{three_added}
use Rattle.cell_words.proofs.words.command.Goals as goal

pub returns : goal.returns
returns c =
    let cell = c.command_with_help.result in let is = c.command_with_help.ensures in
    let replay = c.command_with_help-replay.ensures in let sim = c.command_with_help-sim.ensures in let run = c.in_ok-run.ensures in
    IfOk-weaker c.subcommands.result _ _
    (λ x added. three_added cell _ _ _ x (subst (λ words. AddsInTurn AddsSubcommand cell words x) c.in_ok-words.ensures.items added) replay.local sim.local run.local
    ∙ ap₂ with_subcommand (ap₂ with_subcommand (ap₂ with_subcommand is.app (ap (λ a. a.top) replay.app)) (ap (λ a. a.top) sim.app)) (ap (λ a. a.top) run.app))
    c.subcommands.ensures
