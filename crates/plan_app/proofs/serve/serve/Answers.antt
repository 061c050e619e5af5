use Rattle.std.proofs.Common.{◌≡◌, ◌∙◌, subst, sym}
use Rattle.std.proofs.lemmas.Option.{same_Some}
use Rattle.program_shell.proofs.lemmas.Exits.{is_failed, is_well}
use Rattle.plan_app.specs.Failed.{FailsExploreWords, FailsRunWords}
use Rattle.plan_app.specs.Served.{RunsWords}
use Rattle.plan_app.specs.declared.request.Wanted.TheVariants.{ExploreWords, RunWords}
use Rattle.plan_app.proofs.serve.serve.Goals as goal

pub returns-in-Some-ExploreWords-clause-explore_words_fails : goal.returns-in-Some-ExploreWords-clause-explore_words_fails
returns-in-Some-ExploreWords-clause-explore_words_fails g c = λ most asks status.
    let input = g.R.Read.remaining c.args.reader.now in
    let old = g.W.Write.contents c.args.writer.now in
    let new = g.W.Write.contents c.together_input.new.writer in
    let found = c.in-Some-ExploreWords in
    let ended = c.status-in-Some-ExploreWords in
    let asked : ExploreWords found.most ≡ ExploreWords most =
    sym found.field-0-is ∙ same_Some found.field-0 (ExploreWords most) (sym found.is ∙ (c.wanted_of.ensures ∙ asks)) in
    let same : found.most ≡ most = cc in
    subst (λ k. FailsExploreWords k input old new) same
    (c.together_input.ensures.failed (is_failed c.together_input.result ended.result ended.ensures status))

pub returns-in-Some-RunWords-clause-run_words : goal.returns-in-Some-RunWords-clause-run_words
returns-in-Some-RunWords-clause-run_words g c = λ turns asks status.
    let input = g.R.Read.remaining c.args.reader.now in
    let old = g.W.Write.contents c.args.writer.now in
    let new = g.W.Write.contents c.together_input-in-Some-RunWords.new.writer in
    let found = c.in-Some-RunWords in
    let ended = c.status-in-Some-RunWords in
    let ran = c.together_input-in-Some-RunWords in
    let asked : RunWords found.turns ≡ RunWords turns =
    sym found.field-0-is ∙ same_Some found.field-0 (RunWords turns) (sym found.is ∙ (c.wanted_of.ensures ∙ asks)) in
    let same : found.turns ≡ turns = cc in
    subst (λ n. RunsWords n input old new) same (ran.ensures.well (is_well ran.result ended.result ended.ensures status))

pub returns-in-Some-RunWords-clause-run_words_fails : goal.returns-in-Some-RunWords-clause-run_words_fails
returns-in-Some-RunWords-clause-run_words_fails g c = λ turns asks status.
    let input = g.R.Read.remaining c.args.reader.now in
    let old = g.W.Write.contents c.args.writer.now in
    let new = g.W.Write.contents c.together_input-in-Some-RunWords.new.writer in
    let found = c.in-Some-RunWords in
    let ended = c.status-in-Some-RunWords in
    let ran = c.together_input-in-Some-RunWords in
    let asked : RunWords found.turns ≡ RunWords turns =
    sym found.field-0-is ∙ same_Some found.field-0 (RunWords turns) (sym found.is ∙ (c.wanted_of.ensures ∙ asks)) in
    let same : found.turns ≡ turns = cc in
    subst (λ n. FailsRunWords n input old new) same (ran.ensures.failed (is_failed ran.result ended.result ended.ensures status))
