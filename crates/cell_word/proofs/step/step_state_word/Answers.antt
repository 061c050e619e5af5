use Rattle.cell_word.proofs.Names.{sym, ap₂, ◌∙◌}
use Rattle.cell_word.proofs.After.{done_if_changed}
use Rattle.cell_word.proofs.step.step_state_word.Goals as goal

pub returns-then-new-word : goal.returns-then-new-word
returns-then-new-word c s sound e = ap₂ (λ a n. (a, n)) (c.answer_at.ensures s sound e) (sym c.if-new-word.true ∙ c.word_after-new.ensures s sound e)

pub returns-else-new-word : goal.returns-else-new-word
returns-else-new-word c s sound e =
    let is = c.word_after-new.ensures s sound e in ap₂ (λ a n. (a, n)) (done_if_changed s c.args.machine c.args.call c.args.word e c.if-new-word.false is) is
