use Rattle.cell_word.proofs.Names.{ℕ, sym, ap, ◌∙◌, state_told}
use Rattle.cell_rules.specs.ModelState.{ModelState}
use Rattle.cell_word.proofs.lemmas.RoundTrip.{told_back}
use Rattle.cell_word.proofs.word.stamp_of.Goals as goal

pub returns-clause-stamp : goal.returns-clause-stamp
returns-clause-stamp c s k e = c.bits.ensures.value ∙ ap (λ (w : ℕ). (state_told w).stamp) (sym e) ∙ ap (λ (t : ModelState). t.stamp) (told_back s k)
