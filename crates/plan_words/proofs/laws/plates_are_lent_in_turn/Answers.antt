use Rattle.plan_words.proofs.CutRuns.{plates_are_lent}
use Rattle.plan_words.proofs.laws.plates_are_lent_in_turn.Goals as goal

pub returns : goal.returns
returns g = λ c count words is large out. plates_are_lent c count words (record { is = is; large = large; laid_out = out })
