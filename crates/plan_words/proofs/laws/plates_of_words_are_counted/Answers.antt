use Rattle.plan_words.proofs.CutPlates.{plates_are_counted}
use Rattle.plan_words.proofs.laws.plates_of_words_are_counted.Goals as goal

pub returns : goal.returns
returns g = λ c count words is large out. plates_are_counted c count words (record { is = is; large = large; laid_out = out })
