use Rattle.plan_words.proofs.CutRuns.{words_are_plan}
use Rattle.plan_words.proofs.laws.words_with_cut_places_are_one_plan.Goals as goal

pub returns : goal.returns
returns g = λ c count words is large out. words_are_plan c count words (record { is = is; large = large; laid_out = out })
