use Rattle.plan_words.proofs.CutKeepers.{turns_are_the_keepers}
use Rattle.plan_words.proofs.laws.turns_are_the_keepers.Goals as goal

pub returns : goal.returns
returns g = λ c count words is large out. turns_are_the_keepers c count words (record { is = is; large = large; laid_out = out })
