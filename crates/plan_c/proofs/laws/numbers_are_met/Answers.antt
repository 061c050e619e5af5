use Rattle.std.proofs.Common.{refl}
use Rattle.plan_c.proofs.laws.numbers_are_met.Goals as goal

pub returns : goal.returns
returns c = record { postures = refl; verbs = refl; objects = refl; refusals = refl; others = refl }
