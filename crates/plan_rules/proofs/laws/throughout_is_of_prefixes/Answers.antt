use Rattle.std.proofs.Common.{refl}
use Rattle.plan_rules.proofs.laws.throughout_is_of_prefixes.Goals as goal

pub returns : goal.returns
returns c = λ test before more found. found before more refl
