use Rattle.std.proofs.Common.{[], ◌∷◌, ◌++◌, refl, ap}
use Rattle.std.specs.List.{range_with_len}
use Rattle.plan_types.specs.Table.{watch}
use Rattle.plan_interlock.proofs.Callers.{all-machines}
use Rattle.plan_interlock.proofs.laws.passes_in_order.Goals as goal

pub returns-clause-any : goal.returns-clause-any
returns-clause-any c = λ t few. ap (λ n. range_with_len 0 n ++ watch ∷ []) (all-machines t.machines few)

pub returns-clause-literal : goal.returns-clause-literal
returns-clause-literal c = record { press = refl; lift = refl; ten = refl; nobody = refl }
