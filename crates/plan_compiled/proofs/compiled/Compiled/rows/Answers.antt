use Rattle.std.proofs.Common.{subst, ap}
use Rattle.std.specs.List.{All}
use Rattle.plan_types.specs.Table.{PlanTable}
use Rattle.plan_compiled.specs.Compiled.{CompiledPlan}
use Rattle.plan_compiled.specs.Rows.{IsRight}
use Rattle.plan_compiled.proofs.compiled.Compiled.rows.Goals as goal

pub returns-clause-right : goal.returns-clause-right
returns-clause-right c =
    subst (λ (t : PlanTable). All (IsRight t) c.self.inside.rows) (ap (λ (k : CompiledPlan). k.table) c.self.view_is) c.self.invariant.rows_are_right
