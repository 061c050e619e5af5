use Rattle.std.proofs.Common.{◌≡◌, ◌∙◌, sym, refl, Option, Some, None, IsNone}
use Rattle.plan_types.specs.declared.fault.PlanFault.{PlanFault}
use Rattle.plan_words.specs.Plant.{row_fault}
use Rattle.plan_words.proofs.RowRules.{large_plan, no_row_fault}
use Rattle.plan_words.proofs.plant.PlantTables.row_fault.Goals as goal

none_at : (o : Option PlanFault) → IsNone o → o ≡ None
none_at None n = refl
none_at (Some f) n = cc

at_none : (o : Option PlanFault) → o ≡ None → IsNone o
at_none None n = search
at_none (Some f) n = cc

pub returns-clause-none : goal.returns-clause-none
returns-clause-none c =
    let t = c.args.self.now in
    let same : c.or-4.result ≡ row_fault t =
    rw (c.or-4.ensures, c.or-3.ensures, c.or-2.ensures, c.or.ensures, c.keepers_fault.ensures, c.zones_fault.ensures, c.poses_fault.ensures, c.spaces_fault.ensures, c.half_spaces_fault.ensures) refl in
    (λ none. large_plan t (sym same ∙ none_at c.or-4.result none), λ k. at_none c.or-4.result (same ∙ no_row_fault t k))
