use Rattle.std.proofs.Common.{◌≡◌, ◌∙◌, sym, refl, Option, Some, None, IsNone}
use Rattle.plan_types.specs.declared.fault.PlanFault.{PlanFault}
use Rattle.plan_types.specs.Faults.{plan_fault}
use Rattle.plan_types.proofs.lemmas.Checked.{is_plan, no_fault_of_plan}
use Rattle.plan_types.proofs.sheet.Sheet.fault.Goals as goal

none_at : (o : Option PlanFault) → IsNone o → o ≡ None
none_at None n = refl
none_at (Some f) n = cc

at_none : (o : Option PlanFault) → o ≡ None → IsNone o
at_none None n = search
at_none (Some f) n = cc

pub returns-clause-none : goal.returns-clause-none
returns-clause-none c =
    let t = c.args.self.now in
    let same : c.or-6.result ≡ plan_fault t =
    rw (c.or-6.ensures, c.or-5.ensures, c.or-4.ensures, c.or-3.ensures, c.or-2.ensures, c.or.ensures, c.count_fault.ensures, c.width_fault.ensures, c.keepers_fault.ensures, c.zones_fault.ensures, c.poses_fault.ensures, c.spaces_fault.ensures, c.half_spaces_fault.ensures) refl in
    (λ none. is_plan t (sym same ∙ none_at c.or-6.result none), λ k. at_none c.or-6.result (same ∙ no_fault_of_plan t k))
