use Rattle.std.proofs.Common.{◌≡◌, ◌≤◌, Some, length, slice_get, refl, subst, sym}
use Rattle.plan_app.specs.Asked.{IsNoPlan, IsPlanOnWord}
use Rattle.plan_app.specs.declared.asking.NoPlan.TheVariants.{OfWord}
use Rattle.plan_app.proofs.Inputs.{err_more, ok_more}
use Rattle.plan_app.proofs.asking.plan_on_word.Goals as goal

pub returns-in-Ok-clause-plan : goal.returns-in-Ok-clause-plan
returns-in-Ok-clause-plan c =
    ok_more c.word_plan.result (λ plan. slice_get c.in-Ok.plant.plans.items c.args.number ≡ Some plan)
    (IsPlanOnWord c.args.number c.args.document.now) c.word_plan.ensures.plan
    (λ plan there. record { plant = c.in-Ok.plant; says = c.in-Ok.ensures.plant; there = there })

pub returns-in-Ok-clause-fault : goal.returns-in-Ok-clause-fault
returns-in-Ok-clause-fault c =
    let count = length c.in-Ok.plant.plans.items in
    err_more c.word_plan.result (λ fault. (count ≤ c.args.number) × (fault ≡ OfWord c.args.number count))
    (IsNoPlan (Some c.args.number) c.args.document.now) c.word_plan.ensures.fault
    (λ fault (past, is). subst (IsNoPlan (Some c.args.number) c.args.document.now) (sym is)
    (refl, record { plant = c.in-Ok.plant; says = c.in-Ok.ensures.plant; words = refl; past = past }))
