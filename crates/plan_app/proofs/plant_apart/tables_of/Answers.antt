use Rattle.std.proofs.Common.{◌∙◌, ◌<◌, ◌++◌, ◌∷◌, [], ap, length, map, sym}
use Rattle.std.proofs.lemmas.List.{map-append}
use Rattle.plan_document.specs.declared.resolving.ProgrammedPlan.{ProgrammedPlan}
use Rattle.plan_app.proofs.PlantScreening.{table_more}
use Rattle.plan_app.proofs.plant_apart.tables_of.Goals as goal

pub loop-word-preserved : goal.loop-word-preserved
loop-word-preserved c =
    let plans = c.args.plans.now in
    let plan = c.index-plans-word.result in
    let few : c.loop-word.word < length plans = c.loop-word-test.true in
    table_more plans c.loop-word.word plan _ _ few c.index-plans-word.is c.loop-word.invariant
    (ap (map (λ table. table.now)) c.in_ok-push.ensures.items ∙ map-append (λ table. table.now) c.loop-word.tables.items (c.plan.result ∷ [])
    ∙ ap (λ t. map (λ table. table.now) c.loop-word.tables.items ++ t ∷ []) (c.plan.ensures ∙ ap (λ (p : ProgrammedPlan). p.named.plan) (sym c.index-plans-word.is)))
