use Rattle.std.proofs.Common.{rules, ◌≡◌, ◌<◌, ◌∙◌, ap, inl, inr, length, map, refl, sym, arith}
use Rattle.std.proofs.lemmas.List.{length-map}
use Rattle.plan_interlock.specs.Book.{plan_of}
use Rattle.plan_interlock.specs.PlantMake.{callers, new_pass}
use Rattle.plan_interlock.specs.declared.plant_make.WordOpening.{WordOpening}
use Rattle.plan_document.specs.declared.resolving.ProgrammedPlan.{ProgrammedPlan}
use Rattle.plan_app.specs.PlantStarts.{tables_of}
use Rattle.plan_app.proofs.PlantRunning.{none_made, same_count, words_opened}
use Rattle.plan_app.proofs.plant_run.run_plant_machines.Goals as goal

pub run_by_passes-requires-clause-opened : goal.run_by_passes-requires-clause-opened
run_by_passes-requires-clause-opened g c κs within =
    let plans = c.args.plant.now.plans.items in
    let openings = c.in_ok-openings.openings.items in
    let own : map (λ (o : WordOpening). plan_of o.rules) openings ≡ tables_of plans =
    c.in_ok-openings.ensures.rules ∙ ap tables_of c.deref.ensures.value in
    words_opened plans c.args.starts.now openings _ c.in-Ok.interlock own c.in_ok-openings.ensures.states
    c.in-Ok.ensures.opened

pub run_by_passes-requires-clause-passes : goal.run_by_passes-requires-clause-passes
run_by_passes-requires-clause-passes g c κs within =
    let plans = c.args.plant.now.plans.items in
    let openings = c.in_ok-openings.openings.items in
    let own : map (λ (o : WordOpening). plan_of o.rules) openings ≡ tables_of plans =
    c.in_ok-openings.ensures.rules ∙ ap tables_of c.deref.ensures.value in
    c.in-Ok.ensures.passes ∙ ap (λ n. map (new_pass c.in-Ok.interlock) (callers n)) (same_count plans openings own)

pub returns-in-Err : goal.returns-in-Err
returns-in-Err g c =
    let plans = c.args.plant.now.plans.items in
    let openings = c.in_ok-openings.openings.items in
    let own : map (λ (o : WordOpening). plan_of o.rules) openings ≡ tables_of plans =
    c.in_ok-openings.ensures.rules ∙ ap tables_of c.deref.ensures.value in
    let many : length openings ≡ length plans =
    sym (length-map openings (λ (o : WordOpening). plan_of o.rules))
    ∙ (ap length own ∙ length-map plans (λ (p : ProgrammedPlan). p.named.plan)) in
    let some : 0 < length plans = search rules in
    let few = c.requires.words.laid_out.few in
    let all = c.requires.words.plans in
    let found = (c.in-Err.ensures.fault c.in-Err.field-0 (search rules)).0 refl in
    let others =
    none_made plans openings c.in-Err.field-0 own (omega (arith, many, some)) (omega (arith, many, all, few)) found in
    record { run = tt; fault = inr (inl others) }
