-- explore_plant_from
use Rattle.std.proofs.Common.{true, false, string_bytes, inl, inr, subst}
use Rattle.text_io.specs.Output.{WrotePrefix}
use Rattle.plan_app.specs.Failed.{WroteFault}
use Rattle.plan_app.specs.Apart.{TellsExploration, TellsLarge}
use Rattle.plan_app.specs.PlantScreens.{IsPlantExploration, told_of}
use Rattle.plan_app.proofs.Failures.{printed_prefix}
use Rattle.plan_app.proofs.serve_plant.explore_plant_from.Goals as goal

pub returns-in-Ok-Well-clause-failed : goal.returns-in-Ok-Well-clause-failed
returns-in-Ok-Well-clause-failed g c = λ failed.
    let plant = c.args.plant.now in
    let openings = c.args.openings.now in
    let old = g.W.Write.contents c.args.writer.now in
    let new = g.W.Write.contents c.print.new.writer in
    let text = string_bytes c.in-Ok-Well.text in
    let tells : TellsExploration (told_of plant.plans.items plant.programs.programs openings) true text =
    subst (IsPlantExploration c.args.most plant.plans.items plant.programs.programs openings) c.in-Ok-Well.field-0-is c.in-Ok-Well.ensures in
    let wrote : WrotePrefix old new text =
    subst (λ t. WrotePrefix old new t) c.as_bytes.ensures.value
    (printed_prefix c.print.result old new c.as_bytes.result.now c.print.ensures.status c.print.ensures.printed) in
    inr (inr (true, text, tells, wrote))

pub returns-in-Ok-Unwell-clause-failed : goal.returns-in-Ok-Unwell-clause-failed
returns-in-Ok-Unwell-clause-failed g c = λ failed.
    let plant = c.args.plant.now in
    let openings = c.args.openings.now in
    let old = g.W.Write.contents c.args.writer.now in
    let new = g.W.Write.contents c.print_warning.new.writer in
    let text = string_bytes c.in-Ok-Unwell.text in
    let tells : TellsExploration (told_of plant.plans.items plant.programs.programs openings) false text =
    subst (IsPlantExploration c.args.most plant.plans.items plant.programs.programs openings) c.in-Ok-Unwell.field-0-is c.in-Ok-Unwell.ensures in
    let wrote : WrotePrefix old new text =
    subst (λ t. WrotePrefix old new t) c.as_str.ensures.value c.print_warning.ensures.line in
    inr (inr (false, text, tells, wrote))

pub returns-in-Ok-Large-clause-failed : goal.returns-in-Ok-Large-clause-failed
returns-in-Ok-Large-clause-failed g c = λ failed.
    let plant = c.args.plant.now in
    let openings = c.args.openings.now in
    let old = g.W.Write.contents c.args.writer.now in
    let new = g.W.Write.contents c.fail.new.writer in
    let words = string_bytes c.in-Ok-Large.words in
    let tells : TellsLarge c.args.most (told_of plant.plans.items plant.programs.programs openings) words =
    subst (IsPlantExploration c.args.most plant.plans.items plant.programs.programs openings) c.in-Ok-Large.field-0-is c.in-Ok-Large.ensures in
    inr (inl (words, tells, subst (λ w. WroteFault w old new) c.as_str-in-Ok-Large.ensures.value c.fail.ensures.line))
