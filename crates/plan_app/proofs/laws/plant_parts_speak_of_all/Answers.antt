use Rattle.std.proofs.Common.{◌≡◌, ◌∙◌, List, [], ap, length, subst, sym}
use Rattle.std.specs.List.{All}
use Rattle.plan_types.specs.Plan.{IsPlan}
use Rattle.plan_explorer.specs.PlantCommuting.{AreSound}
use Rattle.std.proofs.lemmas.List.{length-map}
use Rattle.plan_types.specs.Table.{plan_table}
use Rattle.plan_explorer.specs.PlantPrograms.{AreOnWords}
use Rattle.plan_liveness.specs.PlantGroupLaws.{IsPlant}
use Rattle.plan_document.specs.declared.resolving.ProgrammedPlan.{ProgrammedPlan}
use Rattle.plan_app.specs.PlantStarts.{tables_of}
use Rattle.plan_app.proofs.PlantPartsSpeak.{plant_parts_speak}
use Rattle.plan_app.proofs.PlantStarting.{openings_are_starts, plant_count}
use Rattle.plan_app.proofs.laws.plant_parts_speak_of_all.Goals as goal

pub are_sound-requires-clause-openings : goal.are_sound-requires-clause-openings
are_sound-requires-clause-openings c =
    plant_count c.args.plant.now c.requires.script.0 c.args.openings.now c.requires.script.1
    ∙ ap length (sym c.deref.ensures.value)

pub are_sound-requires-clause-starts : goal.are_sound-requires-clause-starts
are_sound-requires-clause-starts c =
    openings_are_starts c.args.plant.now c.requires.script.0 c.args.openings.now c.requires.script.1

pub returns : goal.returns
returns c =
    let plant = c.args.plant.now in
    let plans = plant.plans.items in
    let ps = plant.programs.programs in
    let ss = c.args.openings.now in
    let count = length-map plans (λ (plan : ProgrammedPlan). plan.named.plan) in
    let opened : length ss ≡ length plans = plant_count plant c.requires.script.0 ss c.requires.script.1 in
    let is : IsPlant (tables_of plans) ps ss = record {
      plans = subst (λ (read : List ProgrammedPlan). All IsPlan (tables_of read)) c.deref.ensures.value c.are_sound.ensures.plans;
      programs = subst (λ k. AreOnWords k ps) (c.requires.words.programs ∙ sym count) c.words.ensures.programs;
      openings = opened ∙ sym count;
      sound = subst (λ (read : List ProgrammedPlan). AreSound (tables_of read) ss) c.deref.ensures.value c.are_sound.ensures.sound;
    } in
    plant_parts_speak plans ps ss (λ ours. (c.one_word_has_plans_groups.ensures (plan_table 0 [] [] [])).calls ours ps)
    (c.plant_groups_are_apart.ensures.apart (tables_of plans) ps ss) (c.plant_groups_go_on.ensures (tables_of plans) ps ss)
    (c.plant_groups_starve.ensures (tables_of plans) ps ss) is
