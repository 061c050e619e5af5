use Rattle.std.proofs.Common.{◌≡◌, ◌≤◌, ◌∙◌, ap, length, map, sym, arith}
use Rattle.plan_app.specs.PlantStarts.{tables_of}
use Rattle.plan_app.proofs.PlantScreening.{table_count}
use Rattle.plan_app.proofs.plant_apart.plant_exploration_of.Goals as goal

pub exploration_of-requires : goal.exploration_of-requires
exploration_of-requires c =
    let plant = c.args.plant.now in
    let plans = plant.plans.items in
    let are : map (λ table. table.now) c.as_slice.result.now ≡ tables_of plans =
    ap (map (λ table. table.now)) c.as_slice.ensures.value ∙ (c.in_ok-tables.ensures ∙ ap tables_of c.deref.ensures.value) in
    let count : length c.as_slice.result.now ≡ length plans = table_count (λ table. table.now) c.as_slice.result.now plans are in
    let words : plant.programs.words ≡ length plans = c.requires.words.programs in
    let each : length plans ≡ length plant.words.words = c.requires.words.plans in
    let few : length plant.words.words ≤ 16 = c.requires.words.laid_out.few in
    record {
      tables = are ∙ sym (ap tables_of c.deref-2.ensures.value);
      words = omega (arith, count, words);
      at_most = omega (arith, count, each, few);
      openings = c.requires.openings ∙ sym count;
    }
