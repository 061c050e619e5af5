use Rattle.std.proofs.Common.{map, subst}
use Rattle.plan_explorer.specs.Explored.{IfStandstill}
use Rattle.plan_explorer.specs.PlantExplored.{AreShortest, LeadToStandstill}
use Rattle.plan_app.specs.PlantGoing.{machines_of}
use Rattle.plan_app.proofs.PlantScreening.{none_is_sought, standstill_is_found, unfinished_is_found}
use Rattle.plan_app.proofs.plant_explore.screen_past_limit.Goals as goal

pub returns-in-Free : goal.returns-in-Free
returns-in-Free c =
    let e = c.in_ok-seek_plant_standstill.ensures in
    let plant = c.args.plant.now in
    let ts = map (λ table. table.now) plant.tables.now in
    none_is_sought c.args.most plant.plans.now plant.programs.now.programs plant.openings.now ts _ _
    c.requires.opened.tables c.requires.more c.in-Free.is e.free

pub returns-in-Standstill : goal.returns-in-Standstill
returns-in-Standstill c =
    let e = c.in_ok-seek_plant_standstill.ensures in
    let plant = c.args.plant.now in
    let ps = plant.programs.now.programs in
    let openings = plant.openings.now in
    let ts = map (λ table. table.now) plant.tables.now in
    let lead = subst (λ f. IfStandstill f (LeadToStandstill ts ps openings)) c.in-Standstill.is e.standstill in
    let shortest = subst (λ f. IfStandstill f (AreShortest ts ps openings)) c.in-Standstill.is e.shortest in
    standstill_is_found c.args.most (machines_of plant.group) plant.plans.now ps openings ts c.in-Standstill.turns.items c.as_slice.result.now
    c.standstill_screen.result c.requires.opened.tables c.as_slice.ensures.value lead shortest c.standstill_screen.ensures

pub returns-in-Unfinished : goal.returns-in-Unfinished
returns-in-Unfinished c =
    let e = c.in_ok-seek_plant_standstill.ensures in
    let plant = c.args.plant.now in
    let ts = map (λ table. table.now) plant.tables.now in
    unfinished_is_found c.args.most plant.plans.now plant.programs.now.programs plant.openings.now ts _
    c.in-Unfinished.turns c.requires.opened.tables c.in-Unfinished.is e.more e.unfinished
