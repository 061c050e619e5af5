use Rattle.std.proofs.Common.{map, subst}
use Rattle.plan_explorer.specs.Explored.{IfStandstill, IfUnfinished}
use Rattle.plan_explorer.specs.PlantExplored.{AreShortest, ComeToMore, LeadToStandstill}
use Rattle.plan_app.specs.PlantGoing.{machines_of}
use Rattle.plan_app.proofs.PlantScreening.{free_is_found, standstill_is_found}
use Rattle.plan_app.proofs.plant_explore.screen_of.Goals as goal

pub returns-in-Free : goal.returns-in-Free
returns-in-Free c =
    let e = c.in_ok-situations.ensures in
    let plant = c.args.plant.now in
    let ts = map (λ table. table.now) plant.tables.now in
    free_is_found c.args.most (machines_of plant.group) plant.plans.now plant.programs.now.programs plant.openings.now ts _ c.in-Free.situations
    c.free_screen.result c.requires.tables c.in-Free.is e.free e.situations c.free_screen.ensures

pub returns-in-Standstill : goal.returns-in-Standstill
returns-in-Standstill c =
    let e = c.in_ok-situations.ensures in
    let plant = c.args.plant.now in
    let ps = plant.programs.now.programs in
    let openings = plant.openings.now in
    let ts = map (λ table. table.now) plant.tables.now in
    let lead = subst (λ f. IfStandstill f (LeadToStandstill ts ps openings)) c.in-Standstill.is e.standstill in
    let shortest = subst (λ f. IfStandstill f (AreShortest ts ps openings)) c.in-Standstill.is e.shortest in
    standstill_is_found c.args.most (machines_of plant.group) plant.plans.now ps openings ts c.in-Standstill.turns.items c.as_slice.result.now
    c.standstill_screen.result c.requires.tables c.as_slice.ensures.value lead shortest c.standstill_screen.ensures

pub screen_past_limit-requires-clause-more : goal.screen_past_limit-requires-clause-more
screen_past_limit-requires-clause-more c =
    let e = c.in_ok-situations.ensures in
    let plant = c.args.plant.now in
    let ps = plant.programs.now.programs in
    let openings = plant.openings.now in
    let ts = map (λ table. table.now) plant.tables.now in
    subst (λ t. ComeToMore t ps openings c.args.most) c.requires.tables
    (subst (λ f. IfUnfinished f (λ _. ComeToMore ts ps openings c.args.most)) c.in-Unfinished.is e.more)
