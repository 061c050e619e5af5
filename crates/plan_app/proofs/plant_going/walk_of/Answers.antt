use Rattle.std.proofs.Common.{◌≡◌, IfOk, subst}
use Rattle.plan_explorer.specs.PlantWalks.{events_of, outlook_of}
use Rattle.plan_explorer.specs.Plants.{after_turns, first_situation}
use Rattle.plan_app.proofs.plant_going.walk_of.Goals as goal

pub returns-clause-events : goal.returns-clause-events
returns-clause-events c =
    let ps = c.args.plant.now.programs.now.programs in
    let first = first_situation c.args.plant.now.openings.now in
    subst (λ ts. IfOk c.take_plant_turns.result (λ walk. walk.events.items ≡ events_of ts ps first c.args.turns.now))
    c.requires.tables c.take_plant_turns.ensures.events

pub returns-clause-outlook : goal.returns-clause-outlook
returns-clause-outlook c =
    let ps = c.args.plant.now.programs.now.programs in
    let first = first_situation c.args.plant.now.openings.now in
    subst
    (λ ts. IfOk c.take_plant_turns.result
    (λ walk. walk.outlook.items ≡ outlook_of ts ps (after_turns ts ps first c.args.turns.now)))
    c.requires.tables c.take_plant_turns.ensures.outlook
