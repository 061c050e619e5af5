use Rattle.std.proofs.Common.{◌≡◌, None}
use Rattle.cell_config.specs.Configured.{shown}
use Rattle.cell_plant.specs.declared.observer.SeenFault.TheVariants.{Observer}
use Rattle.explore_app.specs.declared.schedule.SeekEnd.TheVariants.{Asked}
use Rattle.explore_app.proofs.Played.{if_played}
use Rattle.explore_app.proofs.schedule.play_until_asked.Goals as goal

pub returns-in-Err-Observer-Asked : goal.returns-in-Err-Observer-Asked
returns-in-Err-Observer-Asked c =
    let here = c.in-Err-Observer-Asked in
    let outer = here.field-0-is in
    let inner = here.field-0-0-is in
    let is : here.field-0 ≡ Observer Asked = cc in
    if_played (shown c.args.config.now) c.args.trial.now (record { skip = c.args.skip; turns = c.new.result; last = None }) c.simulate_configured_observed.new.observer here.field-0 c.into_played.result is c.new.ensures.items
    c.into_played.ensures.turns c.into_played.ensures.last here.ensures.ended
