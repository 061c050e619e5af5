use Rattle.cell_config.specs.Configured.{shown}
use Rattle.explore_app.proofs.Screens.{is_answer}
use Rattle.explore_app.proofs.screen.screen_of.Goals as goal

pub returns : goal.returns
returns c =
    is_answer (shown c.args.config.now) c.in_ok-found.found c.screen_by.result c.in_ok-found.ensures.free c.in_ok-found.ensures.situations c.in_ok-found.ensures.standstill c.in_ok-found.ensures.refusal
    c.in_ok-found.ensures.shortest c.screen_by.ensures
