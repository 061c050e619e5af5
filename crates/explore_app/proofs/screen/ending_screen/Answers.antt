use Rattle.cell_config.specs.Configured.{shown}
use Rattle.explore_app.proofs.Screens.{shows_ending}
use Rattle.explore_app.proofs.screen.ending_screen.Goals as goal

pub returns : goal.returns
returns c =
    shows_ending (shown c.args.config.now) c.args.ending c.args.way.now c.in_ok-walk.walk _
    (record { asks = c.in_ok-walk.ensures.asks; end = c.in_ok-walk.ensures.end; next = c.in_ok-walk.ensures.next }) c.in_ok-text.ensures
