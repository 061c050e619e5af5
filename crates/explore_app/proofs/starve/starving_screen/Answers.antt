use Rattle.std.proofs.Common.{List, None, ap, sym, subst, IfOk, ◌∙◌}
use Rattle.cell_types.specs.declared.machine.Machine.{Machine}
use Rattle.cell_config.specs.Configured.{shown}
use Rattle.cell_liveness.specs.Answers.{IfStarves}
use Rattle.cell_liveness.specs.Starving.{IsStarving}
use Rattle.cell_liveness.specs.declared.answers.Progress.{Progress}
use Rattle.explore_app.specs.Screens.{ComesTo}
use Rattle.explore_app.specs.Starving.{IsStarvingScreenOf, ShowsCircle, is_idle}
use Rattle.explore_app.proofs.Starved.{tells_still, tells_round}
use Rattle.explore_app.proofs.starve.starving_screen.Goals as goal

pub returns-then-stands_still : goal.returns-then-stands_still
returns-then-stands_still c =
    subst (IsStarvingScreenOf (shown c.args.config.now)) (sym c.warning.ensures)
    (tells_still (shown c.args.config.now) c.in-Starves.stem.items c.in-Starves.cycle.items c.in_ok-walk-in-Starves.walk
    (subst (λ (p : Progress). IfStarves p (IsStarving c.args.config.now.start None None)) c.in-Starves.is c.in_ok-stem.ensures.starves)
    (subst (λ (way : List Machine). ComesTo c.args.config.now.start way c.in_ok-walk-in-Starves.walk) c.as_slice.ensures.value
    (record { asks = c.in_ok-walk-in-Starves.ensures.asks; end = c.in_ok-walk-in-Starves.ensures.end; next = c.in_ok-walk-in-Starves.ensures.next }))
    (ap (is_idle c.in_ok-walk-in-Starves.walk) (sym c.as_slice-in-Starves.ensures.value) ∙ sym c.if-stands_still.ensures) c.in_ok-screen-in-Starves.screen c.in_ok-screen-in-Starves.ensures)

pub returns-else-stands_still : goal.returns-else-stands_still
returns-else-stands_still c =
    tells_round (shown c.args.config.now) c.in-Starves.stem.items c.in-Starves.cycle.items c.in_ok-walk-in-Starves.walk
    (subst (λ (p : Progress). IfStarves p (IsStarving c.args.config.now.start None None)) c.in-Starves.is c.in_ok-stem.ensures.starves)
    (subst (λ (way : List Machine). ComesTo c.args.config.now.start way c.in_ok-walk-in-Starves.walk) c.as_slice.ensures.value
    (record { asks = c.in_ok-walk-in-Starves.ensures.asks; end = c.in_ok-walk-in-Starves.ensures.end; next = c.in_ok-walk-in-Starves.ensures.next }))
    c.round_screen.result
    (ap (is_idle c.in_ok-walk-in-Starves.walk) (sym c.as_slice-in-Starves.ensures.value) ∙ sym c.if-stands_still.ensures)
    (subst (λ (way : List Machine). IfOk c.round_screen.result (ShowsCircle (shown c.args.config.now) way c.in-Starves.cycle.items c.in_ok-walk-in-Starves.walk)) c.as_slice-in-Starves-2.ensures.value
    (subst (λ (turns : List Machine). IfOk c.round_screen.result (ShowsCircle (shown c.args.config.now) c.as_slice-in-Starves-2.result.now turns c.in_ok-walk-in-Starves.walk)) c.as_slice-in-Starves-3.ensures.value c.round_screen.ensures))
