use Rattle.std.proofs.Common.{take, ap, ◌∙◌}
use Rattle.film_app.specs.Pages.{max_turns}
use Rattle.film_app.proofs.configured.show_configured.Goals as goal

pub returns : goal.returns
returns g c =
    rw (c.first_turns-shown.ensures ∙ ap (take max_turns) c.as_slice.ensures.value) at c.simulate_configured_observed.ensures
