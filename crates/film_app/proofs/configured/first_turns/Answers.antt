use Rattle.std.proofs.Common.{sym, arith}
use Rattle.std.proofs.lemmas.List.{length-take-le, take_all}
use Rattle.film_app.specs.Pages.{max_turns}
use Rattle.film_app.proofs.configured.first_turns.Goals as goal

pub slice_bounds-result-end : goal.slice_bounds-result-end
slice_bounds-result-end c = sym (length-take-le 100000 c.args.schedule.now (omega arith))

pub returns-else-schedule-gt-MAX_TURNS : goal.returns-else-schedule-gt-MAX_TURNS
unfolding max_turns
returns-else-schedule-gt-MAX_TURNS c = sym (take_all 100000 c.args.schedule.now (omega arith))
