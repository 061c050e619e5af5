use Rattle.std.proofs.Common.{◌≡◌, ◌++◌, string_bytes, drop}
use Rattle.plan_word.specs.OfPlan.{IsOfPlan}
use Rattle.plan_app.specs.Films.{event_lines}
use Rattle.plan_app.proofs.film.push_events.Given as goal

abbrev pub invariant-events : goal.invariant-events
invariant-events l = record {
  told : string_bytes l.text ++ event_lines l.named l.at (drop l.event-index l.events)
      ≡ string_bytes l.initial.text ++ event_lines l.named l.start l.events;
  sound : IsOfPlan l.named.plan l.at;
}
