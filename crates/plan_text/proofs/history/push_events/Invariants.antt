use Rattle.std.proofs.Common.{◌≡◌, ◌++◌, string_bytes, flat_map, take}
use Rattle.plan_text.specs.Histories.{event_line}
use Rattle.plan_text.proofs.history.push_events.Given as goal

abbrev pub invariant-events : goal.invariant-events
invariant-events l =
    string_bytes l.text ≡ string_bytes l.initial.text ++ flat_map (event_line l.named) (take l.event-index l.history)
