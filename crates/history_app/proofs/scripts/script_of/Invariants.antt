use Rattle.std.proofs.Common.{◌≡◌, take, string_bytes}
use Rattle.history_app.proofs.Lines.{text_of}
use Rattle.history_app.specs.Scripts.{opening_row}
use Rattle.history_app.proofs.scripts.script_of.Given as goal

abbrev pub invariant-events : goal.invariant-events
invariant-events l = string_bytes l.text ≡ text_of (opening_row l.opening l.events) (take l.event-index l.events)
