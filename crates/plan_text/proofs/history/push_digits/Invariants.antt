use Rattle.std.proofs.Common.{◌≡◌, ◌++◌, string_bytes}
use Rattle.plan_text.specs.Histories.{digits_of}
use Rattle.plan_text.proofs.history.push_digits.Given as goal

abbrev pub invariant-places : goal.invariant-places
invariant-places l = string_bytes l.text ≡ string_bytes l.initial.text ++ digits_of l.place l.start
