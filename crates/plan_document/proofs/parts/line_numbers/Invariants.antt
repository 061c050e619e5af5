use Rattle.std.proofs.Common.{◌≡◌, filter, map, string_bytes}
use Rattle.std.specs.List.{range_with_len}
use Rattle.plan_text.specs.Names.{name_in}
use Rattle.plan_document.specs.OnWord.{stands_on}
use Rattle.plan_document.proofs.parts.line_numbers.Given as goal

abbrev pub invariant-lines : goal.invariant-lines
invariant-lines l = l.numbers.items ≡ filter (λ k. stands_on l.zones l.places l.poses (name_in (map string_bytes l.lines) k)) (range_with_len 0 l.number)
