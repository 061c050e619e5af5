use Rattle.std.proofs.Common.{◌≡◌, filter, map, string_bytes}
use Rattle.std.specs.List.{range_with_len}
use Rattle.plan_text.specs.Names.{name_in}
use Rattle.plan_document.specs.OnWord.{is_here}
use Rattle.plan_document.proofs.parts.numbers_here.Given as goal

abbrev pub invariant-texts : goal.invariant-texts
invariant-texts l = l.numbers.items ≡ filter (λ k. is_here l.names (name_in (map string_bytes l.texts) k)) (range_with_len 0 l.number)
