use Rattle.std.proofs.Common.{◌≡◌, filter, map}
use Rattle.std.specs.List.{range_with_len}
use Rattle.plan_text.specs.Names.{name_in}
use Rattle.plan_document.specs.OnWord.{is_here, zones_named}
use Rattle.plan_document.specs.Texts.{posture_texts}
use Rattle.plan_document.proofs.parts.posture_numbers.Given as goal

abbrev pub invariant-rows : goal.invariant-rows
invariant-rows l = l.numbers.items ≡ filter (λ k. is_here l.zones (name_in (zones_named (map posture_texts l.rows)) k)) (range_with_len 0 l.number)
