use Rattle.std.proofs.Common.{◌≡◌, ◌++◌, flat_map, string_bytes, take}
use Rattle.plan_picture.specs.Elements.{escaped_byte}
use Rattle.plan_picture.proofs.elements.push_escaped_bytes.Given as goal

abbrev pub invariant-bytes : goal.invariant-bytes
invariant-bytes l = string_bytes l.text ≡ string_bytes l.initial.text ++ flat_map escaped_byte (take l.at l.bytes)
