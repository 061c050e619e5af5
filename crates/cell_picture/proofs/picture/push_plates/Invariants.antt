use Rattle.std.proofs.Common.{◌≡◌, ◌++◌, string_bytes}
use Rattle.cell_picture.specs.Pictures.{plates_text}
use Rattle.cell_picture.proofs.picture.push_plates.Given as goal

abbrev pub invariant-loop-number : goal.invariant-loop-number
invariant-loop-number l = string_bytes l.text ≡ string_bytes l.fn.text ++ plates_text l.part l.plate l.number
