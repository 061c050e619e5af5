use Rattle.std.proofs.Common.{◌≡◌, ◌++◌, string_bytes}
use Rattle.cell_picture.specs.Columns.{column_text}
use Rattle.cell_picture.proofs.picture.push_column.Given as goal

abbrev pub invariant-loop-at : goal.invariant-loop-at
invariant-loop-at l = string_bytes l.text ≡ string_bytes l.fn.text ++ column_text l.value l.number l.part l.at
