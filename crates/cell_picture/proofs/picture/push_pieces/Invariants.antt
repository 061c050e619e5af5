use Rattle.std.proofs.Common.{◌≡◌, ◌++◌, take, string_bytes}
use Rattle.cell_picture.specs.Columns.{pieces_text}
use Rattle.cell_picture.proofs.picture.push_pieces.Given as goal

abbrev pub invariant-loop-piece : goal.invariant-loop-piece
invariant-loop-piece l = string_bytes l.text ≡ string_bytes l.fn.text ++ pieces_text l.part l.number (take l.piece-index l.pieces)
