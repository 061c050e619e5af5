use Rattle.std.proofs.Common.{◌≡◌, ◌<◌, take, IfSome}
use Rattle.cell_picture.specs.Parts.{last_take}
use Rattle.cell_picture.proofs.span.last_take.Given as goal

abbrev pub invariant-loop-at : goal.invariant-loop-at
invariant-loop-at l = record { value : l.latest ≡ last_take (take l.at l.frames); within : IfSome l.latest (λ place. place < l.at) }
