use Rattle.cell_picture.proofs.Growing.{no_piece}
use Rattle.cell_picture.proofs.picture.push_pieces.Goals as goal

pub loop-piece-init : goal.loop-piece-init
loop-piece-init c = no_piece _ _ _
