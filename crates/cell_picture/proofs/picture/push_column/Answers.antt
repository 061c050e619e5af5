use Rattle.cell_picture.proofs.Growing.{no_value}
use Rattle.cell_picture.proofs.picture.push_column.Goals as goal

pub loop-at-init : goal.loop-at-init
loop-at-init c = no_value _ _ _ _
