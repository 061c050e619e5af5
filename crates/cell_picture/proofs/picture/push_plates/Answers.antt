use Rattle.cell_picture.proofs.Growing.{no_plate}
use Rattle.cell_picture.proofs.picture.push_plates.Goals as goal

pub loop-number-init : goal.loop-number-init
loop-number-init c = no_plate _ _ _
