use Rattle.cell_picture.proofs.PictureRows.{picture-examples}
use Rattle.cell_picture.proofs.laws.pictures_are_met.Goals as goal

pub returns : goal.returns
returns c = picture-examples
