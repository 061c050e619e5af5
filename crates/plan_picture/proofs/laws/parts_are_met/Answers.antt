use Rattle.plan_picture.proofs.PictureRows.{elements-met, parts-met, words-met}
use Rattle.plan_picture.proofs.laws.parts_are_met.Goals as goal

pub returns : goal.returns
returns c = record { elements = elements-met; parts = parts-met; words = words-met }
