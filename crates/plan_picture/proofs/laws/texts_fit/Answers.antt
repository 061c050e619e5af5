use Rattle.plan_picture.proofs.Fitting.{texts-fit}
use Rattle.plan_picture.proofs.laws.texts_fit.Goals as goal

pub returns : goal.returns
returns c = texts-fit
