use Rattle.cell_config.proofs.lemmas.CalibratedLaws.{calibrated}
use Rattle.cell_config.proofs.laws.settings_are_calibrated.Goals as goal

pub returns : goal.returns
returns c = calibrated
