use Rattle.cell_sensors.proofs.CurveReadings.{one_on_curve}
use Rattle.cell_sensors.proofs.laws.one_position.Goals as goal

pub returns : goal.returns
returns c = λ s pairs raw v w curve one other. one_on_curve pairs raw v w curve.rising one other
