-- Curves in figures.
use Rattle.cell_sensors.specs.CurveExamples.{CurveExamples}
use Rattle.cell_sensors.proofs.FaultFigures.{faults}
use Rattle.cell_sensors.proofs.ReadingFigures.{readings}
use Rattle.cell_sensors.proofs.EdgeFigures.{edges, none, tests, places}

pub curve_figures : CurveExamples
curve_figures = record { readings = readings; faults = faults; edges = edges; none = none; tests = tests; places = places }
