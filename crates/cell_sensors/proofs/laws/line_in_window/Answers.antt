use Rattle.cell_sensors.proofs.lemmas.LineLemmas.{line_in_window_lem}
use Rattle.cell_sensors.proofs.laws.line_in_window.Goals as goal

pub returns : goal.returns
returns c = line_in_window_lem
