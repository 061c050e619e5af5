use Rattle.std.proofs.Common.{arith}
use Rattle.cell_config.proofs.CurveChoices.{too_many}
use Rattle.cell_config.proofs.sections.curve_within.Goals as goal

pub returns-then-values-gt-MAX_PAIRS-clause-value : goal.returns-then-values-gt-MAX_PAIRS-clause-value
returns-then-values-gt-MAX_PAIRS-clause-value c = too_many c.args.points c.args.values.now (omega arith)
