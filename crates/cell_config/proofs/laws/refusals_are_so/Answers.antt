use Rattle.cell_config.proofs.Refusals.{one_curve_fault, one_refusal, pairs_are_judged, refusals_are_first, values_are_judged}
use Rattle.cell_config.proofs.laws.refusals_are_so.Goals as goal

pub returns-clause-one_curve_fault : goal.returns-clause-one_curve_fault
returns-clause-one_curve_fault c = one_curve_fault c.one_first_fault.ensures

pub returns-clause-one : goal.returns-clause-one
returns-clause-one c = one_refusal c.one_first_fault.ensures

pub returns-clause-pairs : goal.returns-clause-pairs
returns-clause-pairs c = pairs_are_judged

pub returns-clause-values : goal.returns-clause-values
returns-clause-values c = values_are_judged

pub returns-clause-first : goal.returns-clause-first
returns-clause-first c = refusals_are_first
