use Rattle.plan_words.proofs.CutRows.{plate_goes_through, only_refusals_differ, out_of_turn, lent_to_both, open_to_both}
use Rattle.plan_words.proofs.laws.cut_places_are_met.Goals as goal

pub returns-clause-goes_through : goal.returns-clause-goes_through
returns-clause-goes_through g = plate_goes_through

pub returns-clause-refused : goal.returns-clause-refused
returns-clause-refused g = only_refusals_differ

pub returns-clause-out_of_turn : goal.returns-clause-out_of_turn
returns-clause-out_of_turn g = out_of_turn

pub returns-clause-to_both : goal.returns-clause-to_both
returns-clause-to_both g = lent_to_both

pub returns-clause-from_both : goal.returns-clause-from_both
returns-clause-from_both g = open_to_both
