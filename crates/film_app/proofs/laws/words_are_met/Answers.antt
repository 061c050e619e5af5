use Rattle.film_app.proofs.FieldRows.{fields-told}
use Rattle.film_app.proofs.LineRows.{requests-met, steps-met}
use Rattle.film_app.proofs.laws.words_are_met.Goals as goal

pub returns-clause-steps : goal.returns-clause-steps
returns-clause-steps c = steps-met

pub returns-clause-requests : goal.returns-clause-requests
returns-clause-requests c = requests-met

pub returns-clause-fields : goal.returns-clause-fields
returns-clause-fields c = fields-told
