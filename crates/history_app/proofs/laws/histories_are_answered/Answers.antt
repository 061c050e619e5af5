use Rattle.history_app.proofs.lemmas.Answering.{histories_answered}
use Rattle.history_app.proofs.laws.histories_are_answered.Goals as goal

pub returns-clause-law : goal.returns-clause-law
returns-clause-law c = histories_answered

pub returns-clause-script : goal.returns-clause-script
returns-clause-script c = λ opening history start legal few.
    let k = histories_answered opening history start legal few in
    (k.clean, k.events)
