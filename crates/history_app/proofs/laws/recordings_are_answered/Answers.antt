use Rattle.history_app.proofs.LawLemmas.{recordings_answered}
use Rattle.history_app.proofs.laws.recordings_are_answered.Goals as goal

pub returns-clause-law : goal.returns-clause-law
returns-clause-law c = recordings_answered

pub returns-clause-script : goal.returns-clause-script
returns-clause-script c = λ turns tries bytes script was.
    let k = recordings_answered turns tries bytes script was in
    (k.0, k.1.0, k.1.1.clean, k.1.1.history.legal, k.1.1.journals)
