use Rattle.cell_word.proofs.Names.{◌∙◌, sym, ap, stands, posture_is}
use Rattle.cell_word.proofs.Turning.{no_way, one_way, holds, fails}
use Rattle.cell_word.proofs.guards.require_giving.Goals as goal

pub returns-then-is-clause-way : goal.returns-then-is-clause-way
returns-then-is-clause-way c =
    let w = c.args.at.word in
    let z = c.args.at.zone in
    sym (holds _ (one_way w z c.args.party c.in-Some.row (sym c.row_given.ensures.row ∙ c.in-Some.is)) (ap (λ q. stands w (posture_is z q)) (sym c.giving_posture.ensures) ∙ sym c.is.ensures ∙ c.if-is.true))

pub returns-else-is-clause-way : goal.returns-else-is-clause-way
returns-else-is-clause-way c =
    let w = c.args.at.word in
    let z = c.args.at.zone in
    sym (fails _ (one_way w z c.args.party c.in-Some.row (sym c.row_given.ensures.row ∙ c.in-Some.is)) (ap (λ q. stands w (posture_is z q)) (sym c.giving_posture.ensures) ∙ sym c.is.ensures ∙ c.if-is.false))

pub returns-in-None-clause-way : goal.returns-in-None-clause-way
returns-in-None-clause-way c = no_way c.args.at.word c.args.at.zone c.args.party (sym c.row_given.ensures.row ∙ c.in-None.is)
