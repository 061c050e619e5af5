use Rattle.cell_word.proofs.Names.{ap, ◌∙◌, giving_posture, transfer_of}
use Rattle.cell_word.proofs.PartyLemmas.{received_by_party}
use Rattle.cell_word.proofs.parties.row_received.Goals as goal

pub returns : goal.returns
returns c =
    c.transfer.ensures ∙ ap (transfer_of c.args.zone) (c.giving_posture.ensures ∙ ap giving_posture c.opposite.ensures)
    ∙ received_by_party c.args.zone c.args.party
