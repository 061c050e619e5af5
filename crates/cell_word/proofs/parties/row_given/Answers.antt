use Rattle.cell_word.proofs.Names.{ap, ◌∙◌, transfer_of}
use Rattle.cell_word.proofs.PartyLemmas.{given_by_party}
use Rattle.cell_word.proofs.parties.row_given.Goals as goal

pub returns-clause-row : goal.returns-clause-row
returns-clause-row c = c.transfer.ensures ∙ ap (transfer_of c.args.zone) c.giving_posture.ensures

pub returns-clause-given : goal.returns-clause-given
returns-clause-given c = returns-clause-row c ∙ given_by_party c.args.zone c.args.party
