use Rattle.cell_word.proofs.Names.{Some, [], ◌∷◌, sym, ap, ◌∙◌, Ok, Claim, written, owner_is, went_on}
use Rattle.cell_word.specs.Guards as guards
use Rattle.cell_word.proofs.PartyLemmas.{entering_as, owner_by}
use Rattle.cell_word.proofs.Trying.{by_counts, ends, past, refused_by}
use Rattle.cell_word.proofs.guards.claim.Goals as goal

pub returns-in_err-party : goal.returns-in_err-party
returns-in_err-party c = refused_by (by_counts c.args.word (1 ∷ 1 ∷ 4 ∷ []) (guards.claim_guards c.args.machine c.args.zone) (written c.args.machine (Claim c.args.zone))) (sym (c.require_party.ensures.stranger c.args.word)) (ap went_on c.in_err-party.was) c.from_residual.ensures.1

pub returns-in_err-require_running : goal.returns-in_err-require_running
returns-in_err-require_running c = refused_by (past (by_counts c.args.word (1 ∷ 1 ∷ 4 ∷ []) (guards.claim_guards c.args.machine c.args.zone) (written c.args.machine (Claim c.args.zone))) (sym (c.require_party.ensures.stranger c.args.word)) (ap went_on c.in_ok-party.was)) c.require_running.ensures c.in_err-require_running.was c.from_residual-in_err-require_running.ensures.1

pub returns-in_err-require_enterable : goal.returns-in_err-require_enterable
returns-in_err-require_enterable c = refused_by (past (past (by_counts c.args.word (1 ∷ 1 ∷ 4 ∷ []) (guards.claim_guards c.args.machine c.args.zone) (written c.args.machine (Claim c.args.zone))) (sym (c.require_party.ensures.stranger c.args.word)) (ap went_on c.in_ok-party.was)) c.require_running.ensures c.in_ok-require_running.was) (entering_as c.args.word c.args.machine c.args.zone c.in_ok-party.party c.in_ok-party.ensures.party c.require_enterable.ensures) c.in_err-require_enterable.was c.from_residual-in_err-require_enterable.ensures.1

pub returns-in_err-require_stamp : goal.returns-in_err-require_stamp
returns-in_err-require_stamp c = refused_by (past (past (past (by_counts c.args.word (1 ∷ 1 ∷ 4 ∷ []) (guards.claim_guards c.args.machine c.args.zone) (written c.args.machine (Claim c.args.zone))) (sym (c.require_party.ensures.stranger c.args.word)) (ap went_on c.in_ok-party.was)) c.require_running.ensures c.in_ok-require_running.was) (entering_as c.args.word c.args.machine c.args.zone c.in_ok-party.party c.in_ok-party.ensures.party c.require_enterable.ensures) c.in_ok-require_enterable.was) c.require_stamp.ensures c.in_err-require_stamp.was c.from_residual-in_err-require_stamp.ensures.1

pub returns : goal.returns
returns c =
    let m = c.args.machine in
    let z = c.args.zone in
    let s = c.in_ok-party.party in
    let party = c.in_ok-party.ensures.party in
    ends (past (past (past (past (by_counts c.args.word (1 ∷ 1 ∷ 4 ∷ []) (guards.claim_guards c.args.machine c.args.zone) (written c.args.machine (Claim c.args.zone))) (sym (c.require_party.ensures.stranger c.args.word)) (ap went_on c.in_ok-party.was)) c.require_running.ensures c.in_ok-require_running.was) (entering_as c.args.word c.args.machine c.args.zone c.in_ok-party.party c.in_ok-party.ensures.party c.require_enterable.ensures) c.in_ok-require_enterable.was) c.require_stamp.ensures c.in_ok-require_stamp.was) (ap Ok (c.owned_by.ensures ∙ ap (λ m. owner_is z (Some m)) (sym party) ∙ sym (owner_by m z s (Some m) party)))
