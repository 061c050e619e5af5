use Rattle.cell_word.proofs.Names.{◌≡◌, [], ◌∷◌, sym, ap, ◌∙◌, Ok, Some, Yield, other_party, written, went_on, machine_of, owner_is}
use Rattle.cell_word.specs.Guards as guards
use Rattle.cell_word.proofs.PartyLemmas.{other_is, held_and_clear_as, owner_by}
use Rattle.cell_word.proofs.Trying.{by_counts, ends, past, refused_by}
use Rattle.cell_word.proofs.guards.hand_over.Goals as goal

pub returns-in_err-party : goal.returns-in_err-party
returns-in_err-party c = refused_by (by_counts c.args.word (1 ∷ 3 ∷ 1 ∷ []) (guards.yield_guards c.args.machine c.args.zone) (written c.args.machine (Yield c.args.zone))) (sym (c.require_party.ensures.stranger c.args.word)) (ap went_on c.in_err-party.was) c.from_residual.ensures.1

pub returns-in_err-require_held_and_clear : goal.returns-in_err-require_held_and_clear
returns-in_err-require_held_and_clear c = refused_by (past (by_counts c.args.word (1 ∷ 3 ∷ 1 ∷ []) (guards.yield_guards c.args.machine c.args.zone) (written c.args.machine (Yield c.args.zone))) (sym (c.require_party.ensures.stranger c.args.word)) (ap went_on c.in_ok-party.was)) (held_and_clear_as c.args.word c.args.machine c.args.zone c.in_ok-party.party c.in_ok-party.ensures.party c.require_held_and_clear.ensures) c.in_err-require_held_and_clear.was c.from_residual-in_err-require_held_and_clear.ensures.1

pub returns-in_err-require_not_in : goal.returns-in_err-require_not_in
returns-in_err-require_not_in c = refused_by (past (past (by_counts c.args.word (1 ∷ 3 ∷ 1 ∷ []) (guards.yield_guards c.args.machine c.args.zone) (written c.args.machine (Yield c.args.zone))) (sym (c.require_party.ensures.stranger c.args.word)) (ap went_on c.in_ok-party.was)) (held_and_clear_as c.args.word c.args.machine c.args.zone c.in_ok-party.party c.in_ok-party.ensures.party c.require_held_and_clear.ensures) c.in_ok-require_held_and_clear.was) c.require_not_in.ensures c.in_err-require_not_in.was c.from_residual-in_err-require_not_in.ensures.1

pub returns-in_err-require_leavable : goal.returns-in_err-require_leavable
returns-in_err-require_leavable c = refused_by (past (past (past (by_counts c.args.word (1 ∷ 3 ∷ 1 ∷ []) (guards.yield_guards c.args.machine c.args.zone) (written c.args.machine (Yield c.args.zone))) (sym (c.require_party.ensures.stranger c.args.word)) (ap went_on c.in_ok-party.was)) (held_and_clear_as c.args.word c.args.machine c.args.zone c.in_ok-party.party c.in_ok-party.ensures.party c.require_held_and_clear.ensures) c.in_ok-require_held_and_clear.was) c.require_not_in.ensures c.in_ok-require_not_in.was) c.require_leavable.ensures c.in_err-require_leavable.was c.from_residual-in_err-require_leavable.ensures.1

pub returns : goal.returns
returns c =
    let m = c.args.machine in
    let z = c.args.zone in
    let s = c.in_ok-party.party in
    let party = c.in_ok-party.ensures.party in
    let given : c.owned_by.result ≡ owner_is z (Some (other_party m z)) = c.owned_by.ensures ∙ ap (λ s. owner_is z (Some (machine_of z s))) c.opposite.ensures ∙ ap (λ o. owner_is z (Some o)) (sym (other_is m z s party)) in
    ends (past (past (past (past (by_counts c.args.word (1 ∷ 3 ∷ 1 ∷ []) (guards.yield_guards c.args.machine c.args.zone) (written c.args.machine (Yield c.args.zone))) (sym (c.require_party.ensures.stranger c.args.word)) (ap went_on c.in_ok-party.was)) (held_and_clear_as c.args.word c.args.machine c.args.zone c.in_ok-party.party c.in_ok-party.ensures.party c.require_held_and_clear.ensures) c.in_ok-require_held_and_clear.was) c.require_not_in.ensures c.in_ok-require_not_in.was) c.require_leavable.ensures c.in_ok-require_leavable.was) (ap Ok (given ∙ sym (owner_by m z s (Some (other_party m z)) party)))
