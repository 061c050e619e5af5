use Rattle.cell_word.proofs.Names.{[], ◌∷◌, sym, ap, ◌∙◌, Ok, None, Release, written, went_on}
use Rattle.cell_word.specs.Guards as guards
use Rattle.cell_word.proofs.PartyLemmas.{held_and_clear_as, owner_by}
use Rattle.cell_word.proofs.Trying.{by_counts, ends, past, refused_by}
use Rattle.cell_word.proofs.guards.release.Goals as goal

pub returns-in_err-party : goal.returns-in_err-party
returns-in_err-party c = refused_by (by_counts c.args.word (1 ∷ 3 ∷ []) (guards.release_guards c.args.machine c.args.zone) (written c.args.machine (Release c.args.zone))) (sym (c.require_party.ensures.stranger c.args.word)) (ap went_on c.in_err-party.was) c.from_residual.ensures.1

pub returns-in_err-require_held_and_clear : goal.returns-in_err-require_held_and_clear
returns-in_err-require_held_and_clear c = refused_by (past (by_counts c.args.word (1 ∷ 3 ∷ []) (guards.release_guards c.args.machine c.args.zone) (written c.args.machine (Release c.args.zone))) (sym (c.require_party.ensures.stranger c.args.word)) (ap went_on c.in_ok-party.was)) (held_and_clear_as c.args.word c.args.machine c.args.zone c.in_ok-party.party c.in_ok-party.ensures.party c.require_held_and_clear.ensures) c.in_err-require_held_and_clear.was c.from_residual-in_err-require_held_and_clear.ensures.1

pub returns-in_err-require_leavable : goal.returns-in_err-require_leavable
returns-in_err-require_leavable c = refused_by (past (past (by_counts c.args.word (1 ∷ 3 ∷ []) (guards.release_guards c.args.machine c.args.zone) (written c.args.machine (Release c.args.zone))) (sym (c.require_party.ensures.stranger c.args.word)) (ap went_on c.in_ok-party.was)) (held_and_clear_as c.args.word c.args.machine c.args.zone c.in_ok-party.party c.in_ok-party.ensures.party c.require_held_and_clear.ensures) c.in_ok-require_held_and_clear.was) c.require_leavable.ensures c.in_err-require_leavable.was c.from_residual-in_err-require_leavable.ensures.1

pub returns : goal.returns
returns c = ends (past (past (past (by_counts c.args.word (1 ∷ 3 ∷ []) (guards.release_guards c.args.machine c.args.zone) (written c.args.machine (Release c.args.zone))) (sym (c.require_party.ensures.stranger c.args.word)) (ap went_on c.in_ok-party.was)) (held_and_clear_as c.args.word c.args.machine c.args.zone c.in_ok-party.party c.in_ok-party.ensures.party c.require_held_and_clear.ensures) c.in_ok-require_held_and_clear.was) c.require_leavable.ensures c.in_ok-require_leavable.was) (ap Ok (c.owner.ensures ∙ sym (owner_by c.args.machine c.args.zone c.in_ok-party.party None c.in_ok-party.ensures.party)))
