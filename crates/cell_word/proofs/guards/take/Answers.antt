use Rattle.cell_word.proofs.Names.{[], ◌∷◌, sym, ap, ◌∙◌, Ok, NoPlate, Take, written, guard, went_on}
use Rattle.cell_word.specs.Guards as guards
use Rattle.cell_word.proofs.PartyLemmas.{held_as}
use Rattle.cell_word.proofs.Trying.{by_counts, asked, ends, past, refused_by}
use Rattle.cell_word.proofs.guards.take.Goals as goal

pub returns-in_err-party : goal.returns-in_err-party
returns-in_err-party c = refused_by (by_counts c.args.word (1 ∷ 2 ∷ 1 ∷ []) (guards.take_guards c.args.machine c.args.zone) (written c.args.machine (Take c.args.zone))) (sym (c.require_party.ensures.stranger c.args.word)) (ap went_on c.in_err-party.was) c.from_residual.ensures.1

pub returns-in_err-require_held : goal.returns-in_err-require_held
returns-in_err-require_held c = refused_by (past (by_counts c.args.word (1 ∷ 2 ∷ 1 ∷ []) (guards.take_guards c.args.machine c.args.zone) (written c.args.machine (Take c.args.zone))) (sym (c.require_party.ensures.stranger c.args.word)) (ap went_on c.in_ok-party.was)) (held_as c.args.word c.args.machine c.args.zone c.in_ok-party.party c.in_ok-party.ensures.party c.require_held.ensures) c.in_err-require_held.was c.from_residual-in_err-require_held.ensures.1

pub returns-in_err-check : goal.returns-in_err-check
returns-in_err-check c = refused_by (past (past (by_counts c.args.word (1 ∷ 2 ∷ 1 ∷ []) (guards.take_guards c.args.machine c.args.zone) (written c.args.machine (Take c.args.zone))) (sym (c.require_party.ensures.stranger c.args.word)) (ap went_on c.in_ok-party.was)) (held_as c.args.word c.args.machine c.args.zone c.in_ok-party.party c.in_ok-party.ensures.party c.require_held.ensures) c.in_ok-require_held.was) (asked c.args.word c.check.ensures (c.refuses.ensures ∙ ap (λ p. guard p NoPlate) c.flag.ensures)) c.in_err-check.was c.from_residual-in_err-check.ensures.1

pub returns-in_err-require_stamp : goal.returns-in_err-require_stamp
returns-in_err-require_stamp c = refused_by (past (past (past (by_counts c.args.word (1 ∷ 2 ∷ 1 ∷ []) (guards.take_guards c.args.machine c.args.zone) (written c.args.machine (Take c.args.zone))) (sym (c.require_party.ensures.stranger c.args.word)) (ap went_on c.in_ok-party.was)) (held_as c.args.word c.args.machine c.args.zone c.in_ok-party.party c.in_ok-party.ensures.party c.require_held.ensures) c.in_ok-require_held.was) (asked c.args.word c.check.ensures (c.refuses.ensures ∙ ap (λ p. guard p NoPlate) c.flag.ensures)) c.in_ok-check.was) c.require_stamp.ensures c.in_err-require_stamp.was c.from_residual-in_err-require_stamp.ensures.1

pub returns : goal.returns
returns c = ends (past (past (past (past (by_counts c.args.word (1 ∷ 2 ∷ 1 ∷ []) (guards.take_guards c.args.machine c.args.zone) (written c.args.machine (Take c.args.zone))) (sym (c.require_party.ensures.stranger c.args.word)) (ap went_on c.in_ok-party.was)) (held_as c.args.word c.args.machine c.args.zone c.in_ok-party.party c.in_ok-party.ensures.party c.require_held.ensures) c.in_ok-require_held.was) (asked c.args.word c.check.ensures (c.refuses.ensures ∙ ap (λ p. guard p NoPlate) c.flag.ensures)) c.in_ok-check.was) c.require_stamp.ensures c.in_ok-require_stamp.was) (ap Ok (c.take_pattern.ensures ∙ ap (λ m. written m (Take c.args.zone)) (sym c.in_ok-party.ensures.party)))
