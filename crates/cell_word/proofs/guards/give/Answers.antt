use Rattle.cell_word.proofs.Names.{◌≡◌, Option, Ok, List, [], ◌∷◌, map, sym, ap, ◌∙◌, Result, Some, ℕ, Transfer, Give, NoPlate, PlaceFull, Refusal, guard, checked, went_on, machine_of, Guard}
use Rattle.cell_rules.specs.Types.{all_postures}
use Rattle.cell_word.specs.Changes as changes
use Rattle.cell_word.specs.Guards as guards
use Rattle.cell_word.proofs.PartyLemmas.{held_and_clear_as}
use Rattle.cell_word.proofs.Trying.{by_counts, ends, past, refused_by}
use Rattle.cell_word.proofs.guards.give.Goals as goal

-- the guards of a plate's way, by the row of transfers that the party gives by
abbrev way_by : Option Transfer → List Guard
way_by row = guard (guards.starts_empty row) NoPlate ∷ guard (guards.ends_full row) PlaceFull ∷ guards.worn ∷ []

by_row : (w : ℕ) {q : Result (Unit {0}) Refusal} {given : Option Transfer} {row : Transfer} → given ≡ Some row → q ≡ checked w (way_by (Some row)) → q ≡ checked w (way_by given)
by_row w e f = f ∙ ap (λ (row : Option Transfer). checked w (way_by row)) (sym e)

pub returns-in_err-party : goal.returns-in_err-party
returns-in_err-party c = refused_by (by_counts c.args.word (1 ∷ 1 ∷ 3 ∷ 4 ∷ []) (guards.give_guards c.args.machine c.args.zone) (changes.written c.args.machine (Give c.args.zone))) (sym (c.require_party.ensures.stranger c.args.word)) (ap went_on c.in_err-party.was) c.from_residual.ensures.1

pub returns-in_err-require_running : goal.returns-in_err-require_running
returns-in_err-require_running c = refused_by (past (by_counts c.args.word (1 ∷ 1 ∷ 3 ∷ 4 ∷ []) (guards.give_guards c.args.machine c.args.zone) (changes.written c.args.machine (Give c.args.zone))) (sym (c.require_party.ensures.stranger c.args.word)) (ap went_on c.in_ok-party.was)) c.require_running.ensures c.in_err-require_running.was c.from_residual-in_err-require_running.ensures.1

pub returns-in_err-require_held_and_clear : goal.returns-in_err-require_held_and_clear
returns-in_err-require_held_and_clear c = refused_by (past (past (by_counts c.args.word (1 ∷ 1 ∷ 3 ∷ 4 ∷ []) (guards.give_guards c.args.machine c.args.zone) (changes.written c.args.machine (Give c.args.zone))) (sym (c.require_party.ensures.stranger c.args.word)) (ap went_on c.in_ok-party.was)) c.require_running.ensures c.in_ok-require_running.was) (held_and_clear_as c.args.word c.args.machine c.args.zone c.in_ok-party.party c.in_ok-party.ensures.party c.require_held_and_clear.ensures) c.in_err-require_held_and_clear.was c.from_residual-in_err-require_held_and_clear.ensures.1

pub returns-in_err-row : goal.returns-in_err-row
returns-in_err-row c = refused_by (past (past (past (by_counts c.args.word (1 ∷ 1 ∷ 3 ∷ 4 ∷ []) (guards.give_guards c.args.machine c.args.zone) (changes.written c.args.machine (Give c.args.zone))) (sym (c.require_party.ensures.stranger c.args.word)) (ap went_on c.in_ok-party.was)) c.require_running.ensures c.in_ok-require_running.was) (held_and_clear_as c.args.word c.args.machine c.args.zone c.in_ok-party.party c.in_ok-party.ensures.party c.require_held_and_clear.ensures) c.in_ok-require_held_and_clear.was) (sym (ap (λ m. checked c.args.word (map (guards.wrong_way m c.args.zone) all_postures)) c.in_ok-party.ensures.party ∙ c.require_giving.ensures.way)) (ap went_on c.in_err-row.was) c.from_residual-in_err-row.ensures.1

pub returns-in_err-require_movable : goal.returns-in_err-require_movable
returns-in_err-require_movable c = refused_by (past (past (past (past (by_counts c.args.word (1 ∷ 1 ∷ 3 ∷ 4 ∷ []) (guards.give_guards c.args.machine c.args.zone) (changes.written c.args.machine (Give c.args.zone))) (sym (c.require_party.ensures.stranger c.args.word)) (ap went_on c.in_ok-party.was)) c.require_running.ensures c.in_ok-require_running.was) (held_and_clear_as c.args.word c.args.machine c.args.zone c.in_ok-party.party c.in_ok-party.ensures.party c.require_held_and_clear.ensures) c.in_ok-require_held_and_clear.was) (sym (ap (λ m. checked c.args.word (map (guards.wrong_way m c.args.zone) all_postures)) c.in_ok-party.ensures.party ∙ c.require_giving.ensures.way)) (ap went_on c.in_ok-row.was)) (by_row c.args.word (ap (λ m. guards.row_given m c.args.zone) c.in_ok-party.ensures.party ∙ c.in_ok-row.ensures.row) c.require_movable.ensures) c.in_err-require_movable.was c.from_residual-in_err-require_movable.ensures.1

pub returns : goal.returns
returns c =
    let z = c.args.zone in
    let party = c.in_ok-party.ensures.party in
    ends (past (past (past (past (past (by_counts c.args.word (1 ∷ 1 ∷ 3 ∷ 4 ∷ []) (guards.give_guards c.args.machine c.args.zone) (changes.written c.args.machine (Give c.args.zone))) (sym (c.require_party.ensures.stranger c.args.word)) (ap went_on c.in_ok-party.was)) c.require_running.ensures c.in_ok-require_running.was) (held_and_clear_as c.args.word c.args.machine c.args.zone c.in_ok-party.party c.in_ok-party.ensures.party c.require_held_and_clear.ensures) c.in_ok-require_held_and_clear.was) (sym (ap (λ m. checked c.args.word (map (guards.wrong_way m c.args.zone) all_postures)) c.in_ok-party.ensures.party ∙ c.require_giving.ensures.way)) (ap went_on c.in_ok-row.was)) (by_row c.args.word (ap (λ m. guards.row_given m c.args.zone) c.in_ok-party.ensures.party ∙ c.in_ok-row.ensures.row) c.require_movable.ensures) c.in_ok-require_movable.was) (ap Ok (c.give_pattern.ensures ∙ ap (changes.give_pattern (machine_of z c.in_ok-party.party) z) (sym c.in_ok-row.ensures.row) ∙ ap (λ m. changes.give_pattern m z (guards.row_given m z)) (sym party)))
