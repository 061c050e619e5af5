use Rattle.cell_word.proofs.Names.{[], ◌∷◌, Moving}
use Rattle.cell_word.specs.Guards as guards
use Rattle.cell_word.proofs.Trying.{by_parts_to, ends, past, refused_by}
use Rattle.cell_word.proofs.guards.require_leavable.Goals as goal

pub returns-in_err-require_not_in : goal.returns-in_err-require_not_in
returns-in_err-require_not_in c = refused_by (by_parts_to c.args.at.word ((guards.shut c.args.at.zone Moving ∷ []) ∷ (guards.in_use c.args.machine c.args.at.zone ∷ []) ∷ []) (guards.worn ∷ [])) c.require_not_in.ensures c.in_err-require_not_in.was c.from_residual.ensures.1

pub returns-in_err-require_not_in_use : goal.returns-in_err-require_not_in_use
returns-in_err-require_not_in_use c = refused_by (past (by_parts_to c.args.at.word ((guards.shut c.args.at.zone Moving ∷ []) ∷ (guards.in_use c.args.machine c.args.at.zone ∷ []) ∷ []) (guards.worn ∷ [])) c.require_not_in.ensures c.in_ok-require_not_in.was) c.require_not_in_use.ensures c.in_err-require_not_in_use.was c.from_residual-in_err-require_not_in_use.ensures.1

pub returns : goal.returns
returns c = ends (past (past (by_parts_to c.args.at.word ((guards.shut c.args.at.zone Moving ∷ []) ∷ (guards.in_use c.args.machine c.args.at.zone ∷ []) ∷ []) (guards.worn ∷ [])) c.require_not_in.ensures c.in_ok-require_not_in.was) c.require_not_in_use.ensures c.in_ok-require_not_in_use.was) c.require_stamp.ensures
