use Rattle.cell_word.proofs.Names.{[], ◌∷◌}
use Rattle.cell_word.specs.Guards as guards
use Rattle.cell_word.proofs.Trying.{by_parts_to, ends, past, refused_by}
use Rattle.cell_word.proofs.guards.require_held_and_clear.Goals as goal

pub returns-in_err-require_held : goal.returns-in_err-require_held
returns-in_err-require_held c = refused_by (by_parts_to c.args.at.word (guards.held_guards c.args.at.zone c.args.party ∷ []) (guards.plate_in c.args.at.zone ∷ [])) c.require_held.ensures c.in_err-require_held.was c.from_residual.ensures.1

pub returns : goal.returns
returns c = ends (past (by_parts_to c.args.at.word (guards.held_guards c.args.at.zone c.args.party ∷ []) (guards.plate_in c.args.at.zone ∷ [])) c.require_held.ensures c.in_ok-require_held.was) c.require_clear.ensures
