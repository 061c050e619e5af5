use Rattle.cell_word.proofs.Names.{Ok, [], ◌∷◌, ap, Deposit, Advance, written}
use Rattle.cell_word.specs.Guards as guards
use Rattle.cell_word.proofs.Trying.{by_counts, ends, past, refused_by}
use Rattle.cell_word.proofs.pose_guards.advance_deposit.Goals as goal

pub returns-in_err-require_in : goal.returns-in_err-require_in
returns-in_err-require_in c = refused_by (by_counts c.args.word (2 ∷ 2 ∷ []) (guards.advance_guards Deposit) (written Deposit Advance)) c.require_in.ensures c.in_err-require_in.was c.from_residual.ensures.1

pub returns-in_err-require_in-2 : goal.returns-in_err-require_in-2
returns-in_err-require_in-2 c = refused_by (past (by_counts c.args.word (2 ∷ 2 ∷ []) (guards.advance_guards Deposit) (written Deposit Advance)) c.require_in.ensures c.in_ok-require_in.was) c.require_in-2.ensures c.in_err-require_in-2.was c.from_residual-in_err-require_in-2.ensures.1

pub returns-in_err-require_movable : goal.returns-in_err-require_movable
returns-in_err-require_movable c = refused_by (past (past (by_counts c.args.word (2 ∷ 2 ∷ []) (guards.advance_guards Deposit) (written Deposit Advance)) c.require_in.ensures c.in_ok-require_in.was) c.require_in-2.ensures c.in_ok-require_in-2.was) c.require_movable.ensures c.in_err-require_movable.was c.from_residual-in_err-require_movable.ensures.1

pub returns : goal.returns
returns c = ends (past (past (past (by_counts c.args.word (2 ∷ 2 ∷ []) (guards.advance_guards Deposit) (written Deposit Advance)) c.require_in.ensures c.in_ok-require_in.was) c.require_in-2.ensures c.in_ok-require_in-2.was) c.require_movable.ensures c.in_ok-require_movable.was) (ap Ok c.advance_pattern.ensures)
