use Rattle.cell_word.proofs.Names.{[], ◌∷◌, sym, ap, ◌∙◌, Ok, Resume, written}
use Rattle.cell_word.specs.Guards as guards
use Rattle.cell_word.proofs.Trying.{by_counts, ends, past, refused_by}
use Rattle.cell_word.proofs.guards.resume.Goals as goal

pub returns-in_err-require_watch : goal.returns-in_err-require_watch
returns-in_err-require_watch c = refused_by (by_counts c.args.word (1 ∷ 1 ∷ []) (guards.resume_guards c.args.machine) (written c.args.machine Resume)) (c.require_watch.ensures.stranger c.args.word) c.in_err-require_watch.was c.from_residual.ensures.1

pub returns-in_err-require_stopped : goal.returns-in_err-require_stopped
returns-in_err-require_stopped c = refused_by (past (by_counts c.args.word (1 ∷ 1 ∷ []) (guards.resume_guards c.args.machine) (written c.args.machine Resume)) (c.require_watch.ensures.stranger c.args.word) c.in_ok-require_watch.was) c.require_stopped.ensures c.in_err-require_stopped.was c.from_residual-in_err-require_stopped.ensures.1

pub returns-in_err-require_stamp : goal.returns-in_err-require_stamp
returns-in_err-require_stamp c = refused_by (past (past (by_counts c.args.word (1 ∷ 1 ∷ []) (guards.resume_guards c.args.machine) (written c.args.machine Resume)) (c.require_watch.ensures.stranger c.args.word) c.in_ok-require_watch.was) c.require_stopped.ensures c.in_ok-require_stopped.was) c.require_stamp.ensures c.in_err-require_stamp.was c.from_residual-in_err-require_stamp.ensures.1

pub returns : goal.returns
returns c = ends (past (past (past (by_counts c.args.word (1 ∷ 1 ∷ []) (guards.resume_guards c.args.machine) (written c.args.machine Resume)) (c.require_watch.ensures.stranger c.args.word) c.in_ok-require_watch.was) c.require_stopped.ensures c.in_ok-require_stopped.was) c.require_stamp.ensures c.in_ok-require_stamp.was) (ap Ok (c.mark_pattern.ensures ∙ sym (ap (λ m. written m Resume) c.in_ok-require_watch.ensures.watch)))
