use Rattle.cell_word.proofs.Names.{sym, ap, ◌∙◌, subst, ◌+◌, ◌<◌, ◌^◌, IsTrue, has_call, IsOffStamp, packed, with_written}
use Rattle.cell_word.proofs.Changing.{done_written}
use Rattle.cell_word.proofs.Possible.{never_written, written_off, written_low}
use Rattle.cell_word.proofs.changes.masks.Goals as goal

pub returns-clause-change : goal.returns-clause-change
returns-clause-change c s sound done = done_written s sound c.args.machine c.args.call done ∙ ap (λ p. with_written (packed s) p.mask p.wanted + 2 ^ 40) (sym c.written_by-written.ensures)

pub returns-clause-off_stamp : goal.returns-clause-off_stamp
returns-clause-off_stamp c = subst (λ p. IsOffStamp p.mask × IsOffStamp p.wanted) (sym c.written_by-written.ensures) (written_off c.args.machine c.args.call)

pub returns-clause-below_stamp : goal.returns-clause-below_stamp
returns-clause-below_stamp c = subst (λ p. IsTrue (has_call c.args.call) → (p.mask < 2 ^ 40) × (p.wanted < 2 ^ 40)) (sym c.written_by-written.ensures) (written_low c.args.machine c.args.call)

pub returns-clause-never : goal.returns-clause-never
returns-clause-never c never = ap (λ p. (p.mask, p.wanted)) c.written_by-written.ensures ∙ never_written c.args.machine c.args.call never
