use Rattle.std.proofs.Common.{rules, subst}
use Rattle.cell_interlock.specs.Calls.{IsStampedAfter}
use Rattle.interlock_tests.specs.Letters.{StampedView}
use Rattle.interlock_tests.proofs.Hearing.{stamped_later, stamp_told}
use Rattle.interlock_tests.proofs.interlock.ring.answer_letter.Goals as goal

pub returns-clause-stamp : goal.returns-clause-stamp
returns-clause-stamp g c = stamp_told _ _ _ _ _ _ _ c.ask.ensures.seen c.ask.ensures.pass.opening

pub returns-clause-after_letter : goal.returns-clause-after_letter
returns-clause-after_letter g c =
    subst (λ (l : StampedView). IsStampedAfter l.stamp c.ask.result) c.letter.view_is
    (stamped_later c.letter.inside.receipt c.letter.inside.stamp _ _ _ _ _ (search rules) (search rules) c.accept.ensures.told c.accept.ensures.more c.ask.ensures.seen c.ask.ensures.lawful)
