use Rattle.std.proofs.Common.{rules}
use Rattle.interlock_tests.proofs.Hearing.{comes_later}
use Rattle.interlock_tests.proofs.interlock.letters.hear_and_call.Goals as goal

pub returns : goal.returns
returns g c = record { order = comes_later _ c.letter.inside.receipt.seen _ _ _ _ _ (search rules) c.accept.ensures.told c.accept.ensures.more c.ask-reply.ensures.seen }
