use Rattle.cell_word.proofs.Names.{Advance, Stop, Resume}
use Rattle.cell_word.proofs.After.{room_of, after_of}
use Rattle.cell_word.proofs.step.word_after.Goals as goal

pub word_after_check-requires : goal.word_after_check-requires
word_after_check-requires c = record { room = room_of c.args.word c.requires c.args.machine Advance (λ z e. cc) c.advance.ensures }

pub returns-in-Advance : goal.returns-in-Advance
returns-in-Advance c = after_of c.args.word c.args.machine Advance c.in-Advance.is (λ z e. cc) c.advance.ensures c.word_after_check.ensures

pub word_after_check-requires-in-Stop : goal.word_after_check-requires-in-Stop
word_after_check-requires-in-Stop c = record { room = room_of c.args.word c.requires c.args.machine Stop (λ z e. cc) c.stop.ensures }

pub returns-in-Stop : goal.returns-in-Stop
returns-in-Stop c = after_of c.args.word c.args.machine Stop c.in-Stop.is (λ z e. cc) c.stop.ensures c.word_after_check-in-Stop.ensures

pub word_after_check-requires-in-Resume : goal.word_after_check-requires-in-Resume
word_after_check-requires-in-Resume c = record { room = room_of c.args.word c.requires c.args.machine Resume (λ z e. cc) c.resume.ensures }

pub returns-in-Resume : goal.returns-in-Resume
returns-in-Resume c = after_of c.args.word c.args.machine Resume c.in-Resume.is (λ z e. cc) c.resume.ensures c.word_after_check-in-Resume.ensures
