use Rattle.cell_word.proofs.Names.{refl, Release}
use Rattle.cell_word.proofs.After.{room_of, after_of}
use Rattle.cell_word.proofs.step.word_after_release.Goals as goal

pub word_after_check-requires : goal.word_after_check-requires
word_after_check-requires c = record { room = room_of c.args.word c.requires c.args.machine (Release c.args.zone) (λ z e. cc) c.release.ensures }

pub returns : goal.returns
returns c = after_of c.args.word c.args.machine (Release c.args.zone) refl (λ z e. cc) c.release.ensures c.word_after_check.ensures
