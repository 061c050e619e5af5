use Rattle.cell_word.proofs.Names.{refl, Claim}
use Rattle.cell_word.proofs.After.{room_of, after_of}
use Rattle.cell_word.proofs.step.word_after_claim.Goals as goal

pub word_after_check-requires : goal.word_after_check-requires
word_after_check-requires c = record { room = room_of c.args.word c.requires c.args.machine (Claim c.args.zone) (λ z e. cc) c.claim.ensures }

pub returns : goal.returns
returns c = after_of c.args.word c.args.machine (Claim c.args.zone) refl (λ z e. cc) c.claim.ensures c.word_after_check.ensures
