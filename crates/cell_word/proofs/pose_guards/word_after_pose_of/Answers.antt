use Rattle.cell_word.proofs.Names.{refl, SetPose}
use Rattle.cell_word.proofs.After.{room_of, after_of}
use Rattle.cell_word.proofs.pose_guards.word_after_pose_of.Goals as goal

pub word_after_check-requires : goal.word_after_check-requires
word_after_check-requires g c = record { room = room_of c.args.word c.requires g.H.Host.MACHINE (SetPose c.args.pose) (λ z e. cc) c.set_pose_of.ensures }

pub returns : goal.returns
returns g c = after_of c.args.word g.H.Host.MACHINE (SetPose c.args.pose) refl (λ z e. cc) c.set_pose_of.ensures c.word_after_check.ensures
