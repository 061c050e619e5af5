use Rattle.cell_types.proofs.WordLemmas.{pose_read}
use Rattle.cell_types.proofs.pose.Pose.read.Goals as goal

pub returns : goal.returns
returns c = λ pose. rw c.find_by_word.ensures (pose_read c.args.word.now pose)
