use Rattle.plan_words.proofs.WordNumbers.{no_zone_row, no_pose_row, no_place_row}
use Rattle.plan_words.proofs.words.Words.row.Goals as goal

pub returns-in-SetPose-clause-none : goal.returns-in-SetPose-clause-none
returns-in-SetPose-clause-none c = λ n. no_pose_row c.args.self.now c.args.call c.from.result c.in-SetPose.pose c.from.ensures (c.pose.ensures.none n) c.in-SetPose.is

pub returns-in-Advance-clause-none : goal.returns-in-Advance-clause-none
returns-in-Advance-clause-none c = λ n. no_place_row c.args.self.now c.args.call c.from-in-Advance.result c.in-Advance.place c.from-in-Advance.ensures (c.place.ensures.none n) c.in-Advance.is

pub returns-in-Claim-clause-none : goal.returns-in-Claim-clause-none
returns-in-Claim-clause-none c = λ n. no_zone_row c.args.self.now c.args.call c.from-in-Claim.result c.in-Claim.zone c.from-in-Claim.ensures (c.zone.ensures.none n) c.in-Claim.is
