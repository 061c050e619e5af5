use Rattle.std.proofs.Common.{rules}
use Rattle.six_by_hand.proofs.main.Goals as goal

pub drive-requires-clause-arm1 : goal.drive-requires-clause-arm1
drive-requires-clause-arm1 c κs within = record { callable = λ raw low high _ _ _ _ _. (low, high); near = λ raw low high v k. search rules }

pub drive-requires-clause-arm2 : goal.drive-requires-clause-arm2
drive-requires-clause-arm2 c κs within = record { callable = λ raw low high _ _ _ _ _. (low, high); near = λ raw low high v k. search rules }

pub drive-requires-clause-rotation : goal.drive-requires-clause-rotation
drive-requires-clause-rotation c κs within = record { callable = λ raw low high _ _ _ _ _. (low, high); near = λ raw low high v k. search rules }

pub drive-requires-clause-turn : goal.drive-requires-clause-turn
drive-requires-clause-turn c κs within = record { callable = λ raw low high _ _ _ _ _. (low, high); near = λ raw low high v k. search rules }

pub drive-requires-clause-gripper : goal.drive-requires-clause-gripper
drive-requires-clause-gripper c κs within = record { callable = λ raw low high _ _ _ _ _. (low, high); near = λ raw low high v k. search rules }
