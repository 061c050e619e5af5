use Rattle.std.proofs.Common.{refl}
use Rattle.plan_cell_motors.proofs.causes_are_right.Goals as goal

pub returns : goal.returns
returns c = record { press_arm1 = refl; press_arm2 = refl; height_arm1 = refl; rotation_arm1 = refl; deposit_arm2 = refl; deposit_gripper = refl; feed_gripper = refl; full_feed_gripper = refl; full_feed_height = refl; full_feed_rotation = refl; arms_in_press = refl; feed_height = refl; rotation_arm = refl }
