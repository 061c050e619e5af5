-- The robot may go on at each step that is in step with a state.
use Rattle.cell_resume.proofs.Names.{Robot, and_left, RobotScales, RobotGauges, notes_at, robot_steps, IsResumable}
use Rattle.cell_control.proofs.lemmas.SharedZones.{all_kept_of}
use Rattle.cell_robot.specs.RobotKeeps.{zones_at, in_step}
use Rattle.cell_robot.proofs.lemmas.RobotFacts.{RobotKnows, robot-knowing, at_choice, first_holds, second_holds}

pub robot_resumable : (points : RobotScales) (gives : RobotGauges) → IsResumable (robot_steps points gives) in_step RobotKnows
robot_resumable points gives = record {
  begins = λ z. at_choice (notes_at z) z;
  enters = λ p z e. (all_kept_of (zones_at p.step) Robot z (and_left _ _ e)).0;
  knowing = robot-knowing points gives;
  demands = λ p reading act opening seen asks drives sound legal k. record { arm1 = λ on. first_holds p.step opening seen legal k; arm2 = λ on. second_holds p.step opening seen legal k };
}
