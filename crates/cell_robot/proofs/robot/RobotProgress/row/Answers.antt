use Rattle.std.proofs.Common.{◌≡◌, ◌∙◌, refl}
use Rattle.cell_robot.specs.Names.{row_at}
use Rattle.cell_robot.specs.declared.robot.RobotStep.{RobotStep}
use Rattle.cell_robot.specs.declared.robot.RobotStep.TheVariants.{TurnToTable, AwaitPlate, ReachTable, GripPlate, LeaveTable, TakePlate, ReleaseTable, TurnToLoad, ClaimPress, InspectPress, ReleasePress, ReachToLoad, DropInPress, LeaveLoaded, GiveToPress}
use Rattle.cell_robot.specs.declared.robot.RobotProgress.{RobotProgress}
use Rattle.cell_robot.specs.RobotProgram.{row_of_arm2}
use Rattle.cell_robot.proofs.robot.RobotProgress.row.Goals as goal

-- a step that isn't the first arm's has the row of the second arm's
of_arm2 : (s : RobotStep) (p : RobotProgress)
    → (s ≡ TurnToTable → ⊥) → (s ≡ AwaitPlate → ⊥) → (s ≡ ReachTable → ⊥) → (s ≡ GripPlate → ⊥) → (s ≡ LeaveTable → ⊥)
    → (s ≡ TakePlate → ⊥) → (s ≡ ReleaseTable → ⊥) → (s ≡ TurnToLoad → ⊥) → (s ≡ ClaimPress → ⊥) → (s ≡ InspectPress → ⊥)
    → (s ≡ ReleasePress → ⊥) → (s ≡ ReachToLoad → ⊥) → (s ≡ DropInPress → ⊥) → (s ≡ LeaveLoaded → ⊥) → (s ≡ GiveToPress → ⊥)
    → row_of_arm2 s p ≡ row_at s p
of_arm2 TurnToTable p a b c d e f g h i j k l m n o = absurd (a refl)
of_arm2 AwaitPlate p a b c d e f g h i j k l m n o = absurd (b refl)
of_arm2 ReachTable p a b c d e f g h i j k l m n o = absurd (c refl)
of_arm2 GripPlate p a b c d e f g h i j k l m n o = absurd (d refl)
of_arm2 LeaveTable p a b c d e f g h i j k l m n o = absurd (e refl)
of_arm2 TakePlate p a b c d e f g h i j k l m n o = absurd (f refl)
of_arm2 ReleaseTable p a b c d e f g h i j k l m n o = absurd (g refl)
of_arm2 TurnToLoad p a b c d e f g h i j k l m n o = absurd (h refl)
of_arm2 ClaimPress p a b c d e f g h i j k l m n o = absurd (i refl)
of_arm2 InspectPress p a b c d e f g h i j k l m n o = absurd (j refl)
of_arm2 ReleasePress p a b c d e f g h i j k l m n o = absurd (k refl)
of_arm2 ReachToLoad p a b c d e f g h i j k l m n o = absurd (l refl)
of_arm2 DropInPress p a b c d e f g h i j k l m n o = absurd (m refl)
of_arm2 LeaveLoaded p a b c d e f g h i j k l m n o = absurd (n refl)
of_arm2 GiveToPress p a b c d e f g h i j k l m n o = absurd (o refl)
of_arm2 _ p a b c d e f g h i j k l m n o = refl

pub returns-in_default : goal.returns-in_default
returns-in_default c =
    c.row_of_arm2.ensures
    ∙ of_arm2 c.args.self.step c.args.self c.in_default.not-TurnToTable c.in_default.not-AwaitPlate c.in_default.not-ReachTable c.in_default.not-GripPlate c.in_default.not-LeaveTable
    c.in_default.not-TakePlate c.in_default.not-ReleaseTable c.in_default.not-TurnToLoad c.in_default.not-ClaimPress c.in_default.not-InspectPress
    c.in_default.not-ReleasePress c.in_default.not-ReachToLoad c.in_default.not-DropInPress c.in_default.not-LeaveLoaded c.in_default.not-GiveToPress
