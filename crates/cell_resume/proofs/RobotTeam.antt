-- What the robot knows at its step tells that it is in step, and the other way round.
use Rattle.cell_resume.proofs.Names.{◌≡◌, Bool, true, refl, ◌∙◌, false, if◌then◌else◌, Option, Some, eqb-true, eq-eqb, Machine, Robot, Arm1, Arm2, Posture, OpenIn, ModelState, is_full, one_if, same_flag, and_left, and_right, and_both, RobotScales, RobotGauges, choice, row_at, step_after_inquiry, notes_at, robot_start, after_done, is_done, robot_steps, RobotStep, RobotNotes, RobotProgress, KnowingMore, one_flag, own_flag}
use Rattle.cell_robot.specs.declared.robot.RobotStep.TheVariants.{TurnToTable, AwaitPlate, GripPlate, ReleaseTable, TurnToLoad, InspectPress, DropInPress, GiveToPress, TurnToUnload, AwaitForged, GripForged, ReleaseUnloaded, TurnToDeposit, DropOnDeposit, GiveToDeposit}
use Rattle.cell_robot.proofs.lemmas.RobotFacts.{RobotKnows}
use Rattle.cell_team.proofs.lemmas.RobotTeam as team
use Rattle.cell_control.specs.Keeping.{are_kept}
use Rattle.cell_control.proofs.lemmas.SharedZones.{all_kept_of, of_all_kept}
use Rattle.cell_robot.specs.RobotKeeps.{zones_at, has_plates, in_step, inside, magnet1_at, magnet2_at, is_noted}
use Rattle.cell_resume.proofs.RobotResumes.{robot_resumable}

-- ---- the magnets

abbrev pub MagnetsSo : RobotProgress → ModelState → Type 0
MagnetsSo p z = (magnet1_at p.step p.notes.arm1 ≡ p.magnets.arm1) × (magnet2_at p.step p.notes.arm2 ≡ p.magnets.arm2)

-- at the first step of a group the magnets are those of the loaded arms
chosen : (first second fed a : Bool) → (magnet1_at (if second then TurnToDeposit else (if fed then TurnToUnload else (if first then TurnToLoad else TurnToTable))) a ≡ a)
    × (magnet2_at (if second then TurnToDeposit else (if fed then TurnToUnload else (if first then TurnToLoad else TurnToTable))) a ≡ a)
chosen first true fed a = (refl, refl)
chosen first false true a = (refl, refl)
chosen true false false a = (refl, refl)
chosen false false false a = (refl, refl)

grouped : (notes : RobotNotes) (first second : Bool) → (notes.arm1 ≡ first) → (notes.arm2 ≡ second) → (magnet1_at (choice notes) notes.arm1 ≡ first) × (magnet2_at (choice notes) notes.arm2 ≡ second)
grouped notes first second e f = ((chosen notes.arm1 notes.arm2 notes.fed notes.arm1).0 ∙ e, (chosen notes.arm1 notes.arm2 notes.fed notes.arm2).1 ∙ f)

abbrev Next : RobotStep → RobotProgress → Type 0
Next s p =
    magnet1_at s p.notes.arm1 ≡ p.magnets.arm1 → magnet2_at s p.notes.arm2 ≡ p.magnets.arm2
    → (magnet1_at (row_at s p).next.step (row_at s p).next.notes.arm1 ≡ (row_at s p).next.magnets.arm1)
    × (magnet2_at (row_at s p).next.step (row_at s p).next.notes.arm2 ≡ (row_at s p).next.magnets.arm2)

next_magnets : (s : RobotStep) (p : RobotProgress) → Next s p
next_magnets GripPlate p = λ k h. (refl, h)
next_magnets ReleaseTable p = λ k h. grouped (row_at ReleaseTable p).next.notes _ _ k h
next_magnets DropInPress p = λ k h. (refl, h)
next_magnets GiveToPress p = λ k h. grouped (row_at GiveToPress p).next.notes _ _ k h
next_magnets GripForged p = λ k h. (k, refl)
next_magnets ReleaseUnloaded p = λ k h. grouped (row_at ReleaseUnloaded p).next.notes _ _ k h
next_magnets DropOnDeposit p = λ k h. (k, refl)
next_magnets GiveToDeposit p = λ k h. grouped (row_at GiveToDeposit p).next.notes _ _ k h
next_magnets _ p = λ k h. (k, h)

drive_magnets : (b : Bool) (p : RobotProgress) (z : ModelState) → MagnetsSo p z → MagnetsSo (if b then after_done p else p) z
drive_magnets true p z k = next_magnets p.step p k.0 k.1
drive_magnets false p z k = k

looked : (s : RobotStep) (o : Option Machine) (f : Bool) (q : Posture) (a : Bool) → (magnet1_at (step_after_inquiry s o f q) a ≡ magnet1_at s a) × (magnet2_at (step_after_inquiry s o f q) a ≡ magnet2_at s a)
looked AwaitPlate (Some Robot) true q a = (refl, refl)
looked AwaitPlate o f q a = (refl, refl)
looked InspectPress o f OpenIn a = (refl, refl)
looked InspectPress o f q a = (refl, refl)
looked AwaitForged (Some Robot) true q a = (refl, refl)
looked AwaitForged o f q a = (refl, refl)
looked s o f q a = (refl, refl)

pub magnets_kept : (points : RobotScales) (gives : RobotGauges) → KnowingMore (robot_steps points gives) RobotKnows MagnetsSo
magnets_kept points gives = record {
  foreign = λ p z n c apart sound polite k. k;
  after_drive = λ p r act z e d k. drive_magnets (is_done p.step r.retracted act) p z k;
  after_done = λ p z c e d sound f k. next_magnets p.step p k.0 k.1;
  after_inquiry = λ p z c o f q e d sound knows k. ((looked p.step o f q p.notes.arm1).0 ∙ k.0, (looked p.step o f q p.notes.arm2).1 ∙ k.1);
}

pub magnets_begin : (z : ModelState) → MagnetsSo (robot_start z) z
magnets_begin z = grouped (notes_at z) _ _ refl refl

-- ---- both ways

pub robot_knows : (points : RobotScales) (gives : RobotGauges) → (p : RobotProgress) (z : ModelState) → in_step p z ≡ true → RobotKnows p z × team.RobotMore p z
robot_knows points gives p z e =
    let rest = and_right (are_kept (zones_at p.step) Robot z) _ e in
    let more = and_right (has_plates p.step p.notes.arm1 p.notes.arm2 p.notes.fed) _ rest in
    let noted = and_left _ _ more in
    let arms = and_right (same_flag (is_full z Arm1) p.notes.arm1) _ noted in
    ((robot_resumable points gives).enters p z e, record { shares = (all_kept_of (zones_at p.step) Robot z (and_left _ _ e)).1; plates = and_left _ _ rest; noted = record { arm1 = one_flag _ _ (and_left _ _ noted); arm2 = one_flag _ _ (and_left _ _ arms); press = eqb-true (inside z) (one_if p.notes.fed) (and_right (same_flag (is_full z Arm2) p.notes.arm2) _ arms) } })

pub robot_magnets : (p : RobotProgress) (z : ModelState) → in_step p z ≡ true → MagnetsSo p z
robot_magnets p z e =
    let m = and_right (is_noted p.notes z) _ (and_right (has_plates p.step p.notes.arm1 p.notes.arm2 p.notes.fed) _ (and_right (are_kept (zones_at p.step) Robot z) _ e)) in
    (one_flag _ _ (and_left _ _ m), one_flag _ _ (and_right (same_flag (magnet1_at p.step p.notes.arm1) p.magnets.arm1) _ m))

pub robot_stands : (p : RobotProgress) (z : ModelState) → RobotKnows p z × team.RobotMore p z → MagnetsSo p z → in_step p z ≡ true
robot_stands p z k m =
    and_both _ _ (of_all_kept (zones_at p.step) Robot z k.0 k.1.shares)
    (and_both _ _ k.1.plates
    (and_both _ _
    (and_both _ _ (own_flag _ _ k.1.noted.arm1) (and_both _ _ (own_flag _ _ k.1.noted.arm2) (eq-eqb (inside z) (one_if p.notes.fed) k.1.noted.press)))
    (and_both _ _ (own_flag _ _ m.0) (own_flag _ _ m.1))))
