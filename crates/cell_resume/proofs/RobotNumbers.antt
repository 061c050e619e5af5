-- The number of a step of the robot leads back to the step, with its notes.
use Rattle.cell_resume.proofs.Names.{◌≡◌, Bool, true, Some, refl, ap, ◌∙◌, false, nat_eq, option_map, eqb-true, Robot, Arm1, Arm2, ModelState, is_full, one_if, same_flag, and_left, and_right, RobotStep, RobotProgress, RobotNotes, one_flag}
use Rattle.cell_control.specs.Keeping.{are_kept}
use Rattle.cell_robot.specs.declared.robot.RobotMagnets.{RobotMagnets}
use Rattle.cell_robot.specs.RobotKeeps.{number_at, zones_at, has_plates, inside, notes_of, magnet1_at, magnet2_at, magnets_at, is_noted, has_magnets, in_step, standing}
use Rattle.cell_robot.proofs.lemmas.StepNumbers.{robot_found}
use Rattle.cell_resume.specs.RobotKeeps.{progress_at}

abbrev notes_by : Bool → Bool → Bool → RobotNotes
notes_by arm1 arm2 fed = record { arm1 = arm1; arm2 = arm2; fed = fed }

abbrev magnets_by : Bool → Bool → RobotMagnets
magnets_by arm1 arm2 = record { arm1 = arm1; arm2 = arm2 }

abbrev stood : RobotStep → RobotNotes → RobotMagnets → RobotProgress
stood step notes magnets = record { step = step; notes = notes; magnets = magnets }

one_fed : (fed : Bool) → nat_eq (one_if fed) 1 ≡ fed
one_fed true = refl
one_fed false = refl

notes_are : (p : RobotProgress) (z : ModelState) → is_noted p.notes z ≡ true → notes_of z ≡ p.notes
notes_are p z e =
    let rest = and_right (same_flag (is_full z Arm1) p.notes.arm1) _ e in
    let fed = ap (λ n. nat_eq n 1) (eqb-true (inside z) (one_if p.notes.fed) (and_right (same_flag (is_full z Arm2) p.notes.arm2) _ rest)) ∙ one_fed p.notes.fed in
    ap (λ b. notes_by b (is_full z Arm2) (nat_eq (inside z) 1)) (one_flag _ _ (and_left _ _ e))
    ∙ ap (λ b. notes_by p.notes.arm1 b (nat_eq (inside z) 1)) (one_flag _ _ (and_left _ _ rest))
    ∙ ap (λ b. notes_by p.notes.arm1 p.notes.arm2 b) fed

magnets_are : (p : RobotProgress) → has_magnets p ≡ true → magnets_at p.step p.notes ≡ p.magnets
magnets_are p e =
    ap (λ b. magnets_by b (magnet2_at p.step p.notes.arm2)) (one_flag _ _ (and_left _ _ e))
    ∙ ap (λ b. magnets_by p.magnets.arm1 b) (one_flag _ _ (and_right (same_flag (magnet1_at p.step p.notes.arm1) p.magnets.arm1) _ e))

pub leads_back : (p : RobotProgress) (z : ModelState) → in_step p z ≡ true → progress_at (number_at p.step) z ≡ Some p
leads_back p z e =
    let rest = and_right (has_plates p.step p.notes.arm1 p.notes.arm2 p.notes.fed) _ (and_right (are_kept (zones_at p.step) Robot z) _ e) in
    ap (option_map (λ s. standing s z)) (robot_found p.step)
    ∙ ap (λ x. Some (stood p.step x (magnets_at p.step x))) (notes_are p z (and_left _ _ rest))
    ∙ ap (λ x. Some (stood p.step p.notes x)) (magnets_are p (and_right (is_noted p.notes z) _ rest))
