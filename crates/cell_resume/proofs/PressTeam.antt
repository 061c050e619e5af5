-- What the press knows at its step tells that it is in step, and the other way round.
use Rattle.cell_resume.proofs.Names.{◌≡◌, true, Press, PressIn, ModelState, is_full, same_flag, and_left, and_right, and_both, PressProgress, one_flag, own_flag}
use Rattle.cell_control.specs.Keeping.{are_kept}
use Rattle.cell_control.proofs.lemmas.SharedZones.{all_kept_of, of_all_kept}
use Rattle.cell_table_press.specs.PressProgram.{keeps_at, zones_at, are_there, in_step}
use Rattle.cell_table_press.proofs.lemmas.PressFacts.{PressKnows}
use Rattle.cell_team.proofs.lemmas.PressTeam as team
use Rattle.cell_resume.proofs.PressResumes.{press_resumable}

pub press_knows : (p : PressProgress) (z : ModelState) → in_step p z ≡ true → PressKnows p z × team.PressMore p z
press_knows p z e =
    let rest = and_right (are_kept (zones_at p.step) Press z) _ e in
    let noted = and_right (are_there (keeps_at p.step).plates p.loaded p.forged) _ rest in
    (press_resumable.enters p z e, record { shares = (all_kept_of (zones_at p.step) Press z (and_left _ _ e)).1; plates = and_left _ _ rest; in_noted = one_flag _ _ (and_left _ _ noted); out_noted = one_flag _ _ (and_right (same_flag (is_full z PressIn) p.loaded) _ noted) })

pub press_stands : (p : PressProgress) (z : ModelState) → PressKnows p z × team.PressMore p z → in_step p z ≡ true
press_stands p z k =
    and_both _ _ (of_all_kept (zones_at p.step) Press z k.0 k.1.shares) (and_both _ _ k.1.plates (and_both _ _ (own_flag _ _ k.1.in_noted) (own_flag _ _ k.1.out_noted)))
