-- The press may go on at each step that is in step with a state.
use Rattle.cell_resume.proofs.Names.{Press, Z3, Moving, after, and_left, seen_held, seen_in, press_steps, IsResumable}
use Rattle.cell_control.proofs.lemmas.SharedZones.{all_kept_of}
use Rattle.cell_table_press.specs.PressProgram.{zones_at, in_step}
use Rattle.cell_table_press.proofs.lemmas.PressFacts.{PressKnows, press-knowing, press_begins, drives_at}

pub press_resumable : IsResumable press_steps in_step PressKnows
press_resumable = record {
  begins = press_begins;
  enters = λ p z e. (all_kept_of (zones_at p.step) Press z (and_left _ _ e)).0;
  knowing = press-knowing;
  demands = λ p reading act opening seen asks drives sound legal k on.
      let at = drives_at p.step p (after opening seen) asks k in
      (seen_held opening seen Press Z3 legal at.0, seen_in opening seen Z3 Moving legal at.1);
}
