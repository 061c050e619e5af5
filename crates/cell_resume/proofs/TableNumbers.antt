-- The number of a step of the table leads back to the step, with its notes.
use Rattle.cell_resume.proofs.Names.{◌≡◌, Bool, true, Some, ap, ◌∙◌, option_map, ModelState, is_full, and_right, TableStep, TableProgress, one_flag}
use Rattle.cell_types.specs.declared.machine.Machine.TheVariants.{Table as TableMachine}
use Rattle.cell_types.specs.declared.place.Place.TheVariants.{Table as OnTable}
use Rattle.cell_control.specs.Keeping.{are_kept}
use Rattle.cell_table_press.specs.TableProgram.{number_at, keeps_at, zones_at, is_there, in_step}
use Rattle.cell_table_press.proofs.lemmas.StepNumbers.{table_found}
use Rattle.cell_resume.specs.TableKeeps.{progress_at}

abbrev noted : TableStep → Bool → TableProgress
noted step loaded = record { step = step; loaded = loaded }

pub leads_back : (p : TableProgress) (z : ModelState) → in_step p z ≡ true → progress_at (number_at p.step) z ≡ Some p
leads_back p z e =
    let notes = and_right (is_there (keeps_at p.step).plate p.loaded) _ (and_right (are_kept (zones_at p.step) TableMachine z) _ e) in
    ap (option_map (λ s. noted s (is_full z OnTable))) (table_found p.step)
    ∙ ap (λ b. Some (noted p.step b)) (one_flag _ _ notes)
