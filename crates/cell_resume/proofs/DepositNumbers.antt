-- The number of a step of the deposit belt leads back to the step, with its notes.
use Rattle.cell_resume.proofs.Names.{◌≡◌, Deposit, Bool, true, Some, ap, ◌∙◌, option_map, DepEntry, DepEnd, ModelState, is_full, same_flag, and_left, and_right, DepositStep, DepositProgress, one_flag}
use Rattle.cell_control.specs.Keeping.{are_kept}
use Rattle.cell_belts_crane.specs.BeltShares.{are_there}
use Rattle.cell_belts_crane.specs.DepositProgram.{number_at, keeps_at, zones_at, in_step}
use Rattle.cell_belts_crane.proofs.lemmas.StepNumbers.{deposit_found}
use Rattle.cell_resume.specs.DepositKeeps.{progress_at}

abbrev noted : DepositStep → Bool → Bool → DepositProgress
noted step entry last = record { step = step; entry = entry; last = last }

pub leads_back : (p : DepositProgress) (z : ModelState) → in_step p z ≡ true → progress_at (number_at p.step) z ≡ Some p
leads_back p z e =
    let notes = and_right (are_there (keeps_at p.step).plates p.entry p.last) _ (and_right (are_kept (zones_at p.step) Deposit z) _ e) in
    ap (option_map (λ s. noted s (is_full z DepEntry) (is_full z DepEnd))) (deposit_found p.step)
    ∙ ap (λ b. Some (noted p.step b (is_full z DepEnd))) (one_flag _ _ (and_left _ _ notes))
    ∙ ap (λ b. Some (noted p.step p.entry b)) (one_flag _ _ (and_right (same_flag (is_full z DepEntry) p.entry) _ notes))
