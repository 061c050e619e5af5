-- The number of a step of the feed belt leads back to the step, with its notes.
use Rattle.cell_resume.proofs.Names.{◌≡◌, Feed, Bool, true, Some, ap, ◌∙◌, option_map, FeedEntry, FeedEnd, ModelState, is_full, same_flag, and_left, and_right, FeedStep, FeedProgress, one_flag}
use Rattle.cell_control.specs.Keeping.{are_kept}
use Rattle.cell_belts_crane.specs.BeltShares.{are_there}
use Rattle.cell_belts_crane.specs.FeedProgram.{number_at, keeps_at, zones_at, in_step}
use Rattle.cell_belts_crane.proofs.lemmas.StepNumbers.{feed_found}
use Rattle.cell_resume.specs.FeedKeeps.{progress_at}

abbrev noted : FeedStep → Bool → Bool → FeedProgress
noted step entry last = record { step = step; entry = entry; last = last }

pub leads_back : (p : FeedProgress) (z : ModelState) → in_step p z ≡ true → progress_at (number_at p.step) z ≡ Some p
leads_back p z e =
    let notes = and_right (are_there (keeps_at p.step).plates p.entry p.last) _ (and_right (are_kept (zones_at p.step) Feed z) _ e) in
    ap (option_map (λ s. noted s (is_full z FeedEntry) (is_full z FeedEnd))) (feed_found p.step)
    ∙ ap (λ b. Some (noted p.step b (is_full z FeedEnd))) (one_flag _ _ (and_left _ _ notes))
    ∙ ap (λ b. Some (noted p.step p.entry b)) (one_flag _ _ (and_right (same_flag (is_full z FeedEntry) p.entry) _ notes))
