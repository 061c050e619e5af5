-- The watch's program meets the rows of the examples.
use Rattle.cell_plant.proofs.Names.{◌≡◌, Bool, true, if◌then◌else◌, Some, refl, arith, is_inquiry, stays_never, WatchRowsAreMet}
use Rattle.cell_types.specs.declared.call.Call.TheVariants.{Stop, Resume}

no_inquiry : (stopped : Bool) → is_inquiry (Some (if stopped then Resume else Stop)) ≡ true → ⊥
no_inquiry stopped e = grind arith

pub watch_rows : WatchRowsAreMet
watch_rows = record {
  whose = refl;
  starts = λ s. refl;
  stops = record { asks = refl; stays = stays_never; leads = refl };
  resumes = record { asks = refl; stays = stays_never; leads = refl };
  checks = record { says = refl; says_only = λ other e. e };
  no_other_answers = record { not_done = λ p e. absurd (no_inquiry p.has_stopped e); not_shown = λ p owner flag posture e. refl; not_refused = λ p r e. cc };
}
