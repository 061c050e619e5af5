-- The crane may go on at each step that is in step with a state.
use Rattle.cell_resume.proofs.Names.{ℕ, ℤ, Crane, Scale, and_left, crane_steps, IsResumable}
use Rattle.cell_control.proofs.lemmas.SharedZones.{all_kept_of}
use Rattle.cell_belts_crane.specs.CraneProgram.{zones_at, in_step}
use Rattle.cell_belts_crane.proofs.lemmas.CraneFacts.{CraneKnows, crane-knowing, crane_begins, holds_at}

pub crane_resumable : (points : Scale) (gives : ℕ → ℤ → Type 0) → IsResumable (crane_steps points gives) in_step CraneKnows
crane_resumable points gives = record {
  begins = crane_begins;
  enters = λ p z e. (all_kept_of (zones_at p.step) Crane z (and_left _ _ e)).0;
  knowing = crane-knowing points gives;
  demands = λ p reading act opening seen asks drives sound legal k on. holds_at p.step opening seen legal k;
}
