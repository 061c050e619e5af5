-- The crane's step by its number, and the step that is in step with a state.
use Rattle.std.specs.Prelude.{ℕ, Option, option_map, slice_get}
use Rattle.cell_belts_crane.specs.declared.crane.CraneProgress.{CraneProgress}
use Rattle.cell_belts_crane.specs.CraneProgram.{keeps_at}
pub use Rattle.cell_belts_crane.specs.CraneProgram.{in_step, steps}

-- the step with this number, and its note
abbrev pub progress_at : ℕ → Option CraneProgress
progress_at number =
    option_map (λ step. record { step = step; magnet = (keeps_at step).magnet }) (slice_get steps number)
