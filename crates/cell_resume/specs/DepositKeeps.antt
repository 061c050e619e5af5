-- The deposit belt's step by its number, and the step that is in step with a state.
use Rattle.std.specs.Prelude.{ℕ, Option, option_map, slice_get}
use Rattle.cell_rules.specs.Types.{DepEntry, DepEnd}
use Rattle.cell_rules.specs.Names.{ModelState, is_full}
use Rattle.cell_belts_crane.specs.declared.deposit.DepositProgress.{DepositProgress}
pub use Rattle.cell_belts_crane.specs.DepositProgram.{in_step, steps}

-- the step with this number, and its notes by the state
abbrev pub progress_at : ℕ → ModelState → Option DepositProgress
progress_at number s =
    option_map (λ step. record { step = step; entry = is_full s DepEntry; last = is_full s DepEnd })
    (slice_get steps number)
