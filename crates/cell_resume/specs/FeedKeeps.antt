-- The feed belt's step by its number, and the step that is in step with a state.
use Rattle.std.specs.Prelude.{ℕ, Option, option_map, slice_get}
use Rattle.cell_rules.specs.Types.{FeedEntry, FeedEnd}
use Rattle.cell_rules.specs.Names.{ModelState, is_full}
use Rattle.cell_belts_crane.specs.declared.feed.FeedProgress.{FeedProgress}
pub use Rattle.cell_belts_crane.specs.FeedProgram.{in_step, steps}

-- the step with this number, and its notes by the state
abbrev pub progress_at : ℕ → ModelState → Option FeedProgress
progress_at number s =
    option_map (λ step. record { step = step; entry = is_full s FeedEntry; last = is_full s FeedEnd })
    (slice_get steps number)
