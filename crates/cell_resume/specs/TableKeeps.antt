-- The table's step by its number, and the step that is in step with a state.
use Rattle.std.specs.Prelude.{ℕ, Option, option_map, slice_get}
use Rattle.cell_types.specs.declared.place.Place.TheVariants.{Table as OnTable}
use Rattle.cell_rules.specs.Names.{ModelState, is_full}
use Rattle.cell_table_press.specs.declared.table.TableProgress.{TableProgress}
pub use Rattle.cell_table_press.specs.TableProgram.{in_step, steps}

-- the step with this number, and its notes by the state
abbrev pub progress_at : ℕ → ModelState → Option TableProgress
progress_at number s =
    option_map (λ step. record { step = step; loaded = is_full s OnTable })
    (slice_get steps number)
