-- What `plan check` says of the rows of masks that a plan is compiled into.
use Rattle.std.specs.Prelude.{ℕ, Bool, List, if◌then◌else◌}
use Rattle.std.specs.List.{All}
use Rattle.plan_types.specs.Table.{PlanTable}
use Rattle.plan_compiled.specs.Complete.{IsComplete}
use Rattle.plan_compiled.specs.Rows.{IsRight}
use Rattle.plan_compiled.specs.declared.row.Row.{Row}
use Rattle.plan_text.specs.Names.{Text}
use Rattle.plan_app.specs.declared.rows.TheConstants.{EVERY_ROW, NOT_EVERY_ROW}

-- each call that is done, in each state of the plan with a stamp left, has its row, and these rows are right
unfoldable pub HasEveryRow : PlanTable → Type 0
HasEveryRow t = (rows : List Row) × (starts : List ℕ) × All (IsRight t) rows × IsComplete t rows starts

-- what is said if it is known that they have, and if it isn't
abbrev pub rows_line : Bool → Text
rows_line every = if every then EVERY_ROW.now else NOT_EVERY_ROW.now
