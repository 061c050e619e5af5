-- The refusals on which a step stays: a row for each thing that it may wait for.
use Rattle.std.specs.Prelude.{◌≡◌, List, [], ◌∷◌}
use Rattle.cell_types.specs.declared.answer.Refusal.{Refusal}
use Rattle.cell_control.specs.declared.row.Waits.{Waits}
use Rattle.cell_control.specs.declared.row.Waits.TheVariants as waits
use Rattle.cell_control.specs.Row.{waits_on}
use Rattle.cell_control.specs.Steps.{is_while_stopped}
use Rattle.cell_control.specs.Rows.{Wait, is_waited_out, is_among}
use Rattle.cell_control.specs.Rows.{UntilFree, UntilOwner, UntilRoom, UntilOpen, UntilResumed}

-- by its row it stays on exactly these refusals; on `Stopped` each step that asks stays (`until_resumed`)
abbrev pub StaysOn : Waits → List Wait → Type 0
StaysOn w waits = (r : Refusal) → waits_on w r ≡ is_among waits r

pub record WaitRows : Type 0 where
  pub never : StaysOn waits.Never []
  pub until_free : StaysOn waits.UntilFree (UntilFree ∷ [])
  pub until_owner : StaysOn waits.UntilOwner (UntilOwner ∷ [])
  pub until_room : StaysOn waits.UntilRoom (UntilRoom ∷ [])
  pub until_free_and_open : StaysOn waits.UntilFreeAndOpen (UntilFree ∷ UntilOpen ∷ [])
  -- what each step that asks waits for in a stopped cell
  pub until_resumed : (r : Refusal) → is_while_stopped r ≡ is_waited_out UntilResumed r
