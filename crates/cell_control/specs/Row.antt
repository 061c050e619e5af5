-- A row of a program: what a step asks, what it waits for, and the next step with its notes.
use Rattle.std.specs.Prelude.{Bool, true, false, Some, None}
use Rattle.cell_rules.specs.Types.{Call, Refusal, Held, NotOwner, PlaceFull, Shut}
use Rattle.cell_control.specs.declared.row.Row.{Row}
use Rattle.cell_control.specs.declared.row.Waits.{Waits}
use Rattle.cell_control.specs.declared.row.Waits.TheVariants.{Never, UntilFree, UntilOwner, UntilRoom, UntilFreeAndOpen}

-- the refusals on which a step stays, by what it waits for
abbrev pub waits_on : Waits → Refusal → Bool
waits_on UntilFree (Held _) = true
waits_on UntilOwner (NotOwner _) = true
waits_on UntilRoom PlaceFull = true
waits_on UntilFreeAndOpen (Held _) = true
waits_on UntilFreeAndOpen (Shut _) = true
waits_on _ _ = false

-- the row of a step that asks, and of one that drives; neither waits
abbrev pub row_that_asks : {P : Type 0} → Call → P → Row P
row_that_asks call next = record { call = Some call; waits = Never; next = next }

abbrev pub row_that_drives : {P : Type 0} → P → Row P
row_that_drives next = record { call = None; waits = Never; next = next }

-- the same row, of a step that waits
abbrev pub with_waits : {P : Type 0} → Row P → Waits → Row P
with_waits row waits = record row { waits = waits }
