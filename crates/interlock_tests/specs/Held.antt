-- What a caller of a table of steps holds: its pass, or a call that isn't made yet.
use Rattle.std.specs.Prelude.{Option, Some, None, Result, Ok, Err}
use Rattle.cell_interlock.specs.Ends.{IsPassOf}
use Rattle.cell_interlock.specs.Views.{InterlockView, PassView, TryView}
use Rattle.cell_types.specs.declared.machine.Machine.{Machine}
use Rattle.cell_types.specs.declared.machine.Machine.TheVariants.{Feed, Table, Robot, Press, Deposit, Crane, Watch}

abbrev pub Own : Type 0
Own = Result PassView TryView

-- the pass is the machine's, and the interlock's
abbrev pub IsOwn : InterlockView → Machine → Own → Type 0
IsOwn i m (Ok pass) = IsPassOf i m pass
IsOwn i m (Err pending) = IsPassOf i m pending.pass

abbrev pub IsHeld : InterlockView → Machine → Option Own → Type 0
IsHeld i m (Some own) = IsOwn i m own
IsHeld i m None = ⊥

abbrev pub Held : Type 0
Held = Option Own

-- each caller's is its machine's
pub record AreHeld (i : InterlockView) (h : Held × Held × Held × Held × Held × Held × Held) : Type 0 where
  pub feed : IsHeld i Feed h.0
  pub table : IsHeld i Table h.1
  pub robot : IsHeld i Robot h.2
  pub press : IsHeld i Press h.3
  pub deposit : IsHeld i Deposit h.4
  pub crane : IsHeld i Crane h.5
  pub watch : IsHeld i Watch h.6
