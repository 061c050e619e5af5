-- The passes of a new interlock.
use Rattle.std.specs.Prelude.{◌≡◌, []}
use Rattle.cell_types.specs.declared.machine.Machine.{Machine}
use Rattle.cell_types.specs.declared.machine.Machine.TheVariants.{Feed, Table, Robot, Press, Deposit, Crane, Watch}
use Rattle.cell_interlock.specs.Views.{PassView, InterlockView}
use Rattle.cell_interlock.specs.declared.pass.Passes.{Passes}

-- the pass of a machine that has seen nothing and made no step yet
abbrev pub fresh_pass : InterlockView → Machine → PassView
fresh_pass i m =
    record {
      table = i.table;
      opening = i.opening;
      machine = m;
      seen = [];
      since = [];
      loads = 0;
      exchanges = 0;
      moments = [];
    }

abbrev pub IsFresh : InterlockView → Machine → PassView → Type 0
IsFresh i m p = p ≡ fresh_pass i m

-- each field has a fresh pass of its machine
pub record AreFresh (i : InterlockView) (p : Passes) : Type 0 where
  pub feed : IsFresh i Feed p.feed
  pub table : IsFresh i Table p.table
  pub robot : IsFresh i Robot p.robot
  pub press : IsFresh i Press p.press
  pub deposit : IsFresh i Deposit p.deposit
  pub crane : IsFresh i Crane p.crane
  pub watch : IsFresh i Watch p.watch
