-- A controller at the end of its machine's line.
use Rattle.std.specs.Prelude.{◌≡◌, ℕ, List}
use Rattle.plan_types.specs.declared.answer.Event.{Event}
use Rattle.plan_types.specs.Table.{PlanTable}
use Rattle.plan_rules.specs.declared.state.State.{State}
use Rattle.plan_drives.specs.Course.{IsAt}
use Rattle.plan_controller.specs.Turns.{Control, program_in}

pub record Wiring (L : Type 0) : Type 0 where
  pub control : Control
  pub line : L

abbrev pub wiring : {L : Type 0} → Control → L → Wiring L
wiring control line = record { control = control; line = line }

-- the line is the controller's machine's, which is at its place by all that the line has seen
pub record IsWired (c : Control) (machine : ℕ) (t : PlanTable) (opening : State) (seen : List Event) : Type 0 where
  pub own : machine ≡ c.machine
  pub at : IsAt t opening seen c.machine (program_in c) c.place
