-- A machine at work, and what a turn does with its devices.
use Rattle.std.specs.Prelude.{ℕ, Option}
use Rattle.plan_controller.specs.Turns.{Control}

pub record AtWork (L D : Type 0) : Type 0 where
  pub control : Control
  pub line : L
  pub devices : D

abbrev pub at_work : {L D : Type 0} → Control → L → D → AtWork L D
at_work control line devices = record { control = control; line = line; devices = devices }

-- the sensors are read, and show this; then these motors are given
pub record ReadsThenDrives {D : Type 0} (reads : D → Option ℕ → D → Type 0) (drives : D → ℕ → D → Type 0)
    (before : D) (sensors : Option ℕ) (motors : ℕ) (now : D) : Type 0 where
  pub between : D
  pub read : reads before sensors between
  pub driven : drives between motors now
