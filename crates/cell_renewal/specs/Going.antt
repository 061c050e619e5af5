-- A machine that goes on in the middle of its program, with devices.
use Rattle.std.specs.Prelude.{◌≡◌, ℕ}
use Rattle.cell_rules.specs.ModelState.{ModelState}
use Rattle.cell_control.specs.Wiring.{Unwiring}
use Rattle.cell_notes.specs.declared.status.Status.{Status}

pub record GoingOn (P S D : Type 0) : Type 0 where
  pub machine : Unwiring P S
  pub opening : ModelState
  pub devices : D

-- what is left of it after its cycles: how many turns it took, how many cycles its sensors showed nothing in, how it
-- ended, its devices, and the machine
pub record GoingLeft (P S D : Type 0) : Type 0 where
  pub turns : ℕ
  pub missed : ℕ
  pub status : Status
  pub devices : D
  pub machine : Unwiring P S

-- it goes on with the machine and the devices that were left, where an interlock opens with this state
pub record GoesOnFrom {P S D : Type 0} (machine : Unwiring P S) (devices : D) (opening : ModelState)
    (now : GoingOn P S D) : Type 0 where
  pub same_machine : now.machine ≡ machine
  pub same_devices : now.devices ≡ devices
  pub opens : now.opening ≡ opening
