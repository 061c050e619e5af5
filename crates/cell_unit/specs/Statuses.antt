-- A machine's status, by what has stopped its controller.
use Rattle.std.specs.Prelude.{Option, Some, None}
use Rattle.cell_control.specs.declared.fault.CtlFault.{CtlFault}
use Rattle.cell_control.specs.declared.fault.CtlFault.TheVariants as fault
use Rattle.cell_notes.specs.declared.status.Status.{Status}
use Rattle.cell_notes.specs.declared.status.Status.TheVariants.{Fine, Worn, Sensor, Refused, Memory}

-- a controller keeps the fault that has stopped it; this is never Stopped, which only its later turns answer
abbrev pub status_of : Option CtlFault → Status
status_of None = Fine
status_of (Some (fault.Sensor _)) = Sensor
status_of (Some (fault.Refused _)) = Refused
status_of (Some fault.Worn) = Worn
status_of (Some fault.Memory) = Memory
status_of (Some fault.Stopped) = Refused
