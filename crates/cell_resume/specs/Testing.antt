-- The test of a checkpoint, machine by machine.
use Rattle.std.specs.Prelude.{Bool, if◌then◌else◌, Option, Some, None, Result, Ok, Err}
use Rattle.cell_types.specs.declared.machine.Machine.{Machine}
use Rattle.cell_resume.specs.declared.fault.ResumeFault.{ResumeFault}
use Rattle.cell_resume.specs.declared.fault.ResumeFault.TheVariants.{NoStep, NotInStep}

-- a machine's step, if its number names one that is in step
abbrev pub tested : {P : Type 0} → Machine → Option P → (P → Bool) → Result P ResumeFault
tested m None in_step = Err (NoStep m)
tested m (Some p) in_step = if in_step p then Ok p else Err (NotInStep m)
