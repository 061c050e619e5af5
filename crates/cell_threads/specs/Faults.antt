-- The texts of the faults of runs.
use Rattle.std.specs.Prelude.{ℕ, List, codes}
use Rattle.cell_threads.specs.declared.fault.RunFault.{RunFault}
use Rattle.cell_threads.specs.declared.fault.RunFault.TheVariants.{Tries, Memory, Spawn}

abbrev pub run_fault_text : RunFault → List ℕ
run_fault_text Tries = codes "tries"
run_fault_text Memory = codes "memory"
run_fault_text Spawn = codes "spawn"
