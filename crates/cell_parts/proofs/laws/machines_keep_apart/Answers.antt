use Rattle.cell_parts.proofs.lemmas.NoCollision.{keep_apart}
use Rattle.cell_parts.proofs.laws.machines_keep_apart.Goals as goal

pub returns-clause-law : goal.returns-clause-law
returns-clause-law c = keep_apart

pub returns-clause-by_demands : goal.returns-clause-by_demands
returns-clause-by_demands c = λ errand s p plates motors.
    let k = keep_apart errand s p plates motors in
    (k.host_rests, k.driver_holds, k.one_drives)
