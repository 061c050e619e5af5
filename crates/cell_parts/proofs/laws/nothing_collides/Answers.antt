use Rattle.cell_parts.proofs.lemmas.NoCollision.{nothing_collides}
use Rattle.cell_parts.proofs.laws.nothing_collides.Goals as goal

pub returns-clause-law : goal.returns-clause-law
returns-clause-law c = nothing_collides

pub returns-clause-by_demands : goal.returns-clause-by_demands
returns-clause-by_demands c = λ errand s p sound clear positions motors travel rotation.
    nothing_collides errand s p
    (record { sound = sound; clear = clear; positions = positions; motors = motors; travel = travel; rotation = rotation })
