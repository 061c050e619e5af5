-- A magnet that stays as it is drops nothing.
use Rattle.cell_plant.proofs.Names.{◌≡◌, Bool}
use Rattle.cell_parts.specs.Collisions.{LetsGo}

pub still_on : (now before : Bool) → now ≡ before → ¬ LetsGo before now
still_on now before e go = let on = go.0 in let off = go.1 in cc
