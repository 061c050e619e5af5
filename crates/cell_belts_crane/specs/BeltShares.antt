-- What a belt keeps while it stands at a step of its program.
use Rattle.std.specs.Prelude.{Bool, true, not, ◌&&◌}
use Rattle.cell_control.specs.declared.share.ZoneShare.{ZoneShare}
use Rattle.cell_belts_crane.specs.declared.belt_share.BeltPlates.{BeltPlates}
use Rattle.cell_belts_crane.specs.declared.belt_share.BeltPlates.TheVariants.{Any, Empty, AtEntry, AtEnd, NoneAtEnd}
use Rattle.cell_belts_crane.specs.declared.belt_share.BeltShare.{BeltShare}

abbrev pub keeps : ZoneShare → ZoneShare → BeltPlates → BeltShare
keeps entry exit plates = record { entry = entry; exit = exit; plates = plates }

-- these plates are on the belt, by whether one is at its entry and one at its end
abbrev pub are_there : BeltPlates → Bool → Bool → Bool
are_there Any entry last = true
are_there Empty entry last = not entry && not last
are_there AtEntry entry last = entry && not last
are_there AtEnd entry last = last
are_there NoneAtEnd entry last = not last
