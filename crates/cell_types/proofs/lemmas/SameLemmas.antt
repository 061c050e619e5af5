-- Zones and places that are the same by the program's `==` are one.
use Rattle.std.proofs.Common.{◌≡◌, true}
use Rattle.cell_types.specs.declared.zone.Zone.{Zone}
use Rattle.cell_types.specs.declared.place.Place.{Place}
use Rattle.cell_types.specs.contracts.zone.Zone.{the_type as zone_type}
use Rattle.cell_types.specs.contracts.place.Place.{the_type as place_type}
use Rattle.cell_types.specs.Same.{same_zone, same_place}
use denote.Enum.Bare.{same_true}

pub one_zone : (a b : Zone) → same_zone a b ≡ true → a ≡ b
one_zone a b e = same_true zone_type tt a b e

pub one_place : (a b : Place) → same_place a b ≡ true → a ≡ b
one_place a b e = same_true place_type tt a b e
