-- What a machine keeps of its zones while it stands at a step of its program.
use Rattle.std.specs.Prelude.{Bool, true, ◌&&◌, not, List, Option, Some, None}
use Rattle.std.specs.List.{list_all}
use Rattle.cell_rules.specs.Types.{Machine, Zone, Posture, same_posture}
use Rattle.cell_rules.specs.Names.{ModelState, zone_at, implies, owns, posture_at}
use Rattle.cell_control.specs.declared.share.Share.{Share}
use Rattle.cell_control.specs.declared.share.Share.TheVariants.{Clear, Loaded, Held, Lent, Unclaimed, Any}
use Rattle.cell_control.specs.declared.share.ZoneShare.{ZoneShare}

-- the machine has this share of a zone, by whether it owns the zone and whether a plate is there
abbrev pub has_share : Share → Bool → Bool → Bool
has_share Clear owned plate = owned && not plate
has_share Loaded owned plate = owned && plate
has_share Held owned plate = owned
has_share Lent owned plate = implies owned plate
has_share Unclaimed owned plate = implies owned plate
has_share Any owned plate = true

-- the zone has the posture, if one is asked for
abbrev pub is_posed : Option Posture → Posture → Bool
is_posed None now = true
is_posed (Some posture) now = same_posture now posture

abbrev pub is_kept : ZoneShare → Machine → ModelState → Zone → Bool
is_kept k m z y = has_share k.share (owns z m y) (zone_at z y).flag && is_posed k.posture (posture_at z y)

-- the machine keeps all this of its zones
abbrev pub are_kept : List (Zone × ZoneShare) → Machine → ModelState → Bool
are_kept zones m z = list_all (λ row. is_kept row.1 m z row.0) zones

-- the share with a posture, and in any posture
abbrev pub posed : Share → Posture → ZoneShare
posed share posture = record { share = share; posture = Some posture }

abbrev pub unposed : Share → ZoneShare
unposed share = record { share = share; posture = None }
