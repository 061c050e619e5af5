-- Soundness as one test, equal to `IsSound`: the program computes it.
use Rattle.std.specs.Prelude.{Bool, ◌&&◌, nat_le}
use Rattle.std.specs.List.{list_all}
use Rattle.cell_rules.specs.Types.{Zone, Z3, all_zones}
use Rattle.cell_rules.specs.declared.zones.ZoneState.{ZoneState}
use Rattle.cell_rules.specs.ZoneMap.{ZoneMap, zone_in}
use Rattle.cell_rules.specs.PlaceSet.{PlaceSet}
use Rattle.cell_rules.specs.ModelState.{ModelState, zone_at, last_stamp}
use Rattle.cell_rules.specs.Sound.{has_lawful_owner, has_lawful_plate, is_open_to_guest, moves_by_host, is_of_some_pose}
use Rattle.cell_rules.specs.Sound.{has_one_plate}

abbrev pub is_lawful_at : PlaceSet → Zone → ZoneState → Bool
is_lawful_at full z v =
    has_lawful_owner z v && has_lawful_plate full z v && is_open_to_guest z v && moves_by_host z v
    && is_of_some_pose z v.posture

abbrev pub all_lawful : PlaceSet → ZoneMap → Bool
all_lawful full zones = list_all (λ z. is_lawful_at full z (zone_in zones z)) all_zones

abbrev pub is_sound : ModelState → Bool
is_sound s = nat_le s.stamp last_stamp && all_lawful s.full s.zones && has_one_plate s.full (zone_at s Z3)
