-- The map from the six zones to the state of each. It is read by look-up and changed by update alone.
use Rattle.std.specs.Prelude.{false, None, List, [], ◌∷◌}
use Rattle.cell_rules.specs.Types.{Zone, Z1, Z2, Z3, Z4, Z5, Z6, Closed, all_zones}
use Rattle.cell_rules.specs.declared.zones.ZoneState.{ZoneState}

pub record ZoneMap : Type 0 where
  pub at_z1 : ZoneState
  pub at_z2 : ZoneState
  pub at_z3 : ZoneState
  pub at_z4 : ZoneState
  pub at_z5 : ZoneState
  pub at_z6 : ZoneState

abbrev pub zone_map : ZoneState → ZoneState → ZoneState → ZoneState → ZoneState → ZoneState → ZoneMap
zone_map a b c d e f = record { at_z1 = a; at_z2 = b; at_z3 = c; at_z4 = d; at_z5 = e; at_z6 = f }

-- look-up: what the map has at a zone
abbrev pub zone_in : ZoneMap → Zone → ZoneState
zone_in map Z1 = map.at_z1
zone_in map Z2 = map.at_z2
zone_in map Z3 = map.at_z3
zone_in map Z4 = map.at_z4
zone_in map Z5 = map.at_z5
zone_in map Z6 = map.at_z6

-- update: the map with another value at one zone
abbrev pub put_zone : ZoneMap → Zone → ZoneState → ZoneMap
put_zone map Z1 v = record map { at_z1 = v }
put_zone map Z2 v = record map { at_z2 = v }
put_zone map Z3 v = record map { at_z3 = v }
put_zone map Z4 v = record map { at_z4 = v }
put_zone map Z5 v = record map { at_z5 = v }
put_zone map Z6 v = record map { at_z6 = v }

-- the map with each of these zones updated by a function
abbrev pub put_each : (Zone → ZoneState → ZoneState) → List Zone → ZoneMap → ZoneMap
put_each f [] map = map
put_each f (z ∷ zs) map = put_each f zs (put_zone map z (f z (zone_in map z)))

abbrev pub map_zones : (Zone → ZoneState → ZoneState) → ZoneMap → ZoneMap
map_zones f map = put_each f all_zones map

-- a free zone, Closed and with no plate
abbrev pub free_zone : ZoneState
free_zone = record { owner = None; flag = false; posture = Closed }

-- the map with one value at every zone
abbrev pub everywhere : ZoneState → ZoneMap
everywhere v = zone_map v v v v v v
