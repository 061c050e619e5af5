-- The map of the zones is a map and the set of the places is a set: by the laws of look-up and update, and as std's
-- finite map and finite set.
use Rattle.std.specs.Prelude.{◌≡◌, ◌≢◌, true, false, Some, map as list_map, filter}
use Rattle.std.specs.declared.cmp.Ordering.{Ordering}
use Rattle.std.specs.FinMap as map
use Rattle.std.specs.FinSet as set
use Rattle.cell_rules.specs.Types.{Zone, Place, all_zones, all_places}
use Rattle.cell_types.specs.contracts.zone.ZoneOrd.TheImpl.{ghosts as zone_ghosts}
use Rattle.cell_types.specs.contracts.place.PlaceOrd.TheImpl.{ghosts as place_ghosts}
use Rattle.cell_rules.specs.declared.zones.ZoneState.{ZoneState}
use Rattle.cell_rules.specs.ZoneMap.{ZoneMap, zone_in, put_zone, map_zones, everywhere}
use Rattle.cell_rules.specs.PlaceSet.{PlaceSet, has, insert_place, remove_place, empty}

-- look-up after an update; and two maps with the same value at each zone are equal
pub record ZonesAreAMap : Type 0 where
  pub put_here : (m : ZoneMap) (z : Zone) (v : ZoneState) → zone_in (put_zone m z v) z ≡ v
  pub put_elsewhere : (m : ZoneMap) (z y : Zone) (v : ZoneState) → y ≢ z → zone_in (put_zone m z v) y ≡ zone_in m y
  pub one_map : (m n : ZoneMap) → ((z : Zone) → zone_in m z ≡ zone_in n z) → m ≡ n
  pub mapped : (f : Zone → ZoneState → ZoneState) (m : ZoneMap) (z : Zone)
      → zone_in (map_zones f m) z ≡ f z (zone_in m z)
  pub at_every_zone : (v : ZoneState) (z : Zone) → zone_in (everywhere v) z ≡ v

-- membership after an insertion and a removal; and two sets with the same members are equal
pub record PlacesAreASet : Type 0 where
  pub inserted : (s : PlaceSet) (p : Place) → has (insert_place s p) p ≡ true
  pub removed : (s : PlaceSet) (p : Place) → has (remove_place s p) p ≡ false
  pub inserted_elsewhere : (s : PlaceSet) (p q : Place) → q ≢ p → has (insert_place s p) q ≡ has s q
  pub removed_elsewhere : (s : PlaceSet) (p q : Place) → q ≢ p → has (remove_place s p) q ≡ has s q
  pub one_set : (s t : PlaceSet) → ((p : Place) → has s p ≡ has t p) → s ≡ t
  pub nothing : (p : Place) → has empty p ≡ false

-- the orders of the zones and of the places, as the program's `cmp` has them
abbrev pub zone_cmp : Zone → Zone → Ordering
zone_cmp a b = zone_ghosts.cmp a b

abbrev pub place_cmp : Place → Place → Ordering
place_cmp a b = place_ghosts.cmp a b

-- std's finite map with the same values as the map
abbrev pub map_of : ZoneMap → map.FinMap zone_cmp ZoneState
map_of m = map.from_entries (list_map (λ z. (z, zone_in m z)) all_zones)

-- std's finite set with the same places as the set
abbrev pub set_of : PlaceSet → set.FinSet place_cmp
set_of s = set.from_list (filter (has s) all_places)

-- the same look-up and the same update
pub record ZonesAreStdMap : Type 0 where
  pub get : (m : ZoneMap) (z : Zone) → map.get (map_of m) z ≡ Some (zone_in m z)
  pub insert : (m : ZoneMap) (z : Zone) (v : ZoneState) → map_of (put_zone m z v) ≡ map.insert (map_of m) z v

-- the same membership, the same insertion and removal, and the same empty set
pub record PlacesAreStdSet : Type 0 where
  pub contains : (s : PlaceSet) (p : Place) → set.contains (set_of s) p ≡ has s p
  pub insert : (s : PlaceSet) (p : Place) → set_of (insert_place s p) ≡ set.insert (set_of s) p
  pub remove : (s : PlaceSet) (p : Place) → set_of (remove_place s p) ≡ set.remove (set_of s) p
  pub empty_set : set_of empty ≡ set.empty
