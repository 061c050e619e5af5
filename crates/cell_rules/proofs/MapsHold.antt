-- The map of the zones and the set of the places keep the laws of maps and of sets.
use Rattle.cell_rules.proofs.Names.{◌≡◌, ◌≢◌, Bool, true, false, cond, refl, sym, ap, ◌∙◌, list_any, eq_by_cmp, is_eq, IsAntisymmetric, true_same, false_same, Zone, Z1, Z2, Z3, Z4, Z5, Z6, Place, FeedEntry, FeedEnd, Arm1, PressIn, PressOut, Arm2, DepEntry, DepEnd, all_zones, all_places, one_zone, one_place, Crane, ZoneMap, zone_in, put_zone, everywhere, PlaceSet, has, put_place, insert_place, empty, ZoneState, remove_place, ZonesAreAMap}
use Rattle.cell_rules.proofs.Names.{PlacesAreASet, zone_cmp, place_cmp, ZonesAreStdMap, PlacesAreStdSet}
use Rattle.cell_types.specs.declared.place.Place.TheVariants.{Table}
use Rattle.cell_types.specs.contracts.zone.Zone.{the_type as zone_type}
use Rattle.cell_types.specs.contracts.place.Place.{the_type as place_type}
use Rattle.cell_types.specs.contracts.zone.ZoneOrd.TheImpl.Laws.{total-law as zones_total, matches_eq-law as zones_match}
use Rattle.cell_types.specs.contracts.place.PlaceOrd.TheImpl.Laws.{total-law as places_total, matches_eq-law as places_match}
use Rattle.cell_rules.proofs.lemmas.Puts.{each_zone, each_place, zone_in-put, zone_in-map, has-put}
use Rattle.cell_rules.proofs.Keyed.{get-table, table-put, contains-members, members-insert, members-remove}

put_here : (m : ZoneMap) (z : Zone) (v : ZoneState) → zone_in (put_zone m z v) z ≡ v
put_here m z v = zone_in-put m v z z ∙ ap (λ b. cond b v (zone_in m z)) (true_same zone_type z z refl)

put_elsewhere : (m : ZoneMap) (z y : Zone) (v : ZoneState) → y ≢ z → zone_in (put_zone m z v) y ≡ zone_in m y
put_elsewhere m z y v ne = zone_in-put m v z y ∙ ap (λ b. cond b v (zone_in m y)) (false_same zone_type tt z y (λ e. ne (sym e)))

has_here : (s : PlaceSet) (p : Place) (b : Bool) → has (put_place s p b) p ≡ b
has_here s p b = has-put s b p p ∙ ap (λ t. cond t b (has s p)) (true_same place_type p p refl)

has_elsewhere : (s : PlaceSet) (p q : Place) (b : Bool) → q ≢ p → has (put_place s p b) q ≡ has s q
has_elsewhere s p q b ne = has-put s b p q ∙ ap (λ t. cond t b (has s q)) (false_same place_type tt p q (λ e. ne (sym e)))

pub zones_are_a_map : ZonesAreAMap
zones_are_a_map = record {
  put_here = put_here;
  put_elsewhere = put_elsewhere;
  one_map = λ m n at i. record { at_z1 = at Z1 i; at_z2 = at Z2 i; at_z3 = at Z3 i; at_z4 = at Z4 i; at_z5 = at Z5 i; at_z6 = at Z6 i };
  mapped = zone_in-map;
  at_every_zone = λ v. each_zone (λ z. zone_in (everywhere v) z ≡ v) refl refl refl refl refl refl;
}

pub places_are_a_set : PlacesAreASet
places_are_a_set = record {
  inserted = λ s p. has_here s p true;
  removed = λ s p. has_here s p false;
  inserted_elsewhere = λ s p q. has_elsewhere s p q true;
  removed_elsewhere = λ s p q. has_elsewhere s p q false;
  one_set = λ s t at i. record {
    feed_entry = at FeedEntry i;
    feed_end = at FeedEnd i;
    table = at Table i;
    arm1 = at Arm1 i;
    press_in = at PressIn i;
    press_out = at PressOut i;
    arm2 = at Arm2 i;
    dep_entry = at DepEntry i;
    dep_end = at DepEnd i;
    crane = at Crane i;
  };
  nothing = each_place (λ p. has empty p ≡ false) refl refl refl refl refl refl refl refl refl refl;
}

one_zone_key : IsAntisymmetric zone_cmp
one_zone_key a b e = one_zone a b (zones_match a b ∙ ap is_eq e)

one_place_key : IsAntisymmetric place_cmp
one_place_key a b e = one_place a b (places_match a b ∙ ap is_eq e)

every_zone : (z : Zone) → list_any (eq_by_cmp zone_cmp z) all_zones ≡ true
every_zone = each_zone (λ z. list_any (eq_by_cmp zone_cmp z) all_zones ≡ true) refl refl refl refl refl refl

every_place : (p : Place) → list_any (eq_by_cmp place_cmp p) all_places ≡ true
every_place = each_place (λ p. list_any (eq_by_cmp place_cmp p) all_places ≡ true) refl refl refl refl refl refl refl refl refl refl

pub zones_are_std_map : ZonesAreStdMap
zones_are_std_map = record {
  get = λ m. get-table zones_total one_zone_key all_zones every_zone (zone_in m);
  insert = λ m z v. table-put zones_total one_zone_key all_zones every_zone (zone_in m) (zone_in (put_zone m z v)) z v (put_here m z v) (λ y. put_elsewhere m z y v);
}

pub places_are_std_set : PlacesAreStdSet
places_are_std_set = record {
  contains = λ s. contains-members places_total one_place_key all_places every_place (has s);
  insert = λ s p. members-insert places_total one_place_key all_places every_place (has s) (has (insert_place s p)) p (has_here s p true) (λ q. has_elsewhere s p q true);
  remove = λ s p. members-remove places_total one_place_key all_places every_place (has s) (has (remove_place s p)) p (has_here s p false) (λ q. has_elsewhere s p q false);
  empty_set = refl;
}
