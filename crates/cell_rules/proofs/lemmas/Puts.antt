-- What a map of the zones and a set of places have after a change.
use Rattle.cell_rules.proofs.Names.{◌≡◌, Bool, true, false, cond, refl, sym, subst, Zone, Z1, Z2, Z3, Z4, Z5, Z6, Place, FeedEntry, FeedEnd, Arm1, PressIn, PressOut, Arm2, DepEntry, DepEnd, same_zone, same_place, one_zone, Crane, ZoneMap, zone_in, put_zone, map_zones, PlaceSet, has, put_place, ZoneState}
use Rattle.cell_types.specs.declared.place.Place.TheVariants.{Table}

-- a fact of each zone, or of each place, from one proof for each
pub each_zone : (P : Zone → Type 0) → P Z1 → P Z2 → P Z3 → P Z4 → P Z5 → P Z6 → (z : Zone) → P z
each_zone P a _ _ _ _ _ Z1 = a
each_zone P _ a _ _ _ _ Z2 = a
each_zone P _ _ a _ _ _ Z3 = a
each_zone P _ _ _ a _ _ Z4 = a
each_zone P _ _ _ _ a _ Z5 = a
each_zone P _ _ _ _ _ a Z6 = a

pub each_place : (P : Place → Type 0) → P FeedEntry → P FeedEnd → P Table → P Arm1 → P PressIn → P PressOut → P Arm2 → P DepEntry → P DepEnd → P Crane → (p : Place) → P p
each_place P a _ _ _ _ _ _ _ _ _ FeedEntry = a
each_place P _ a _ _ _ _ _ _ _ _ FeedEnd = a
each_place P _ _ a _ _ _ _ _ _ _ Table = a
each_place P _ _ _ a _ _ _ _ _ _ Arm1 = a
each_place P _ _ _ _ a _ _ _ _ _ PressIn = a
each_place P _ _ _ _ _ a _ _ _ _ PressOut = a
each_place P _ _ _ _ _ _ a _ _ _ Arm2 = a
each_place P _ _ _ _ _ _ _ a _ _ DepEntry = a
each_place P _ _ _ _ _ _ _ _ a _ DepEnd = a
each_place P _ _ _ _ _ _ _ _ _ a Crane = a

-- what a map has after one zone is put
pub zone_in-put : (m : ZoneMap) (v : ZoneState) (z y : Zone) → zone_in (put_zone m z v) y ≡ cond (same_zone z y) v (zone_in m y)
zone_in-put m v Z1 Z1 = refl
zone_in-put m v _ Z1 = refl
zone_in-put m v _ _ = refl

pub zone_in-map : (f : Zone → ZoneState → ZoneState) (m : ZoneMap) (y : Zone) → zone_in (map_zones f m) y ≡ f y (zone_in m y)
zone_in-map f m = each_zone (λ y. zone_in (map_zones f m) y ≡ f y (zone_in m y)) refl refl refl refl refl refl

-- what holds at the zone that is put, and at each other zone
pub put_cases : (P : Zone → ZoneState → Type 0) (m : ZoneMap) (v : ZoneState) (z : Zone) → P z v → ((y : Zone) → same_zone z y ≡ false → P y (zone_in m y)) → (y : Zone) → P y (zone_in (put_zone m z v) y)
put_cases P m v z here else y =
    let At : Bool → Type 0 = λ b. same_zone z y ≡ b → P y (cond b v (zone_in m y)) in
    subst (P y) (sym (zone_in-put m v z y)) (elim (same_zone z y) as At [ true ↦ λ e. subst (λ x. P x v) (one_zone z y e) here | false ↦ λ e. else y e ] refl)

-- what holds at each zone holds after one zone is put, if it holds of the new value
pub zone_in-kept : (P : Zone → ZoneState → Type 0) (m : ZoneMap) (v : ZoneState) → ((y : Zone) → P y (zone_in m y)) → (z : Zone) → P z v → (y : Zone) → P y (zone_in (put_zone m z v) y)
zone_in-kept P m v all z here = put_cases P m v z here (λ y apart. all y)

-- whether a place is in a set after one is put
pub has-put : (full : PlaceSet) (b : Bool) (p q : Place) → has (put_place full p b) q ≡ cond (same_place p q) b (has full q)
has-put full b FeedEntry FeedEntry = refl
has-put full b _ FeedEntry = refl
has-put full b _ _ = refl
