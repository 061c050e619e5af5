-- Where a state has a position: at a place, or in a zone that has a posture; and a move from one such spot to another.
use Rattle.cell_ring.proofs.Names.{◌≡◌, Bool, true, false, ◌&&◌, ◌⊎◌, inl, inr, cond, refl, sym, subst, ap, ◌∙◌, beq, beq_same, and_left, and_right, holds2}
use Rattle.cell_ring.proofs.Names.{Zone, Place, Posture, same_zone, same_place, same_posture, one_posture, one_place, one_zone, ModelState, ZoneState, ZoneMap, PlaceSet, zone_in, has}
use Rattle.cell_ring.specs.Lap.{Position, FeedEntry, FeedEnd, BeltToTable, Table, TableToArm, Arm1, ArmToPress, PressIn, PressOut, PressToArm, Arm2, ArmToBelt, DepEntry, DepEnd, BeltToCrane, Crane, CraneToBelt, next_position, same_position}
use Rattle.cell_ring.specs.Plates.{has_plate, GoesOn}
use Rattle.cell_types.specs.declared.place.Place.TheVariants as place
use Rattle.cell_rules.specs.Types.{Z1, Z2, Z3, Z4, Z5, Z6, OpenIn, OpenOut}
use Rattle.cell_ring.proofs.Ring.{positions, not_same, same-self}

abbrev pub Spot : Type 0
Spot = Place ⊎ (Zone × Posture)

abbrev pub spot : Position → Spot
spot FeedEntry = inl place.FeedEntry
spot FeedEnd = inl place.FeedEnd
spot BeltToTable = inr (Z1, OpenIn)
spot Table = inl place.Table
spot TableToArm = inr (Z2, OpenOut)
spot Arm1 = inl place.Arm1
spot ArmToPress = inr (Z3, OpenIn)
spot PressIn = inl place.PressIn
spot PressOut = inl place.PressOut
spot PressToArm = inr (Z3, OpenOut)
spot Arm2 = inl place.Arm2
spot ArmToBelt = inr (Z4, OpenIn)
spot DepEntry = inl place.DepEntry
spot DepEnd = inl place.DepEnd
spot BeltToCrane = inr (Z5, OpenOut)
spot Crane = inl place.Crane
spot CraneToBelt = inr (Z6, OpenIn)

abbrev pub in_zone : ZoneState → Posture → Bool
in_zone v q = v.flag && same_posture v.posture q

abbrev pub at_spot : PlaceSet → ZoneMap → Spot → Bool
at_spot full states (inl p) = has full p
at_spot full states (inr w) = in_zone (zone_in states w.0) w.1

pub has_spot : (s : ModelState) (p : Position) → has_plate s p ≡ at_spot s.full s.zones (spot p)
has_spot s FeedEntry = refl
has_spot s _ = refl

abbrev pub same_spot : Spot → Spot → Bool
same_spot (inl p) (inl q) = same_place p q
same_spot (inr v) (inr w) = same_zone v.0 w.0 && same_posture v.1 w.1
same_spot _ _ = false

pub spots_differ : (p q : Position) → same_spot (spot p) (spot q) ≡ same_position p q
spots_differ p q = beq_same _ _ (holds2 positions positions (λ p q. beq (same_spot (spot p) (spot q)) (same_position p q)) refl p q)

pub one_spot : (a b : Spot) → same_spot a b ≡ true → a ≡ b
one_spot (inl p) (inl q) e = ap inl (one_place p q e)
one_spot (inr v) (inr w) e =
    let z = one_zone v.0 w.0 (and_left (same_zone v.0 w.0) (same_posture v.1 w.1) e) in
    let q = one_posture v.1 w.1 (and_right (same_zone v.0 w.0) (same_posture v.1 w.1) e) in
    λ i. inr (z i, q i)
one_spot _ _ e = cc

-- ---- a plate goes on from one position to the next

-- the plates after a move from one spot to another
abbrev pub shifted : Bool → Bool → Bool → Bool
shifted from to before = cond from false (cond to true before)

apart : (p : Position) → same_position p (next_position p) ≡ false
apart FeedEntry = refl
apart _ = refl

goes_on : (s t : ModelState) (p : Position) → has_plate s p ≡ true → has_plate s (next_position p) ≡ false
    → ((q : Position) → has_plate t q ≡ shifted (same_position p q) (same_position (next_position p) q) (has_plate s q)) → GoesOn s t p
goes_on s t p there room all =
    let n = next_position p in
    record {
      there = there;
      room = room;
      gone = all p ∙ ap (λ b. shifted b (same_position n p) (has_plate s p)) (same-self p);
      come = all n ∙ ap (λ b. shifted b (same_position n n) (has_plate s n)) (apart p) ∙ ap (λ b. shifted false b (has_plate s n)) (same-self n);
      others = λ q x y.
          all q ∙ ap (λ b. shifted b (same_position n q) (has_plate s q)) (not_same p q (λ e. x (sym e))) ∙ ap (λ b. shifted false b (has_plate s q)) (not_same n q (λ e. y (sym e)));
    }

-- by the spots of the two positions
pub shifts : (s t : ModelState) (p : Position) (from to : Spot) → spot p ≡ from → spot (next_position p) ≡ to → at_spot s.full s.zones from ≡ true → at_spot s.full s.zones to ≡ false
    → ((w : Spot) → at_spot t.full t.zones w ≡ shifted (same_spot from w) (same_spot to w) (at_spot s.full s.zones w)) → GoesOn s t p
shifts s t p from to a b there room all =
    let n = next_position p in
    let all_at : (q : Position) → has_plate t q ≡ shifted (same_position p q) (same_position n q) (has_plate s q) = λ q.
    let here : at_spot t.full t.zones (spot q) ≡ shifted (same_spot (spot p) (spot q)) (same_spot (spot n) (spot q)) (at_spot s.full s.zones (spot q)) =
    subst (λ y. at_spot t.full t.zones (spot q) ≡ shifted (same_spot (spot p) (spot q)) (same_spot y (spot q)) (at_spot s.full s.zones (spot q))) (sym b)
    (subst (λ x. at_spot t.full t.zones (spot q) ≡ shifted (same_spot x (spot q)) (same_spot to (spot q)) (at_spot s.full s.zones (spot q))) (sym a) (all (spot q))) in
    has_spot t q ∙ here ∙ (λ i. shifted (spots_differ p q i) (spots_differ n q i) (sym (has_spot s q) i)) in
    goes_on s t p (has_spot s p ∙ ap (at_spot s.full s.zones) a ∙ there) (has_spot s n ∙ ap (at_spot s.full s.zones) b ∙ room) all_at
