-- A call that moves a plate keeps a sound state sound.
use Rattle.cell_rules.proofs.Names.{◌≡◌, Bool, true, false, ◌&&◌, ◌||◌, not, cond, Option, Some, None, is_some, if◌then◌else◌, refl, sym, ap, ◌∙◌, subst, Machine, Zone, Z3, Place, PressIn, PressOut, Transfer, Posture, OpenIn, PlaceFull, Give, Take, transfer_of, same_place, same_zone, same_machine, same_posture, PlaceSet, has, ModelState, zone_at, IsSound, implies, is_onto_full, is_lawful_plate, is_received_by, is_party, is_owned_by, give_refusal, take_refusal}
use Rattle.cell_rules.proofs.Names.{transfer_given, given_by, changed, other_party, emptied, filled, ZoneState, no_room}
use Rattle.cell_rules.proofs.lemmas.Tables.{all_bools, from_bools, bools, machines, zones, states, postures, zone_state, holds2, holds3, holds4, implied, and_both, and_left, and_right}
use Rattle.cell_rules.proofs.lemmas.Puts.{zone_in-kept, put_cases, has-put}
use Rattle.cell_rules.proofs.lemmas.Lawful.{can_be_in, press_suits, press_is_lawful, is_lawful, lawful_in, parts_of, lawful_of, lawful_from, sound_from}
use Rattle.cell_rules.proofs.lemmas.DoneCalls.{give_done, take_done, none_then, not_true, one_more}

-- ---- fewer full places keep a zone lawful

-- b implies c
abbrev pub fewer : Bool → Bool → Bool
fewer b c = implies b c

abbrev plate_test : Bool → Bool → Bool → Bool → Bool
plate_test flag received b c = implies (fewer b c && implies flag (received && not c)) (implies flag (received && not b))

pub plate_fewer : (b c : Bool) (z : Zone) (v : ZoneState) → fewer b c ≡ true → is_lawful_plate c z v ≡ true → is_lawful_plate b z v ≡ true
plate_fewer b c z v less h =
    let received = is_received_by v.owner (transfer_of z v.posture) in
    implied (fewer b c && implies v.flag (received && not c)) (implies v.flag (received && not b)) (holds4 bools bools bools bools plate_test refl v.flag received b c) (and_both (fewer b c) (implies v.flag (received && not c)) less h)

abbrev press_test : Bool → Bool → Bool → Bool → Bool → Bool
press_test inward i j o p = implies (fewer i j && (fewer o p && (not (j && p) && implies inward (not p)))) (not (i && o) && implies inward (not o))

press_fewer : (i j o p : Bool) (z : Zone) (v : ZoneState) → fewer i j ≡ true → fewer o p ≡ true → press_is_lawful j p z v ≡ true → press_is_lawful i o z v ≡ true
press_fewer i j o p Z3 v hi ho h =
    let inward = same_posture v.posture OpenIn in
    let before = not (j && p) && implies inward (not p) in
    implied (fewer i j && (fewer o p && before)) (not (i && o) && implies inward (not o))
    (holds4 bools bools bools bools (press_test inward) (from_bools (λ inward. all_bools (λ i. all_bools (λ j. all_bools (λ o. all_bools (press_test inward i j o))))) refl inward) i j o p)
    (and_both (fewer i j) (fewer o p && before) hi (and_both (fewer o p) before ho h))
press_fewer i j o p _ v hi ho h = refl

pub lawful_less : (b c i j o p : Bool) (z : Zone) (v : ZoneState) → fewer b c ≡ true → fewer i j ≡ true → fewer o p ≡ true → is_lawful c j p z v ≡ true → is_lawful b i o z v ≡ true
lawful_less b c i j o p z v hb hi ho h =
    let parts = parts_of c j p z v h in
    lawful_of b i o z v (record { owner = parts.owner; plate = plate_fewer b c z v hb parts.plate; guest = parts.guest; host = parts.host; posture = parts.posture; press = press_fewer i j o p z v hi ho parts.press })

fewer_same : (b c : Bool) → b ≡ c → fewer b c ≡ true
fewer_same true c e = sym e
fewer_same false c e = refl

-- ---- emptied

fewer_cond : (t b : Bool) → fewer (cond t false b) b ≡ true
fewer_cond false true = refl
fewer_cond _ _ = refl

pub emptied_fewer : (full : PlaceSet) (row : Option Transfer) (p : Place) → fewer (has (emptied full row) p) (has full p) ≡ true
emptied_fewer full None p = fewer_same (has full p) (has full p) refl
emptied_fewer full (Some row) p =
    let F : Bool → Type 0 = λ b. fewer b (has full p) ≡ true in
    subst F (sym (has-put full false row.from p)) (fewer_cond (same_place row.from p) (has full p))

onto_emptied : (full : PlaceSet) (row t : Option Transfer) → fewer (is_onto_full (emptied full row) t) (is_onto_full full t) ≡ true
onto_emptied full row None = refl
onto_emptied full row (Some t) = emptied_fewer full row t.to

-- ---- give

abbrev pub given : ZoneState → Machine → Zone → ZoneState
given v m z = record v { owner = Some (other_party m z); flag = true }

abbrev give_test : Machine → Zone → Posture → Bool → Bool → Bool
give_test m z q i o =
    implies (is_party m z && (is_some (given_by m (transfer_of z q)) && (can_be_in z q && press_suits i o z q))) (is_lawful false i o z (zone_state (Some (other_party m z)) true q))

given_right : (m : Machine) (z : Zone) (q : Posture) (i o : Bool) → give_test m z q i o ≡ true
given_right m z q i o = holds2 bools bools (give_test m z q) (holds3 machines zones postures (λ m z q. all_bools (λ i. all_bools (give_test m z q i))) refl m z q) i o

-- a zone stays lawful that a plate is given into, if there is room where the plate goes
given_stays : (b i o : Bool) (m : Machine) (z : Zone) (v : ZoneState) → can_be_in z v.posture ≡ true → press_suits i o z v.posture ≡ true → is_party m z ≡ true → is_some (given_by m (transfer_of z v.posture)) ≡ true
    → b ≡ false → is_lawful b i o z (given v m z) ≡ true
given_stays b i o m z v posture press party some room =
    let rest = can_be_in z v.posture && press_suits i o z v.posture in
    subst (λ b. is_lawful b i o z (given v m z) ≡ true) (sym room)
    (implied (is_party m z && (is_some (given_by m (transfer_of z v.posture)) && rest)) (is_lawful false i o z (given v m z)) (given_right m z v.posture i o)
    (and_both (is_party m z) _ party (and_both (is_some (given_by m (transfer_of z v.posture))) rest some (and_both (can_be_in z v.posture) (press_suits i o z v.posture) posture press))))

pub false_by : (t b : Bool) → b ≡ false → cond t false b ≡ false
false_by true b e = refl
false_by false b e = e

-- a row that its giver may use leads to an empty place
room_if : (s : ModelState) (t : Transfer) (b : Bool) → is_some (if b then Some t else None) ≡ true → no_room s (if b then Some t else None) ≡ None
    → is_onto_full (emptied s.full (if b then Some t else None)) (Some t) ≡ false
room_if s t true k e = has-put s.full false t.from t.to ∙ false_by (same_place t.from t.to) (has s.full t.to) (none_then (has s.full t.to) PlaceFull e)
room_if s t false k e = cc

room_of : (s : ModelState) (m : Machine) (t : Option Transfer) → is_some (given_by m t) ≡ true → no_room s (given_by m t) ≡ None → is_onto_full (emptied s.full (given_by m t)) t ≡ false
room_of s m None k e = cc
room_of s m (Some t) k e = room_if s t (same_machine t.giver m) k e

not_from : (a b : Bool) → a ≡ false → (a || not b) ≡ true → b ≡ false
not_from false false e f = refl
not_from _ _ e f = cc

pub fourth : (a b c d : Bool) → (a && (b && (c && d))) ≡ true → d ≡ true
fourth true true true d e = e
fourth _ _ _ d e = cc

pub give_keeps : (s : ModelState) (m : Machine) (z : Zone) → IsSound s → give_refusal s m z ≡ None → IsSound (changed s m (Give z))
give_keeps s m z h e =
    let may = give_done s m z e in
    let v = zone_at s z in
    let row = transfer_given s m z in
    let full = emptied s.full row in
    let after : (y : Zone) → lawful_in full y (zone_at s y) ≡ true = λ y.
    lawful_less (is_onto_full full (transfer_of y (zone_at s y).posture)) (is_onto_full s.full (transfer_of y (zone_at s y).posture)) (has full PressIn) (has s.full PressIn) (has full PressOut) (has s.full PressOut) y (zone_at s y)
    (onto_emptied s.full row (transfer_of y (zone_at s y).posture)) (emptied_fewer s.full row PressIn) (emptied_fewer s.full row PressOut) (lawful_from s h y) in
    let some : is_some row ≡ true = fourth (is_party m z) (is_owned_by v.owner m) (not v.flag) (is_some row) may.0 in
    let onto = is_onto_full full (transfer_of z v.posture) in
    let i = has full PressIn in
    let o = has full PressOut in
    let parts = parts_of onto i o z v (after z) in
    let here = given_stays onto i o m z v parts.posture parts.press (and_left (is_party m z) _ may.0) some (room_of s m (transfer_of z v.posture) some may.1) in
    sound_from (changed s m (Give z)) (one_more s.stamp may.2) (zone_in-kept (λ y v. lawful_in full y v ≡ true) s.zones (given v m z) after z here)

-- ---- take

abbrev same_to : Option Transfer → Option Transfer → Bool
same_to None t = false
same_to (Some r) None = false
same_to (Some r) (Some t) = same_place r.to t.to

abbrev leads_to : Option Transfer → Place → Bool
leads_to None p = false
leads_to (Some r) p = same_place r.to p

has-filled : (full : PlaceSet) (row : Option Transfer) (p : Place) → has (filled full row) p ≡ cond (leads_to row p) true (has full p)
has-filled full None p = refl
has-filled full (Some row) p = has-put full true row.to p

onto-filled : (full : PlaceSet) (row t : Option Transfer) → same_to row t ≡ false → is_onto_full (filled full row) t ≡ is_onto_full full t
onto-filled full None t e = refl
onto-filled full (Some row) None e = refl
onto-filled full (Some row) (Some t) e = has-put full true row.to t.to ∙ ap (λ b. cond b true (has full t.to)) e

-- no two zones lead to one place
abbrev apart_test : Zone → Posture → Zone → Posture → Bool
apart_test z p y q = same_zone z y || not (same_to (transfer_of z p) (transfer_of y q))

apart : (z : Zone) (p : Posture) (y : Zone) (q : Posture) → same_zone z y ≡ false → same_to (transfer_of z p) (transfer_of y q) ≡ false
apart z p y q e = not_from (same_zone z y) (same_to (transfer_of z p) (transfer_of y q)) e (holds4 zones postures zones postures apart_test refl z p y q)

-- a take at its own zone
abbrev pub taken : ZoneState → Machine → Zone → ZoneState
taken v m z = record v { flag = false }

-- the press with the place filled where a plate goes
abbrev press_filled : Zone → Posture → Bool → Bool → Zone → Posture → Bool
press_filled z p i o y q = press_suits (cond (leads_to (transfer_of z p) PressIn) true i) (cond (leads_to (transfer_of z p) PressOut) true o) y q

-- a plate that is in a zone may come to its place
abbrev take_test : Bool → Bool → Bool → Zone → ZoneState → Bool
take_test b i o z v = implies (is_lawful b i o z v && v.flag) (press_filled z v.posture i o z v.posture)

press_taken : (b i o : Bool) (z : Zone) (v : ZoneState) → is_lawful b i o z v ≡ true → v.flag ≡ true → press_filled z v.posture i o z v.posture ≡ true
press_taken b i o z v h flag =
    implied (is_lawful b i o z v && v.flag) (press_filled z v.posture i o z v.posture)
    (holds3 bools bools bools (λ b i o. take_test b i o z v) (holds2 zones states (λ z v. all_bools (λ b. all_bools (λ i. all_bools (λ o. take_test b i o z v)))) refl z v) b i o)
    (and_both (is_lawful b i o z v) v.flag h flag)

take_here : (c b i o : Bool) (m : Machine) (z : Zone) (v : ZoneState) → is_lawful b i o z v ≡ true → v.flag ≡ true
    → is_lawful c (cond (leads_to (transfer_of z v.posture) PressIn) true i) (cond (leads_to (transfer_of z v.posture) PressOut) true o) z (taken v m z) ≡ true
take_here c b i o m z v h flag =
    let parts = parts_of b i o z v h in
    lawful_of c (cond (leads_to (transfer_of z v.posture) PressIn) true i) (cond (leads_to (transfer_of z v.posture) PressOut) true o) z (taken v m z)
    (record { owner = parts.owner; plate = refl; guest = parts.guest; host = parts.host; posture = parts.posture; press = press_taken b i o z v h flag })

-- at another zone: the press is filled through z3 alone
abbrev else_test : Zone → Posture → Zone → Posture → Bool → Bool → Bool
else_test z p y q i o = implies (not (same_zone z y) && press_suits i o y q) (press_filled z p i o y q)

press_else : (z : Zone) (p : Posture) (y : Zone) (q : Posture) (i o : Bool) → same_zone z y ≡ false → press_suits i o y q ≡ true → press_filled z p i o y q ≡ true
press_else z p y q i o e h =
    implied (not (same_zone z y) && press_suits i o y q) (press_filled z p i o y q)
    (holds2 bools bools (else_test z p y q) (holds4 zones postures zones postures (λ z p y q. all_bools (λ i. all_bools (else_test z p y q i))) refl z p y q) i o)
    (and_both (not (same_zone z y)) (press_suits i o y q) (not_true (same_zone z y) e) h)

take_else : (z : Zone) (p : Posture) (y : Zone) (u : ZoneState) (b i o : Bool) → same_zone z y ≡ false → is_lawful b i o y u ≡ true
    → is_lawful b (cond (leads_to (transfer_of z p) PressIn) true i) (cond (leads_to (transfer_of z p) PressOut) true o) y u ≡ true
take_else z p y u b i o e h =
    let parts = parts_of b i o y u h in
    lawful_of b (cond (leads_to (transfer_of z p) PressIn) true i) (cond (leads_to (transfer_of z p) PressOut) true o) y u
    (record { owner = parts.owner; plate = parts.plate; guest = parts.guest; host = parts.host; posture = parts.posture; press = press_else z p y u.posture i o e parts.press })

pub take_keeps : (s : ModelState) (m : Machine) (z : Zone) → IsSound s → take_refusal s m z ≡ None → IsSound (changed s m (Take z))
take_keeps s m z h e =
    let may = take_done s m z e in
    let v = zone_at s z in
    let row = transfer_of z v.posture in
    let full = filled s.full row in
    let with_press : (b : Bool) (y : Zone) (u : ZoneState) → is_lawful b (cond (leads_to row PressIn) true (has s.full PressIn)) (cond (leads_to row PressOut) true (has s.full PressOut)) y u ≡ true
    → is_lawful b (has full PressIn) (has full PressOut) y u ≡ true = λ b y u k.
    let F : Bool → Type 0 = λ i. is_lawful b i (has full PressOut) y u ≡ true in
    let G : Bool → Type 0 = λ o. is_lawful b (cond (leads_to row PressIn) true (has s.full PressIn)) o y u ≡ true in
    subst F (sym (has-filled s.full row PressIn)) (subst G (sym (has-filled s.full row PressOut)) k) in
    let own : lawful_in full z (taken v m z) ≡ true =
    with_press (is_onto_full full row) z (taken v m z)
    (take_here (is_onto_full full row) (is_onto_full s.full row) (has s.full PressIn) (has s.full PressOut) m z v (lawful_from s h z) (and_right (is_owned_by v.owner m) v.flag (and_right (is_party m z) _ may.0))) in
    let others : (y : Zone) → same_zone z y ≡ false → lawful_in full y (zone_at s y) ≡ true = λ y apart_from.
    let u = zone_at s y in
    let t = transfer_of y u.posture in
    let H : Bool → Type 0 = λ b. is_lawful b (has full PressIn) (has full PressOut) y u ≡ true in
    subst H (sym (onto-filled s.full row t (apart z v.posture y u.posture apart_from)))
    (with_press (is_onto_full s.full t) y u (take_else z v.posture y u (is_onto_full s.full t) (has s.full PressIn) (has s.full PressOut) apart_from (lawful_from s h y))) in
    sound_from (changed s m (Take z)) (one_more s.stamp may.1) (put_cases (λ y u. lawful_in full y u ≡ true) s.zones (taken v m z) z own others)
