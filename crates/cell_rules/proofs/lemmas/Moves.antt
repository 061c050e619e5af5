-- A pose and an advance keep a sound state sound.
use Rattle.cell_rules.proofs.Names.{◌≡◌, ◌+◌, ◌<◌, Bool, true, false, ◌&&◌, ◌||◌, not, cond, Option, Some, None, if◌then◌else◌, refl, sym, ap, ◌∙◌, subst, unwrap_or, not-true, not-false, Machine, Feed, Press, Deposit, Zone, Z1, Z2, Z3, Z4, Z5, Z6, Place, FeedEntry, FeedEnd, DepEntry, DepEnd, PressIn, PressOut, Transfer, Posture, Closed, Moving, OpenIn, Pose, PlaceFull, NotOwner, PlateInZone, SetPose, Advance, host_of}
use Rattle.cell_rules.proofs.Names.{transfer_of, posture_of, same_place, same_zone, same_machine, same_posture, one_machine, one_posture, zone_in, map_zones, PlaceSet, has, put_place, ModelState, zone_at, IsSound, implies, is_onto_full, is_owned_by, pose_refusal, advance_refusal, owner_of, owns, posture_at, is_moving_pose, is_blocked, opens_onto_plate, changed, is_belt_of, halted, posed, ZoneState, is_concerned, unowned_by_pose, plate_under_pose, is_at_work, is_lawful_plate, is_received_by}
use Rattle.cell_rules.specs.Refusals as refusals
use Rattle.cell_rules.proofs.lemmas.Tables.{all_bools, all_zones, all_postures, bools, machines, zones, postures, poses, holds2, holds3, holds4, implied, and_both, and_left, and_right}
use Rattle.cell_rules.proofs.lemmas.Puts.{each_zone, has-put}
use Rattle.cell_rules.proofs.lemmas.Lawful.{can_be_in, press_suits, is_lawful, lawful_in, Parts, parts_of, lawful_of, of_host, put_by_host, lawful_from, sound_from}
use Rattle.cell_rules.proofs.lemmas.DoneCalls.{pose_done, advance_done, no_zone, none_then, not_true, one_more}
use Rattle.cell_rules.proofs.lemmas.Plates.{fewer, plate_fewer}

-- ---- a pose

-- the posture that a pose of m gives a zone, if it gives one, suits the zone, and m is the zone's host
abbrev pub suits : Machine → Zone → Option Posture → Bool
suits m z None = true
suits m z (Some r) = same_machine m (host_of z) && can_be_in z r

abbrev gives_moving : Option Posture → Bool
gives_moving None = false
gives_moving (Some r) = same_posture r Moving

-- a pose suits each zone, and makes one move only if it is a pose that moves
abbrev fits : Machine → Pose → Zone → Bool
fits m p z = suits m z (posture_of m p z) && implies (gives_moving (posture_of m p z)) (is_moving_pose p)

pose_fits : (m : Machine) (p : Pose) (z : Zone) → fits m p z ≡ true
pose_fits = holds3 machines poses zones fits refl

pub posture_suits : (m : Machine) (p : Pose) (z : Zone) → suits m z (posture_of m p z) ≡ true
posture_suits m p z = and_left (suits m z (posture_of m p z)) (implies (gives_moving (posture_of m p z)) (is_moving_pose p)) (pose_fits m p z)

-- a pose concerns a zone if it gives it another posture, or makes it move
abbrev pub concerns_posture : Option Posture → Posture → Bool
concerns_posture None now = false
concerns_posture (Some q) now = same_posture q Moving || not (same_posture q now)

is_host : (m : Machine) (z : Zone) → same_machine m (host_of z) ≡ true → same_machine (host_of z) m ≡ true
is_host m z e = implied (same_machine m (host_of z)) (same_machine (host_of z) m) (holds2 machines zones (λ m z. implies (same_machine m (host_of z)) (same_machine (host_of z) m)) refl m z) e

abbrev concern_test : Bool → Bool → Bool → Bool → Bool
concern_test hosts moves gives same = implies (hosts && implies gives moves) (implies (gives || not same) (hosts && (moves || not same)))

concerned_by : (m : Machine) (z : Zone) (q : Option Posture) (now : Posture) (moves : Bool) → suits m z q ≡ true → implies (gives_moving q) moves ≡ true
    → implies (concerns_posture q now) (same_machine (host_of z) m && (moves || not (same_posture (unwrap_or q now) now))) ≡ true
concerned_by m z None now moves s g = refl
concerned_by m z (Some r) now moves s g =
    let hosts = same_machine (host_of z) m in
    let gives = same_posture r Moving in
    let same = same_posture r now in
    implied (hosts && implies gives moves) (implies (gives || not same) (hosts && (moves || not same)))
    (holds4 bools bools bools bools concern_test refl hosts moves gives same)
    (and_both hosts (implies gives moves) (is_host m z (and_left (same_machine m (host_of z)) (can_be_in z r) s)) g)

concerned : (s : ModelState) (m : Machine) (p : Pose) (z : Zone) → implies (concerns_posture (posture_of m p z) (posture_at s z)) (is_concerned s m p z) ≡ true
concerned s m p z =
    concerned_by m z (posture_of m p z) (posture_at s z) (is_moving_pose p) (posture_suits m p z)
    (and_right (suits m z (posture_of m p z)) (implies (gives_moving (posture_of m p z)) (is_moving_pose p)) (pose_fits m p z))

-- what holds of no concerned zone holds of no zone that gets another posture
unconcerned : (a b c : Bool) → implies a b ≡ true → (b && c) ≡ false → (a && c) ≡ false
unconcerned false b c i e = refl
unconcerned true true c i e = e
unconcerned true false c i e = cc

-- if a pose concerns a zone, its machine owns it
pub pose_owned : (s : ModelState) (m : Machine) (p : Pose) (z : Zone) → pose_refusal s m p ≡ None → (concerns_posture (posture_of m p z) (posture_at s z) && not (owns s m z)) ≡ false
pose_owned s m p z e =
    unconcerned (concerns_posture (posture_of m p z) (posture_at s z)) (is_concerned s m p z) (not (owns s m z)) (concerned s m p z)
    (none_then (is_concerned s m p z && not (owns s m z)) (NotOwner (owner_of s z)) (no_zone (unowned_by_pose s m p) (pose_done s m p e).0 z))

-- a zone becomes open inward
abbrev opens : Option Posture → Posture → Bool
opens None now = false
opens (Some q) now = same_posture q OpenIn && not (same_posture now OpenIn)

opens_same : (q : Option Posture) (now : Posture) → opens q now ≡ (same_posture (unwrap_or q now) OpenIn && not (same_posture now OpenIn))
opens_same (Some q) now = refl
opens_same None Closed = refl
opens_same None _ = refl

abbrev posed_by : Option Posture → ZoneState → ZoneState
posed_by q v = record v { posture = unwrap_or q v.posture }

abbrev press_blocked : Bool → Bool → Zone → Bool
press_blocked i o Z3 = i || o
press_blocked i o _ = false

-- what the host may make of a zone that it owns, with no plate in it
abbrev posed_test : Zone → Posture → Posture → Bool → Bool → Bool → Bool
posed_test z now q onto i o =
    implies (can_be_in z q && (press_suits i o z now && not (opens (Some q) now && press_blocked i o z))) (is_lawful onto i o z (of_host z q))

posed_by_host : (z : Zone) (now q : Posture) (onto i o : Bool) → posed_test z now q onto i o ≡ true
posed_by_host z now q onto i o =
    holds3 bools bools bools (posed_test z now q) (holds3 zones postures postures (λ z now q. all_bools (λ onto. all_bools (λ i. all_bools (posed_test z now q onto i)))) refl z now q) onto i o

unless_false : (a b : Bool) → (a && b) ≡ false → a ≡ true → b ≡ false
unless_false true b e f = e
unless_false false b e f = absurd cc

not_either : (a b : Bool) → (a || not b) ≡ false → b ≡ true
not_either false true e = refl
not_either _ _ e = cc

-- a zone whose pose isn't refused stays lawful
pose_at : (full : PlaceSet) (m : Machine) (z : Zone) (q : Option Posture) (v : ZoneState) → lawful_in full z v ≡ true → suits m z q ≡ true
    → (concerns_posture q v.posture && not (is_owned_by v.owner m)) ≡ false → (concerns_posture q v.posture && v.flag) ≡ false
    → not (opens q v.posture && press_blocked (has full PressIn) (has full PressOut) z) ≡ true → lawful_in full z (posed_by q v) ≡ true
pose_at full m z None v h s owned free room = h
pose_at full m z (Some q) v h s owned free room =
    let i = has full PressIn in
    let o = has full PressOut in
    let now = v.posture in
    let concerns = same_posture q Moving || not (same_posture q now) in
    let Lawful : ZoneState → Type 0 = λ w. lawful_in full z w ≡ true in
    let At : Bool → Type 0 = λ b. concerns ≡ b → Lawful (posed_by (Some q) v) in
    elim concerns as At [
      | true ↦ λ e.
          let of_caller : is_owned_by v.owner m ≡ true = not-false _ (unless_false concerns (not (is_owned_by v.owner m)) owned e) in
          let own : is_owned_by v.owner (host_of z) ≡ true = ap (is_owned_by v.owner) (sym (one_machine m (host_of z) (and_left (same_machine m (host_of z)) (can_be_in z q) s))) ∙ of_caller in
          let none : v.flag ≡ false = unless_false concerns v.flag free e in
          let press : press_suits i o z now ≡ true = (parts_of (is_onto_full full (transfer_of z now)) i o z v h).press in
          let may = and_both (can_be_in z q) _ (and_right (same_machine m (host_of z)) (can_be_in z q) s) (and_both (press_suits i o z now) (not (opens (Some q) now && press_blocked i o z)) press room) in
          let onto = is_onto_full full (transfer_of z q) in
          subst Lawful (sym (put_by_host v z q own none))
          (implied (can_be_in z q && (press_suits i o z now && not (opens (Some q) now && press_blocked i o z))) (is_lawful onto i o z (of_host z q)) (posed_by_host z now q onto i o) may)
      | false ↦ λ e. subst Lawful (ap (λ r. record v { posture = r }) (sym (one_posture q now (not_either (same_posture q Moving) (same_posture q now) e)))) h
    ] refl

not_and_false : (b : Bool) → not (b && false) ≡ true
not_and_false true = refl
not_and_false false = refl

room_inside : (s : ModelState) (a : Bool) (z : Zone) → (a && is_blocked s z) ≡ false → not (a && press_blocked (has s.full PressIn) (has s.full PressOut) z) ≡ true
room_inside s a Z3 e = not_true _ e
room_inside s a _ e = not_and_false a

pub pose_keeps : (s : ModelState) (m : Machine) (p : Pose) → IsSound s → pose_refusal s m p ≡ None → IsSound (changed s m (SetPose p))
pose_keeps s m p h e =
    let may = pose_done s m p e in
    let opened : (z : Zone) → (opens (posture_of m p z) (posture_at s z) && is_blocked s z) ≡ false = λ z.
    ap (λ (b : Bool). b && is_blocked s z) (opens_same (posture_of m p z) (posture_at s z)) ∙ none_then (refusals.opens s m p z && is_blocked s z) PlaceFull (no_zone (opens_onto_plate s m p) may.2 z) in
    let at : (z : Zone) → lawful_in s.full z (posed_by (posture_of m p z) (zone_at s z)) ≡ true = λ z.
    let v = zone_at s z in
    let q = posture_of m p z in
    let free = unconcerned (concerns_posture q v.posture) (is_concerned s m p z) v.flag (concerned s m p z) (none_then (is_concerned s m p z && v.flag) (PlateInZone z) (no_zone (plate_under_pose s m p) may.1 z)) in
    pose_at s.full m z q v (lawful_from s h z) (posture_suits m p z) (pose_owned s m p z e) free (room_inside s (opens q v.posture) z (opened z)) in
    let At : Zone → Type 0 = λ z. lawful_in s.full z (zone_in (map_zones (posed m p) s.zones) z) ≡ true in
    sound_from (changed s m (SetPose p)) (one_more s.stamp may.3) (each_zone At (at Z1) (at Z2) (at Z3) (at Z4) (at Z5) (at Z6))

-- ---- an advance

abbrev comes_from : Place → Option Transfer → Bool
comes_from p None = false
comes_from p (Some t) = same_place p t.to

fewer_worked : (a b c : Bool) → a ≡ false → fewer (cond a true (cond b false c)) c ≡ true
fewer_worked true b c e = cc
fewer_worked false false true e = refl
fewer_worked false _ _ e = refl

-- no zone leads to the place that work fills
onto_worked : (full : PlaceSet) (from to : Place) (t : Option Transfer) → comes_from to t ≡ false → fewer (is_onto_full (put_place (put_place full from false) to true) t) (is_onto_full full t) ≡ true
onto_worked full from to None e = refl
onto_worked full from to (Some t) e =
    let F : Bool → Type 0 = λ b. fewer b (has full t.to) ≡ true in
    let G : Bool → Type 0 = λ b. fewer (cond (same_place to t.to) true b) (has full t.to) ≡ true in
    subst F (sym (has-put (put_place full from false) true to t.to)) (subst G (sym (has-put full false from t.to)) (fewer_worked (same_place to t.to) (same_place from t.to) (has full t.to) e))

abbrev press_if : Machine → Bool → Bool → Bool
press_if m a b = if same_machine m Press then a else b

pub belts_move : (s : ModelState) (m : Machine) → is_at_work s m ≡ true → (z : Zone) → implies (is_belt_of m z) (same_posture (posture_at s z) Moving) ≡ true
belts_move s Feed e = each_zone (λ z. implies (is_belt_of Feed z) (same_posture (posture_at s z) Moving) ≡ true) refl refl refl refl refl e
belts_move s Deposit e =
    each_zone (λ z. implies (is_belt_of Deposit z) (same_posture (posture_at s z) Moving) ≡ true) refl refl refl
    (and_left (same_posture (posture_at s Z4) Moving) (same_posture (posture_at s Z5) Moving) e)
    (and_right (same_posture (posture_at s Z4) Moving) (same_posture (posture_at s Z5) Moving) e) refl
belts_move s _ e = λ z. refl

press_is_shut : (s : ModelState) (m : Machine) → is_at_work s m ≡ true → (z : Zone) → implies (same_machine m Press && same_zone z Z3) (same_posture (posture_at s z) Closed) ≡ true
press_is_shut s Press e = each_zone (λ z. implies (same_zone z Z3) (same_posture (posture_at s z) Closed) ≡ true) refl refl e refl refl refl
press_is_shut s _ e = λ z. refl

belt_or : (t : Bool) (F : Posture → Bool) (v : ZoneState) (b : Bool) → fewer (F v.posture) b ≡ true → (t || fewer (F (if t then record v { posture = Closed } else v).posture) b) ≡ true
belt_or true F v b e = refl
belt_or false F v b e = e

-- a zone that moves has no plate
no_way_moving : (z : Zone) → transfer_of z Moving ≡ None
no_way_moving Z1 = refl
no_way_moving _ = refl

no_flag : (f b : Bool) → implies f (false && b) ≡ true → f ≡ false
no_flag true b e = sym e
no_flag false b e = refl

no_plate_moving : (b : Bool) (z : Zone) (v : ZoneState) → v.posture ≡ Moving → is_lawful_plate b z v ≡ true → v.flag ≡ false
no_plate_moving b z v e h = no_flag v.flag (not b) (subst (λ t. implies v.flag (is_received_by v.owner t && not b) ≡ true) (ap (transfer_of z) e ∙ no_way_moving z) h)

-- what a belt leaves at its end
abbrev at_rest : Posture
at_rest = Closed

abbrev rest_test : Zone → Bool → Bool → Bool → Bool
rest_test z c i o = implies (press_suits i o z at_rest) (is_lawful c i o z (of_host z at_rest))

rests_by_host : (z : Zone) (c i o : Bool) → rest_test z c i o ≡ true
rests_by_host = holds4 zones bools bools bools rest_test refl

abbrev halted_if : Bool → ZoneState → ZoneState
halted_if t v = if t then record v { posture = at_rest } else v

-- a zone stays lawful that halts, or to which no other place is full than before
stays_lawful : (t b c i o j p : Bool) (z : Zone) (v : ZoneState) → Parts b i o z v → implies t (same_posture v.posture Moving) ≡ true → (t || fewer c b) ≡ true
    → press_suits j p z (halted_if t v).posture ≡ true → is_lawful c j p z (halted_if t v) ≡ true
stays_lawful true b c i o j p z v parts moving less press =
    let now : v.posture ≡ Moving = one_posture v.posture Moving moving in
    let own : is_owned_by v.owner (host_of z) ≡ true = implied (same_posture v.posture Moving) (is_owned_by v.owner (host_of z)) parts.host moving in
    subst (λ w. is_lawful c j p z w ≡ true) (sym (put_by_host v z at_rest own (no_plate_moving b z v now parts.plate)))
    (implied (press_suits j p z at_rest) (is_lawful c j p z (of_host z at_rest)) (rests_by_host z c j p) press)
stays_lawful false b c i o j p z v parts moving less press =
    lawful_of c j p z v (record { owner = parts.owner; plate = plate_fewer c b z v less parts.plate; guest = parts.guest; host = parts.host; posture = parts.posture; press = press })

-- the press is closed while it works
press_worked : (i o : Bool) (m : Machine) (v : ZoneState) → press_suits i o Z3 v.posture ≡ true → implies (same_machine m Press && same_zone Z3 Z3) (same_posture v.posture Closed) ≡ true
    → press_suits (press_if m false i) (press_if m true o) Z3 (halted m Z3 v).posture ≡ true
press_worked i o Press v h shut = subst (λ q. implies (same_posture q OpenIn) false ≡ true) (sym (one_posture v.posture Closed shut)) refl
press_worked i o Feed v h shut = h
press_worked i o Deposit v h shut = h
press_worked i o _ v h shut = h

press_halted : (i o : Bool) (m : Machine) (z : Zone) (v : ZoneState) → press_suits i o z v.posture ≡ true → implies (same_machine m Press && same_zone z Z3) (same_posture v.posture Closed) ≡ true
    → press_suits (press_if m false i) (press_if m true o) z (halted m z v).posture ≡ true
press_halted i o m Z3 v h shut = press_worked i o m v h shut
press_halted i o m _ v h shut = refl

-- an advance on its way, to which no zone leads, and what becomes of the press
advance_by : (s : ModelState) (m : Machine) (from to : Place) → IsSound s → is_at_work s m ≡ true → ((z : Zone) (q : Posture) → comes_from to (transfer_of z q) ≡ false) → s.stamp < 1048575
    → (let full = put_place (put_place s.full from false) to true in has full PressIn ≡ press_if m false (has s.full PressIn))
    → (let full = put_place (put_place s.full from false) to true in has full PressOut ≡ press_if m true (has s.full PressOut))
    → IsSound (record { zones = map_zones (halted m) s.zones; full = put_place (put_place s.full from false) to true; stamp = s.stamp + 1; stopped = s.stopped })
advance_by s m from to h work apart small press_in press_out =
    let full = put_place (put_place s.full from false) to true in
    let at : (z : Zone) → lawful_in full z (halted m z (zone_at s z)) ≡ true = λ z.
    let v = zone_at s z in
    let b = is_onto_full s.full (transfer_of z v.posture) in
    let i = has s.full PressIn in
    let o = has s.full PressOut in
    let F : Posture → Bool = λ x. is_onto_full full (transfer_of z x) in
    let c = F (halted m z v).posture in
    let less : (is_belt_of m z || fewer c b) ≡ true = belt_or (is_belt_of m z) F v b (onto_worked s.full from to (transfer_of z v.posture) (apart z v.posture)) in
    let parts = parts_of b i o z v (lawful_from s h z) in
    let press = press_halted i o m z v parts.press (press_is_shut s m work z) in
    let there : is_lawful c (press_if m false i) (press_if m true o) z (halted m z v) ≡ true =
    stays_lawful (is_belt_of m z) b c i o (press_if m false i) (press_if m true o) z v parts (belts_move s m work z) less press in
    let G : Bool → Type 0 = λ x. is_lawful c x (has full PressOut) z (halted m z v) ≡ true in
    let H : Bool → Type 0 = λ x. is_lawful c (press_if m false i) x z (halted m z v) ≡ true in
    subst G (sym press_in) (subst H (sym press_out) there) in
    let At : Zone → Type 0 = λ z. lawful_in full z (zone_in (map_zones (halted m) s.zones) z) ≡ true in
    sound_from (record { zones = map_zones (halted m) s.zones; full = full; stamp = s.stamp + 1; stopped = s.stopped }) (one_more s.stamp small) (each_zone At (at Z1) (at Z2) (at Z3) (at Z4) (at Z5) (at Z6))

abbrev end_test : Place → Bool
end_test to = all_zones (λ z. all_postures (λ q. not (comes_from to (transfer_of z q))))

apart_from : (to : Place) → end_test to ≡ true → (z : Zone) (q : Posture) → comes_from to (transfer_of z q) ≡ false
apart_from to e z q = not-true (comes_from to (transfer_of z q)) (holds2 zones postures (λ z q. not (comes_from to (transfer_of z q))) e z q)

pub advance_keeps : (s : ModelState) (m : Machine) → IsSound s → advance_refusal s m ≡ None → IsSound (changed s m Advance)
advance_keeps s Feed h e = let may = advance_done s Feed e in advance_by s Feed FeedEntry FeedEnd h may.2 (apart_from FeedEnd refl) may.3 refl refl
advance_keeps s Deposit h e = let may = advance_done s Deposit e in advance_by s Deposit DepEntry DepEnd h may.2 (apart_from DepEnd refl) may.3 refl refl
advance_keeps s Press h e = let may = advance_done s Press e in advance_by s Press PressIn PressOut h may.2 (apart_from PressOut refl) may.3 refl refl
advance_keeps s m h e = cc
