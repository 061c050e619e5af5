-- Calls that are refused only where a step waits, or as worn: for each call, what its caller has to know.
use Rattle.cell_team.proofs.Names.{◌≡◌, Bool, true, false, ◌&&◌, ◌||◌, not, is_none, unwrap_or, Option, Some, None, refl, sym, ap, subst, ⊤, then_some, Machine, Zone, Z1, Z2, Z3, Z4, Z5, Z6, Transfer, Place, Posture, Moving, OpenIn, Pose, Call, Claim, Give, Yield, Take, Release, SetPose, Inquire, Refusal, NotParty, Held, AlreadyMine, Shut, NotOwner, PlateInZone, NoPlate, PlaceFull, WrongWay, Jump, NotAtWork, NoPose, Worn, Stopped, Refused, host_of, guest_of, posture_of, own_move_of}
use Rattle.cell_team.proofs.Names.{same_machine, same_posture, ModelState, zone_at, is_full, is_party, is_open, owns, owner_of, posture_at, refusal, reply, done_unless, none_or, none_then_not, all_zones, from_zones, all_pass, waits_on, is_while_stopped, Never, UntilOwner, UntilFreeAndOpen, UntilFree, is_worn}
use Rattle.std.specs.Option.{option_eq}
use Rattle.cell_types.specs.Everything.{all_zones as every_zone}
use Rattle.cell_rules.specs.Refusals
use Rattle.cell_rules.specs.Refusals.{◌or◌}
use Rattle.cell_control.specs.declared.row.Waits.{Waits}

-- a step that waits so stays on the refusal, or it is worn
abbrev pub is_waited : Waits → Refusal → Bool
is_waited w r = (waits_on w r || is_while_stopped r) || is_worn r

-- a refusal, if any, is waited for
abbrev pub Only : Waits → Option Refusal → Type 0
Only w o = (r : Refusal) → o ≡ Some r → is_waited w r ≡ true

pub none_only : (w : Waits) → Only w None
none_only w r e = cc

or_only : (w : Waits) (a b : Option Refusal) → Only w a → (a ≡ None → Only w b) → Only w (a or b)
or_only w None b ka kb = kb refl
or_only w (Some x) b ka kb = ka

pub unless : (w : Waits) (b : Bool) (r : Refusal) → b ≡ false → Only w (then_some b r)
unless w true r e = cc
unless w false r e = none_only w

unless_not : (w : Waits) (b : Bool) (r : Refusal) → b ≡ true → Only w (then_some (not b) r)
unless_not w true r e = none_only w
unless_not w false r e = cc

same_some : (a b : Refusal) → Some a ≡ Some b → a ≡ b
same_some a b e = cc

pub may : (w : Waits) (b : Bool) (r : Refusal) → is_waited w r ≡ true → Only w (then_some b r)
may w true r k = λ x e. subst (λ y. is_waited w y ≡ true) (same_some r x e) k
may w false r k = none_only w

worn_waited : (w : Waits) → is_waited w Worn ≡ true
worn_waited Never = refl
worn_waited _ = refl

stopped_waited : (w : Waits) → is_waited w Stopped ≡ true
stopped_waited Never = refl
stopped_waited _ = refl

worn_only : (w : Waits) (s : ModelState) → Only w (Refusals.worn s)
worn_only w s = may w _ Worn (worn_waited w)

-- ---- claims

pub claim_only : (w : Waits) (s : ModelState) (m : Machine) (z : Zone) → is_party m z ≡ true → owns s m z ≡ false → Only w (Refusals.held s m z) → Only w (Refusals.shut_to_guest s m z) → Only w (Refusals.claim_refusal s m z)
claim_only w s m z party mine held shut =
    let r0 = Refusals.not_party m z in
    let r1 = r0 or Refusals.while_stopped s in
    let r2 = r1 or Refusals.already_mine s m z in
    let r3 = r2 or Refusals.held s m z in
    let r4 = r3 or Refusals.shut_to_guest s m z in
    or_only w r4 (Refusals.worn s)
    (or_only w r3 (Refusals.shut_to_guest s m z)
    (or_only w r2 (Refusals.held s m z)
    (or_only w r1 (Refusals.already_mine s m z)
    (or_only w r0 (Refusals.while_stopped s) (unless_not w (is_party m z) NotParty party) (λ n. may w _ Stopped (stopped_waited w)))
    (λ n. unless w (owns s m z) AlreadyMine mine))
    (λ n. held))
    (λ n. shut))
    (λ n. worn_only w s)

held_by_none : (w : Waits) (o : Option Machine) (m : Machine) → is_none o ≡ true → Only w (Refusals.held_by o m)
held_by_none w None m e = none_only w
held_by_none w (Some n) m e = cc

held_by_any : (w : Waits) (o : Option Machine) (m : Machine) → ((n : Machine) → is_waited w (Held n) ≡ true) → Only w (Refusals.held_by o m)
held_by_any w None m k = none_only w
held_by_any w (Some n) m k = may w _ (Held n) (k n)

-- a host finds no zone shut
host_only : (w : Waits) (s : ModelState) (m : Machine) (z : Zone) → same_machine m (guest_of z) ≡ false → Only w (Refusals.shut_to_guest s m z)
host_only w s m z host = unless w _ _ (ap (λ b. b && not (is_open (posture_at s z))) host)

-- a host claims a zone that is free, or waits until its guest has left; a guest waits until the zone is free and open
pub first_claim : (s : ModelState) (m : Machine) (z : Zone) → is_party m z ≡ true → same_machine m (guest_of z) ≡ false → owns s m z ≡ false → is_none (owner_of s z) ≡ true → Only Never (Refusals.claim_refusal s m z)
first_claim s m z party host mine free = claim_only Never s m z party mine (held_by_none Never (owner_of s z) m free) (host_only Never s m z host)

pub claim_back : (s : ModelState) (m : Machine) (z : Zone) → is_party m z ≡ true → same_machine m (guest_of z) ≡ false → owns s m z ≡ false → Only UntilFree (Refusals.claim_refusal s m z)
claim_back s m z party host mine = claim_only UntilFree s m z party mine (held_by_any UntilFree (owner_of s z) m (λ n. refl)) (host_only UntilFree s m z host)

pub claim_in : (s : ModelState) (m : Machine) (z : Zone) → is_party m z ≡ true → owns s m z ≡ false → Only UntilFreeAndOpen (Refusals.claim_refusal s m z)
claim_in s m z party mine = claim_only UntilFreeAndOpen s m z party mine (held_by_any UntilFreeAndOpen (owner_of s z) m (λ n. refl)) (may UntilFreeAndOpen _ _ refl)

-- ---- plates

-- a plate can go this way
pub give_only : (w : Waits) (s : ModelState) (m : Machine) (z : Zone) (row : Transfer) → is_party m z ≡ true → owns s m z ≡ true → (zone_at s z).flag ≡ false → Refusals.transfer_given s m z ≡ Some row
    → is_full s row.from ≡ true → Only w (Refusals.no_room s (Some row)) → Only w (Refusals.give_refusal s m z)
give_only w s m z row party own clear way there room =
    let given = Refusals.transfer_given s m z in
    let r0 = Refusals.not_party m z in
    let r1 = r0 or Refusals.while_stopped s in
    let r2 = r1 or Refusals.not_owner s m z in
    let r3 = r2 or Refusals.plate_in_zone s z in
    let r4 = r3 or Refusals.wrong_way given in
    let r5 = r4 or Refusals.nothing_to_give s given in
    let r6 = r5 or Refusals.no_room s given in
    or_only w r6 (Refusals.worn s)
    (or_only w r5 (Refusals.no_room s given)
    (or_only w r4 (Refusals.nothing_to_give s given)
    (or_only w r3 (Refusals.wrong_way given)
    (or_only w r2 (Refusals.plate_in_zone s z)
    (or_only w r1 (Refusals.not_owner s m z)
    (or_only w r0 (Refusals.while_stopped s) (unless_not w (is_party m z) NotParty party) (λ n. may w _ Stopped (stopped_waited w)))
    (λ n. unless_not w (owns s m z) (NotOwner (owner_of s z)) own))
    (λ n. unless w (zone_at s z).flag (PlateInZone z) clear))
    (λ n. unless w (is_none given) WrongWay (ap (λ (x : Option Transfer). is_none x) way)))
    (λ n. subst (λ x. Only w (Refusals.nothing_to_give s x)) (sym way) (unless_not w (is_full s row.from) NoPlate there)))
    (λ n. subst (λ x. Only w (Refusals.no_room s x)) (sym way) room))
    (λ n. worn_only w s)

-- who takes has the zone with a plate, or waits for that
pub take_only : (w : Waits) (s : ModelState) (m : Machine) (z : Zone) → is_party m z ≡ true → Only w (Refusals.not_owner s m z) → (owns s m z ≡ true → (zone_at s z).flag ≡ true) → Only w (Refusals.take_refusal s m z)
take_only w s m z party own lent =
    let r0 = Refusals.not_party m z in
    let r1 = r0 or Refusals.not_owner s m z in
    let r2 = r1 or Refusals.no_plate_in_zone s z in
    or_only w r2 (Refusals.worn s)
    (or_only w r1 (Refusals.no_plate_in_zone s z)
    (or_only w r0 (Refusals.not_owner s m z) (unless_not w (is_party m z) NotParty party) (λ n. own))
    (λ n. unless_not w (zone_at s z).flag NoPlate (lent (none_then_not (owns s m z) (NotOwner (owner_of s z)) (none_or r0 (Refusals.not_owner s m z) n).1))))
    (λ n. worn_only w s)

pub take_back : (s : ModelState) (m : Machine) (z : Zone) → is_party m z ≡ true → (owns s m z ≡ true → (zone_at s z).flag ≡ true) → Only UntilOwner (Refusals.take_refusal s m z)
take_back s m z party lent = take_only UntilOwner s m z party (may UntilOwner _ _ refl) lent

pub take_own : (s : ModelState) (m : Machine) (z : Zone) → is_party m z ≡ true → owns s m z ≡ true → (zone_at s z).flag ≡ true → Only Never (Refusals.take_refusal s m z)
take_own s m z party own loaded = take_only Never s m z party (unless_not Never (owns s m z) (NotOwner (owner_of s z)) own) (λ o. loaded)

pub release_only : (s : ModelState) (m : Machine) (z : Zone) → is_party m z ≡ true → owns s m z ≡ true → (zone_at s z).flag ≡ false → same_posture (posture_at s z) Moving ≡ false → Refusals.in_use s m z ≡ None → Only Never (Refusals.release_refusal s m z)
release_only s m z party own clear stands unused =
    let w = Never in
    let r0 = Refusals.not_party m z in
    let r1 = r0 or Refusals.not_owner s m z in
    let r2 = r1 or Refusals.plate_in_zone s z in
    let r3 = r2 or Refusals.shut_while_moving s z in
    let r4 = r3 or Refusals.in_use s m z in
    or_only w r4 (Refusals.worn s)
    (or_only w r3 (Refusals.in_use s m z)
    (or_only w r2 (Refusals.shut_while_moving s z)
    (or_only w r1 (Refusals.plate_in_zone s z)
    (or_only w r0 (Refusals.not_owner s m z) (unless_not w (is_party m z) NotParty party) (λ n. unless_not w (owns s m z) (NotOwner (owner_of s z)) own))
    (λ n. unless w (zone_at s z).flag (PlateInZone z) clear))
    (λ n. unless w (same_posture (posture_at s z) Moving) (Shut Moving) stands))
    (λ n. subst (λ x. Only w x) (sym unused) (none_only w)))
    (λ n. worn_only w s)

-- ---- poses and work

-- the machine owns the zones that it hosts, and no plate is in them
abbrev pub Clears : ModelState → Machine → Type 0
Clears s m = (z : Zone) → same_machine (host_of z) m ≡ true → (owns s m z ≡ true) × ((zone_at s z).flag ≡ false)

first_only : (w : Waits) (f : Zone → Option Refusal) → ((z : Zone) → Only w (f z)) → Only w (Refusals.first_zone f)
first_only w f k =
    let r2 = f Z1 or f Z2 in
    let r3 = r2 or f Z3 in
    let r4 = r3 or f Z4 in
    let r5 = r4 or f Z5 in
    or_only w r5 (f Z6) (or_only w r4 (f Z5) (or_only w r3 (f Z4) (or_only w r2 (f Z3) (or_only w (f Z1) (f Z2) (k Z1) (λ n. k Z2)) (λ n. k Z3)) (λ n. k Z4)) (λ n. k Z5)) (λ n. k Z6)

-- a zone that a pose concerns is hosted
concerns : (hosted more bad : Bool) → (hosted ≡ true → bad ≡ false) → ((hosted && more) && bad) ≡ false
concerns false more bad k = refl
concerns true false bad k = refl
concerns true true bad k = k refl

not_false : (b : Bool) → b ≡ true → not b ≡ false
not_false true e = refl
not_false false e = cc

-- a zone that opens inward has room
unlike : (b more : Bool) → ((b && not b) && more) ≡ false
unlike true more = refl
unlike false more = refl

shut : (a b : Bool) → b ≡ false → (a && b) ≡ false
shut true b e = e
shut false b e = refl

opens_clear : (o : Option Posture) (q : Posture) (blocked : Bool) → (o ≡ Some OpenIn → blocked ≡ false) → ((same_posture (unwrap_or o q) OpenIn && not (same_posture q OpenIn)) && blocked) ≡ false
opens_clear None q blocked k = unlike (same_posture q OpenIn) blocked
opens_clear (Some OpenIn) q blocked k = shut (not (same_posture q OpenIn)) blocked (k refl)
opens_clear (Some x) q blocked k = refl

abbrev pub HasRoom : ModelState → Machine → Pose → Type 0
HasRoom s m p = (z : Zone) → posture_of m p z ≡ Some OpenIn → Refusals.is_blocked s z ≡ false

-- of a pose that opens no zone inward nothing is asked
not_inward : (o : Option Posture) (P : Type 0) → not (option_eq same_posture o (Some OpenIn)) ≡ true → o ≡ Some OpenIn → P
not_inward None P e f = cc
not_inward (Some OpenIn) P e f = cc
not_inward (Some x) P e f = cc

abbrev opens_nothing : Machine → Pose → Zone → Bool
opens_nothing m p z = not (option_eq same_posture (posture_of m p z) (Some OpenIn))

pub has_room : (s : ModelState) (m : Machine) (p : Pose) → all_zones (opens_nothing m p) ≡ true → HasRoom s m p
has_room s m p test z e = not_inward (posture_of m p z) _ (from_zones (opens_nothing m p) test z) e

pub pose_only : (s : ModelState) (m : Machine) (p : Pose) → Refusals.has_pose m p ≡ true → Clears s m → Refusals.jump s m p ≡ None → HasRoom s m p → Refusals.runs_onto_plate s m p ≡ None → Only Never (Refusals.pose_refusal s m p)
pose_only s m p has clears no_jump room runs =
    let w = Never in
    let more = λ (z : Zone). Refusals.is_moving_pose p || not (same_posture (Refusals.posture_with s m p z) (posture_at s z)) in
    let r0 = Refusals.lacks_pose m p in
    let r1 = r0 or Refusals.moves_while_stopped s p in
    let r2 = r1 or Refusals.first_zone (Refusals.unowned_by_pose s m p) in
    let r3 = r2 or Refusals.first_zone (Refusals.plate_under_pose s m p) in
    let r4 = r3 or Refusals.jump s m p in
    let r5 = r4 or Refusals.first_zone (Refusals.opens_onto_plate s m p) in
    let r6 = r5 or Refusals.runs_onto_plate s m p in
    or_only w r6 (Refusals.worn s)
    (or_only w r5 (Refusals.runs_onto_plate s m p)
    (or_only w r4 (Refusals.first_zone (Refusals.opens_onto_plate s m p))
    (or_only w r3 (Refusals.jump s m p)
    (or_only w r2 (Refusals.first_zone (Refusals.plate_under_pose s m p))
    (or_only w r1 (Refusals.first_zone (Refusals.unowned_by_pose s m p))
    (or_only w r0 (Refusals.moves_while_stopped s p) (unless_not w (Refusals.has_pose m p) NoPose has) (λ n. may w _ Stopped (stopped_waited w)))
    (λ n. first_only w (Refusals.unowned_by_pose s m p) (λ z. unless w _ _ (concerns (same_machine (host_of z) m) (more z) (not (owns s m z)) (λ h. not_false (owns s m z) (clears z h).0)))))
    (λ n. first_only w (Refusals.plate_under_pose s m p) (λ z. unless w _ _ (concerns (same_machine (host_of z) m) (more z) (zone_at s z).flag (λ h. (clears z h).1)))))
    (λ n. subst (λ x. Only w x) (sym no_jump) (none_only w)))
    (λ n. first_only w (Refusals.opens_onto_plate s m p) (λ z. unless w _ _ (opens_clear (posture_of m p z) (posture_at s z) (Refusals.is_blocked s z) (room z)))))
    (λ n. subst (λ x. Only w x) (sym runs) (none_only w)))
    (λ n. worn_only w s)

pub advance_only : (s : ModelState) (m : Machine) (way : Place × Place) → own_move_of m ≡ Some way → Refusals.press_unowned s m ≡ None → Refusals.is_at_work s m ≡ true → is_full s way.0 ≡ true → is_full s way.1 ≡ false → Only Never (Refusals.advance_refusal s m)
advance_only s m way work own at there room =
    let w = Never in
    let r0 = Refusals.has_no_work m in
    let r1 = r0 or Refusals.press_unowned s m in
    let r2 = r1 or Refusals.not_at_work s m in
    let r3 = r2 or Refusals.nothing_to_work s (own_move_of m) in
    let r4 = r3 or Refusals.no_room_for_work s (own_move_of m) in
    or_only w r4 (Refusals.worn s)
    (or_only w r3 (Refusals.no_room_for_work s (own_move_of m))
    (or_only w r2 (Refusals.nothing_to_work s (own_move_of m))
    (or_only w r1 (Refusals.not_at_work s m)
    (or_only w r0 (Refusals.press_unowned s m) (unless w (is_none (own_move_of m)) NoPose (ap (λ (x : Option (Place × Place)). is_none x) work)) (λ n. subst (λ x. Only w x) (sym own) (none_only w)))
    (λ n. unless_not w (Refusals.is_at_work s m) NotAtWork at))
    (λ n. subst (λ x. Only w (Refusals.nothing_to_work s x)) (sym work) (unless_not w (is_full s way.0) NoPlate there)))
    (λ n. subst (λ x. Only w (Refusals.no_room_for_work s x)) (sym work) (unless w (is_full s way.1) PlaceFull room)))
    (λ n. worn_only w s)

-- table and press take a pose that stands while all their zones move
pub no_jump : (s : ModelState) (m : Machine) → ((z : Zone) → Refusals.moves_at s m z ≡ true) → then_some (not (Refusals.all_move s m)) Jump ≡ None
no_jump s m moves = ap (λ b. then_some (not b) Jump) (all_pass (Refusals.moves_at s m) moves every_zone)

-- ---- the reply

some_of : (o : Option Refusal) (r : Refusal) → done_unless o ≡ Refused r → o ≡ Some r
some_of None r e = cc
some_of (Some x) r e = cc

refusal_of : (s : ModelState) (m : Machine) (c : Call) (r : Refusal) → reply s m c ≡ Refused r → refusal s m c ≡ Some r
refusal_of s m (Claim z) r e = some_of _ r e
refusal_of s m (Give z) r e = some_of _ r e
refusal_of s m (Yield z) r e = some_of _ r e
refusal_of s m (Take z) r e = some_of _ r e
refusal_of s m (Release z) r e = some_of _ r e
refusal_of s m (SetPose p) r e = some_of _ r e
refusal_of s m (Inquire z) r e = cc
refusal_of s m _ r e = some_of _ r e

-- what a step asks, if it asks, is heeded
abbrev pub Heeds : Waits → ModelState → Machine → Option Call → Type 0
Heeds w s m None = ⊤
Heeds w s m (Some c) = Only w (refusal s m c)

pub heeded : (w : Waits) (s : ModelState) (m : Machine) (o : Option Call) (c : Call) (r : Refusal) → Heeds w s m o → o ≡ Some c → reply s m c ≡ Refused r → is_waited w r ≡ true
heeded w s m o c r k e f = let only = subst (λ x. Heeds w s m x) e k in only r (refusal_of s m c r f)
