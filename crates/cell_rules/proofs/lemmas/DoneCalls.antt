-- What holds if a call isn't refused.
use Rattle.cell_rules.proofs.Names.{◌≡◌, ◌+◌, ◌<◌, ◌≤◌, ℕ, zero, suc, Bool, true, false, ◌&&◌, not, nat_lt, Option, Some, None, List, [], ◌∷◌, refl, is_none, is_some, arith, ltb-true, then_some, Machine, Watch, Zone, Z1, Z2, Z3, Z4, Z5, Z6, Place, Pose, Transfer, Moving, Refusal, Held, NoPose, guest_of, transfer_of, same_machine, same_posture, own_move_of, ModelState, zone_at, is_open, is_party, is_owned_by, ZoneState}
use Rattle.cell_rules.specs.Refusals
use Rattle.cell_rules.proofs.lemmas.Tables.{and_both}
use Rattle.cell_rules.proofs.lemmas.Puts.{each_zone}

-- neither of two refusals applies
pub none_or : (a b : Option Refusal) → Refusals.◌or◌ a b ≡ None → (a ≡ None) × (b ≡ None)
none_or None b e = (refl, e)
none_or (Some r) b e = cc

pub none_then : (b : Bool) (r : Refusal) → then_some b r ≡ None → b ≡ false
none_then true r e = cc
none_then false r e = refl

pub none_then_not : (b : Bool) (r : Refusal) → then_some (not b) r ≡ None → b ≡ true
none_then_not true r e = refl
none_then_not false r e = cc

pub not_true : (b : Bool) → b ≡ false → not b ≡ true
not_true true e = cc
not_true false e = refl

free : (o : Option Machine) (m : Machine) → is_owned_by o m ≡ false → Refusals.held_by o m ≡ None → is_none o ≡ true
free None m e h = refl
free (Some o) m e h = let p : same_machine o m ≡ true = none_then_not (same_machine o m) (Held o) h in cc

pub fresh : (s : ModelState) → Refusals.worn s ≡ None → s.stamp < 1048575
fresh s e = let h : nat_lt s.stamp 1048575 ≡ true = none_then_not _ _ e in ltb-true _ _ h

pub one_more : (n : ℕ) → n < 1048575 → n + 1 ≤ 1048575
one_more n small = omega arith

-- what holds of the zone, for each call
abbrev pub may_claim : ZoneState → Machine → Zone → Bool
may_claim v m z = is_party m z && (is_none v.owner && not (same_machine m (guest_of z) && not (is_open v.posture)))

abbrev pub may_yield : ZoneState → Machine → Zone → Bool
may_yield v m z = is_party m z && (is_owned_by v.owner m && (not v.flag && is_open v.posture))

abbrev pub may_release : ZoneState → Machine → Zone → Bool
may_release v m z = is_party m z && (is_owned_by v.owner m && (not v.flag && not (same_posture v.posture Moving)))

abbrev pub may_give : ZoneState → Machine → Zone → Bool
may_give v m z = is_party m z && (is_owned_by v.owner m && (not v.flag && is_some (Refusals.given_by m (transfer_of z v.posture))))

abbrev pub may_take : ZoneState → Machine → Zone → Bool
may_take v m z = is_party m z && (is_owned_by v.owner m && v.flag)

-- none of a call's conditions applies, by their places in the order
abbrev pub first_of_all : Option Refusal → List (Option Refusal) → Option Refusal
first_of_all found [] = found
first_of_all found (o ∷ os) = first_of_all (Refusals.◌or◌ found o) os

abbrev pub at : List (Option Refusal) → ℕ → Option Refusal
at [] i = None
at (o ∷ os) zero = o
at (o ∷ os) (suc i) = at os i

none_before : (found : Option Refusal) (os : List (Option Refusal)) → first_of_all found os ≡ None → found ≡ None
none_before found [] e = e
none_before found (o ∷ os) e = (none_or found o (none_before (Refusals.◌or◌ found o) os e)).0

none_after : (found : Option Refusal) (os : List (Option Refusal)) → first_of_all found os ≡ None → (i : ℕ) → at os i ≡ None
none_after found [] e i = refl
none_after found (o ∷ os) e zero = (none_or found o (none_before (Refusals.◌or◌ found o) os e)).1
none_after found (o ∷ os) e (suc i) = none_after (Refusals.◌or◌ found o) os e i

pub none_at : (os : List (Option Refusal)) → first_of_all None os ≡ None → (i : ℕ) → at os i ≡ None
none_at os e = none_after None os e

pub claim_done : (s : ModelState) (m : Machine) (z : Zone) → Refusals.claim_refusal s m z ≡ None → (may_claim (zone_at s z) m z ≡ true) × (s.stamp < 1048575) × (s.stopped ≡ false)
claim_done s m z e =
    let none = none_at (Refusals.not_party m z ∷ Refusals.while_stopped s ∷ Refusals.already_mine s m z ∷ Refusals.held s m z
    ∷ Refusals.shut_to_guest s m z ∷ Refusals.worn s ∷ []) e in
    (and_both _ _ (none_then_not _ _ (none 0)) (and_both _ _ (free _ m (none_then _ _ (none 2)) (none 3)) (not_true _ (none_then _ _ (none 4)))), fresh s (none 5), none_then _ _ (none 1))

abbrev pub yield_conditions : ModelState → Machine → Zone → List (Option Refusal)
yield_conditions s m z = Refusals.not_party m z ∷ Refusals.not_owner s m z ∷ Refusals.plate_in_zone s z ∷ Refusals.shut s z ∷ Refusals.in_use s m z ∷ Refusals.worn s ∷ []

pub yield_done : (s : ModelState) (m : Machine) (z : Zone) → Refusals.yield_refusal s m z ≡ None → (may_yield (zone_at s z) m z ≡ true) × (s.stamp < 1048575)
yield_done s m z e =
    let none = none_at (yield_conditions s m z) e in
    (and_both _ _ (none_then_not _ _ (none 0)) (and_both _ _ (none_then_not _ _ (none 1)) (and_both _ _ (not_true _ (none_then _ _ (none 2))) (none_then_not _ _ (none 3)))), fresh s (none 5))

abbrev pub release_conditions : ModelState → Machine → Zone → List (Option Refusal)
release_conditions s m z = Refusals.not_party m z ∷ Refusals.not_owner s m z ∷ Refusals.plate_in_zone s z ∷ Refusals.shut_while_moving s z ∷ Refusals.in_use s m z ∷ Refusals.worn s ∷ []

pub release_done : (s : ModelState) (m : Machine) (z : Zone) → Refusals.release_refusal s m z ≡ None → (may_release (zone_at s z) m z ≡ true) × (s.stamp < 1048575)
release_done s m z e =
    let none = none_at (release_conditions s m z) e in
    (and_both _ _ (none_then_not _ _ (none 0)) (and_both _ _ (none_then_not _ _ (none 1)) (and_both _ _ (not_true _ (none_then _ _ (none 2))) (not_true _ (none_then _ _ (none 3))))), fresh s (none 5))

pub take_done : (s : ModelState) (m : Machine) (z : Zone) → Refusals.take_refusal s m z ≡ None → (may_take (zone_at s z) m z ≡ true) × (s.stamp < 1048575)
take_done s m z e =
    let none = none_at (Refusals.not_party m z ∷ Refusals.not_owner s m z ∷ Refusals.no_plate_in_zone s z ∷ Refusals.worn s ∷ []) e in
    (and_both _ _ (none_then_not _ _ (none 0)) (and_both _ _ (none_then_not _ _ (none 1)) (none_then_not _ _ (none 2))), fresh s (none 3))

pub some_unless : (o : Option Transfer) → Refusals.wrong_way o ≡ None → is_some o ≡ true
some_unless None e = cc
some_unless (Some row) e = refl

abbrev pub give_conditions : ModelState → Machine → Zone → List (Option Refusal)
give_conditions s m z =
    let row = Refusals.transfer_given s m z in
    Refusals.not_party m z ∷ Refusals.while_stopped s ∷ Refusals.not_owner s m z ∷ Refusals.plate_in_zone s z
    ∷ Refusals.wrong_way row ∷ Refusals.nothing_to_give s row ∷ Refusals.no_room s row ∷ Refusals.worn s ∷ []

pub give_done : (s : ModelState) (m : Machine) (z : Zone) → Refusals.give_refusal s m z ≡ None → (may_give (zone_at s z) m z ≡ true) × (Refusals.no_room s (Refusals.transfer_given s m z) ≡ None) × (s.stamp < 1048575) × (s.stopped ≡ false)
give_done s m z e =
    let none = none_at (give_conditions s m z) e in
    let here = and_both _ _ (none_then_not _ _ (none 2)) (and_both _ _ (not_true _ (none_then _ _ (none 3))) (some_unless (Refusals.transfer_given s m z) (none 4))) in
    (and_both _ _ (none_then_not _ _ (none 0)) here, none 6, fresh s (none 7), none_then _ _ (none 1))

abbrev pub pose_conditions : ModelState → Machine → Pose → List (Option Refusal)
pose_conditions s m p =
    Refusals.lacks_pose m p ∷ Refusals.moves_while_stopped s p ∷ Refusals.first_zone (Refusals.unowned_by_pose s m p)
    ∷ Refusals.first_zone (Refusals.plate_under_pose s m p) ∷ Refusals.jump s m p
    ∷ Refusals.first_zone (Refusals.opens_onto_plate s m p) ∷ Refusals.runs_onto_plate s m p ∷ Refusals.worn s ∷ []

pub pose_done : (s : ModelState) (m : Machine) (p : Pose) → Refusals.pose_refusal s m p ≡ None
    → (Refusals.first_zone (Refusals.unowned_by_pose s m p) ≡ None) × (Refusals.first_zone (Refusals.plate_under_pose s m p) ≡ None)
    × (Refusals.first_zone (Refusals.opens_onto_plate s m p) ≡ None) × (s.stamp < 1048575) × ((Refusals.is_moving_pose p && s.stopped) ≡ false)
pose_done s m p e = let none = none_at (pose_conditions s m p) e in (none 2, none 3, none 5, fresh s (none 7), none_then _ _ (none 1))

-- if the zones have no first refusal, no zone refuses
pub no_zone : (f : Zone → Option Refusal) → Refusals.first_zone f ≡ None → (z : Zone) → f z ≡ None
no_zone f e =
    let none = none_at (f Z1 ∷ f Z2 ∷ f Z3 ∷ f Z4 ∷ f Z5 ∷ f Z6 ∷ []) e in
    each_zone (λ z. f z ≡ None) (none 0) (none 1) (none 2) (none 3) (none 4) (none 5)

some_way : (o : Option (Place × Place)) → then_some (is_none o) NoPose ≡ None → is_some o ≡ true
some_way None e = cc
some_way (Some way) e = refl

abbrev pub advance_conditions : ModelState → Machine → List (Option Refusal)
advance_conditions s m =
    let way = own_move_of m in
    Refusals.has_no_work m ∷ Refusals.press_unowned s m ∷ Refusals.not_at_work s m ∷ Refusals.nothing_to_work s way ∷ Refusals.no_room_for_work s way ∷ Refusals.worn s ∷ []

pub advance_done : (s : ModelState) (m : Machine) → Refusals.advance_refusal s m ≡ None
    → (is_some (own_move_of m) ≡ true) × (Refusals.press_unowned s m ≡ None) × (Refusals.is_at_work s m ≡ true) × (s.stamp < 1048575)
advance_done s m e = let none = none_at (advance_conditions s m) e in (some_way (own_move_of m) (none 0), none 1, none_then_not _ _ (none 2), fresh s (none 5))

pub stop_done : (s : ModelState) (m : Machine) → Refusals.stop_refusal s m ≡ None → (same_machine m Watch ≡ true) × (s.stopped ≡ false) × (s.stamp < 1048575)
stop_done s m e =
    let none = none_at (Refusals.not_watch m ∷ Refusals.while_stopped s ∷ Refusals.worn s ∷ []) e in
    (none_then_not _ _ (none 0), none_then _ _ (none 1), fresh s (none 2))

pub resume_done : (s : ModelState) (m : Machine) → Refusals.resume_refusal s m ≡ None → (same_machine m Watch ≡ true) × (s.stopped ≡ true) × (s.stamp < 1048575)
resume_done s m e =
    let none = none_at (Refusals.not_watch m ∷ Refusals.not_stopped s ∷ Refusals.worn s ∷ []) e in
    (none_then_not _ _ (none 0), none_then_not _ _ (none 1), fresh s (none 2))
