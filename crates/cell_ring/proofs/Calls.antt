-- What a Done call does to the plates on the ring.
use Rattle.cell_ring.proofs.Names.{◌≡◌, Bool, true, false, ◌&&◌, ◌||◌, not, cond, is_some, is_none, Option, Some, None, unwrap_or, inl, inr, refl, sym, ap, subst, ◌∙◌, count_by, eqb-true, nat_eq, implied, implies, and_left, and_right, and_both, holds2, holds3, holds4, zones, machines, postures, poses, one_if}
use Rattle.cell_ring.proofs.Names.{Machine, Transfer, Zone, Place, Posture, Moving, Pose, Call, Claim, Give, Yield, Take, Release, SetPose, Advance, Inquire, Stop, Resume, Done, PlateInZone, host_of, transfer_of, posture_of, own_move_of, same_machine, same_zone, same_place, same_posture, one_posture, one_place, one_zone, ModelState, ZoneState, ZoneMap, PlaceSet, zone_in, put_zone, map_zones, has, put_place, zone_at, is_full, posture_at, IsSound}
use Rattle.cell_ring.proofs.Names.{is_received_by, is_onto_full, reply, next, next_by, changed, emptied, filled, worked, halted, posed, is_belt_of, given_by, give_refusal, take_refusal, pose_refusal, advance_refusal, is_at_work, is_concerned, is_moving_pose, posture_with, plate_under_pose, zone_in-put, zone_in-map, put_cases, has-put, give_finds, take_finds, advance_finds, halted-flag, done_none, none_then, no_zone, never, same_posture-self, not_true, pose_done, advance_done, claimed, yielded, released, given, taken}
use Rattle.cell_ring.specs.Lap.{Position, next_position, all_positions}
use Rattle.cell_ring.specs.Plates.{has_plate, takes_away, moves_plate, GoesOn, RulesFollowLap}
use Rattle.cell_rules.specs.Types.{Z1, Z4, Z5, Z6, Feed, Deposit}
use Rattle.cell_ring.proofs.Ring.{positions}
use Rattle.cell_ring.proofs.Sums.{some_counted}
use Rattle.cell_ring.proofs.Spots.{Spot, spot, in_zone, at_spot, has_spot, same_spot, one_spot, shifted, shifts}

-- ---- the plates after a zone is put and a place emptied or filled

in_zone_put : (m : ZoneMap) (v : ZoneState) (z y : Zone) (r : Posture) → in_zone (zone_in (put_zone m z v) y) r ≡ cond (same_zone z y) (in_zone v r) (in_zone (zone_in m y) r)
in_zone_put m v z y r =
    let At : Bool → Type 0 = λ b. in_zone (cond b v (zone_in m y)) r ≡ cond b (in_zone v r) (in_zone (zone_in m y) r) in
    ap (λ (u : ZoneState). in_zone u r) (zone_in-put m v z y) ∙ elim (same_zone z y) as At [ true ↦ refl | false ↦ refl ]

cond_itself : (b : Bool) → b ≡ cond b true false
cond_itself true = refl
cond_itself false = refl

cond_not_both : (b f : Bool) → false ≡ cond b false (f && b)
cond_not_both true f = refl
cond_not_both false true = refl
cond_not_both false false = refl

-- in the zone of a give: there was no plate, and now there is one, in this posture only
into_zone : (same : Bool) (v old : ZoneState) (q r : Posture) → (same ≡ true → old.flag ≡ false) → v.flag ≡ true → v.posture ≡ q → cond same (in_zone v r) (in_zone old r) ≡ shifted false (same && same_posture q r) (in_zone old r)
into_zone true v old q r clear set posture =
    (λ i. set i && same_posture (posture i) r) ∙ cond_itself (same_posture q r) ∙ sym (ap (λ f. cond (same_posture q r) true (f && same_posture old.posture r)) (clear refl))
into_zone false v old q r clear set posture = refl

-- in the zone of a take: there was one, in this posture only, and now there is none
out_of_zone : (same : Bool) (v old : ZoneState) (q r : Posture) → (same ≡ true → old.posture ≡ q) → v.flag ≡ false → cond same (in_zone v r) (in_zone old r) ≡ shifted (same && same_posture q r) false (in_zone old r)
out_of_zone true v old q r posture clear =
    (λ i. clear i && same_posture v.posture r) ∙ cond_not_both (same_posture q r) old.flag ∙ sym (ap (λ x. cond (same_posture q r) false (old.flag && same_posture x r)) (posture refl))
out_of_zone false v old q r posture clear = refl

given_at : (s : ModelState) (z : Zone) (v : ZoneState) (from : Place) (q : Posture) → (zone_at s z).flag ≡ false → v.flag ≡ true → v.posture ≡ q → (w : Spot)
    → at_spot (put_place s.full from false) (put_zone s.zones z v) w ≡ shifted (same_spot (inl from) w) (same_spot (inr (z, q)) w) (at_spot s.full s.zones w)
given_at s z v from q clear set posture (inl p) = has-put s.full false from p
given_at s z v from q clear set posture (inr w) =
    in_zone_put s.zones v z w.0 w.1 ∙ into_zone (same_zone z w.0) v (zone_at s w.0) q w.1 (λ e. ap (λ x. (zone_at s x).flag) (sym (one_zone z w.0 e)) ∙ clear) set posture

taken_at : (s : ModelState) (z : Zone) (v : ZoneState) (to : Place) (q : Posture) → posture_at s z ≡ q → v.flag ≡ false → (w : Spot)
    → at_spot (put_place s.full to true) (put_zone s.zones z v) w ≡ shifted (same_spot (inr (z, q)) w) (same_spot (inl to) w) (at_spot s.full s.zones w)
taken_at s z v to q posture clear (inl p) = has-put s.full true to p
taken_at s z v to q posture clear (inr w) =
    in_zone_put s.zones v z w.0 w.1 ∙ out_of_zone (same_zone z w.0) v (zone_at s w.0) q w.1 (λ e. ap (posture_at s) (sym (one_zone z w.0 e)) ∙ posture) clear

-- ---- an advance: in no zone does a plate move, for a belt that works has none in its zones

-- a zone keeps its plate, and keeps its posture if it has one
pub record KeepsWay (v new : ZoneState) : Type 0 where
  pub flag : new.flag ≡ v.flag
  pub posture : v.flag ≡ true → new.posture ≡ v.posture

same_way : (f : Bool) (a b r : Posture) → (f ≡ true → b ≡ a) → (f && same_posture b r) ≡ (f && same_posture a r)
same_way true a b r e = ap (λ x. same_posture x r) (e refl)
same_way false a b r e = refl

keeps_way : (v new : ZoneState) (r : Posture) → KeepsWay v new → in_zone new r ≡ in_zone v r
keeps_way v new r k = ap (λ f. f && same_posture new.posture r) k.flag ∙ same_way v.flag v.posture new.posture r k.posture

swapped : (a b x : Bool) → (a ≡ true → b ≡ true → ⊥) → cond a true (cond b false x) ≡ shifted b a x
swapped true true x differ = absurd (differ refl refl)
swapped true false x differ = refl
swapped false b x differ = refl

worked_at : (full : PlaceSet) (from to p : Place) → (to ≡ from → ⊥) → has (put_place (put_place full from false) to true) p ≡ shifted (same_place from p) (same_place to p) (has full p)
worked_at full from to p apart =
    has-put (put_place full from false) true to p ∙ ap (cond (same_place to p) true) (has-put full false from p)
    ∙ swapped (same_place to p) (same_place from p) (has full p) (λ e f. apart (one_place to p e ∙ sym (one_place from p f)))

moving_has_no_row : (z : Zone) (o : Option Machine) → is_received_by o (transfer_of z Moving) ≡ true → ⊥
moving_has_no_row Z1 o e = cc
moving_has_no_row _ o e = cc

moving_has_no_plate : (s : ModelState) (z : Zone) → IsSound s → posture_at s z ≡ Moving → (zone_at s z).flag ≡ true → ⊥
moving_has_no_plate s z h moving flag =
    let v = zone_at s z in
    let onto = not (is_onto_full s.full (transfer_of z v.posture)) in
    let received = and_left (is_received_by v.owner (transfer_of z v.posture)) onto (implied v.flag (is_received_by v.owner (transfer_of z v.posture) && onto) (h.flag_has_transfer z) flag) in
    moving_has_no_row z v.owner (subst (λ q. is_received_by v.owner (transfer_of z q) ≡ true) moving received)

halted_at : (s : ModelState) (m : Machine) (z : Zone) → IsSound s → is_at_work s m ≡ true → (zone_at s z).flag ≡ true → (halted m z (zone_at s z)).posture ≡ posture_at s z
halted_at s Feed Z6 h work flag = absurd (moving_has_no_plate s Z6 h (one_posture _ _ work) flag)
halted_at s Deposit Z4 h work flag = absurd (moving_has_no_plate s Z4 h (one_posture _ _ (and_left (same_posture (posture_at s Z4) Moving) (same_posture (posture_at s Z5) Moving) work)) flag)
halted_at s Deposit Z5 h work flag = absurd (moving_has_no_plate s Z5 h (one_posture _ _ (and_right (same_posture (posture_at s Z4) Moving) (same_posture (posture_at s Z5) Moving) work)) flag)
halted_at s _ _ h work flag = refl

advanced_at : (s : ModelState) (m : Machine) (from to : Place) → IsSound s → is_at_work s m ≡ true → (to ≡ from → ⊥) → (w : Spot)
    → at_spot (put_place (put_place s.full from false) to true) (map_zones (halted m) s.zones) w ≡ shifted (same_spot (inl from) w) (same_spot (inl to) w) (at_spot s.full s.zones w)
advanced_at s m from to h work apart (inl p) = worked_at s.full from to p apart
advanced_at s m from to h work apart (inr w) =
    let v = zone_at s w.0 in
    ap (λ (u : ZoneState). in_zone u w.1) (zone_in-map (halted m) s.zones w.0)
    ∙ keeps_way v (halted m w.0 v) w.1 (record { flag = halted-flag (is_belt_of m w.0) v; posture = halted_at s m w.0 h work })

-- ---- the calls that move a plate

abbrev gives_row : Position → Zone → Posture → Option Transfer → Bool
gives_row p z q None = true
gives_row p z q (Some row) = same_spot (spot p) (inl row.from) && same_spot (spot (next_position p)) (inr (z, q))

abbrev give_test : Machine → Zone → Posture → Position → Bool
give_test m z q p = implies (takes_away m (Give z) p) (gives_row p z q (given_by m (transfer_of z q)))

abbrev takes_row : Machine → Position → Zone → Posture → Option Transfer → Bool
takes_row m p z q None = true
takes_row m p z q (Some row) =
    implies (same_machine m row.receiver) (same_spot (spot p) (inr (z, q)) && same_spot (spot (next_position p)) (inl row.to))

abbrev take_test : Machine → Zone → Posture → Position → Bool
take_test m z q p = implies (takes_away m (Take z) p) (takes_row m p z q (transfer_of z q))

abbrev works_way : Position → Option (Place × Place) → Bool
works_way p None = true
works_way p (Some way) = same_spot (spot p) (inl way.0) && same_spot (spot (next_position p)) (inl way.1)

abbrev advance_test : Machine → Position → Bool
advance_test m p = implies (takes_away m Advance p) (works_way p (own_move_of m))

give_goes_on : (s : ModelState) (m : Machine) (z : Zone) → give_refusal s m z ≡ None → (p : Position) → takes_away m (Give z) p ≡ true → GoesOn s (changed s m (Give z)) p
give_goes_on s m z e p mine =
    let found = give_finds s m z e in
    let row = found.row in
    let q = posture_at s z in
    let a = same_spot (spot p) (inl row.from) in
    let b = same_spot (spot (next_position p)) (inr (z, q)) in
    let both : (a && b) ≡ true = subst (λ t. gives_row p z q t ≡ true) found.way
    (implied (takes_away m (Give z) p) (gives_row p z q (given_by m (transfer_of z q))) (holds4 machines zones postures positions give_test refl m z q p) mine) in
    let states = put_zone s.zones z (given (zone_at s z) m z) in
    shifts s (changed s m (Give z)) p (inl row.from) (inr (z, q)) (one_spot _ _ (and_left a b both)) (one_spot _ _ (and_right a b both)) found.there
    (ap (λ f. f && same_posture q q) found.clear)
    (λ w. subst (λ full. at_spot full states w ≡ shifted (same_spot (inl row.from) w) (same_spot (inr (z, q)) w) (at_spot s.full s.zones w)) (sym (ap (emptied s.full) found.way))
    (given_at s z (given (zone_at s z) m z) row.from q found.clear refl refl w))

take_goes_on : (s : ModelState) (m : Machine) (z : Zone) → IsSound s → take_refusal s m z ≡ None → (p : Position) → takes_away m (Take z) p ≡ true → GoesOn s (changed s m (Take z)) p
take_goes_on s m z h e p mine =
    let found = take_finds s m z h e in
    let row = found.row in
    let q = posture_at s z in
    let a = same_spot (spot p) (inr (z, q)) in
    let b = same_spot (spot (next_position p)) (inl row.to) in
    let receives : takes_row m p z q (Some row) ≡ true = subst (λ t. takes_row m p z q t ≡ true) found.way
    (implied (takes_away m (Take z) p) (takes_row m p z q (transfer_of z q)) (holds4 machines zones postures positions take_test refl m z q p) mine) in
    let both = implied (same_machine m row.receiver) (a && b) receives found.receiver in
    let states = put_zone s.zones z (taken (zone_at s z) m z) in
    shifts s (changed s m (Take z)) p (inr (z, q)) (inl row.to) (one_spot _ _ (and_left a b both)) (one_spot _ _ (and_right a b both))
    (and_both (zone_at s z).flag (same_posture q q) found.set (same_posture-self q)) found.room
    (λ w. subst (λ full. at_spot full states w ≡ shifted (same_spot (inr (z, q)) w) (same_spot (inl row.to) w) (at_spot s.full s.zones w)) (sym (ap (filled s.full) found.way))
    (taken_at s z (taken (zone_at s z) m z) row.to q refl refl w))

advance_goes_on : (s : ModelState) (m : Machine) → IsSound s → advance_refusal s m ≡ None → (p : Position) → takes_away m Advance p ≡ true → GoesOn s (changed s m Advance) p
advance_goes_on s m h e p mine =
    let found = advance_finds s m e in
    let way = found.way in
    let a = same_spot (spot p) (inl way.0) in
    let b = same_spot (spot (next_position p)) (inl way.1) in
    let both : (a && b) ≡ true = subst (λ t. works_way p t ≡ true) found.work
    (implied (takes_away m Advance p) (works_way p (own_move_of m)) (holds2 machines positions advance_test refl m p) mine) in
    let states = map_zones (halted m) s.zones in
    let apart : way.1 ≡ way.0 → ⊥ = λ same. never (sym found.there ∙ sym (ap (is_full s) same) ∙ found.room) in
    shifts s (changed s m Advance) p (inl way.0) (inl way.1) (one_spot _ _ (and_left a b both)) (one_spot _ _ (and_right a b both)) found.there found.room
    (λ w. subst (λ full. at_spot full states w ≡ shifted (same_spot (inl way.0) w) (same_spot (inl way.1) w) (at_spot s.full s.zones w)) (sym (ap (worked s.full) found.work))
    (advanced_at s m way.0 way.1 h (advance_done s m e).2 apart w))

-- ---- the calls that move none

put_still : (s : ModelState) (z : Zone) (v : ZoneState) → v.flag ≡ (zone_at s z).flag → v.posture ≡ posture_at s z → (w : Spot) → at_spot s.full (put_zone s.zones z v) w ≡ at_spot s.full s.zones w
put_still s z v flag posture (inl p) = refl
put_still s z v flag posture (inr w) =
    put_cases (λ x u. in_zone u w.1 ≡ in_zone (zone_at s x) w.1) s.zones v z (λ i. flag i && same_posture (posture i) w.1) (λ x apart. refl) w.0

abbrev pose_test : Machine → Pose → Zone → Bool
pose_test m p z = implies (not (same_machine (host_of z) m)) (is_none (posture_of m p z))

none_gives : (q : Option Posture) (now : Posture) → is_none q ≡ true → unwrap_or q now ≡ now
none_gives None now e = refl
none_gives (Some q) now e = cc

or_not : (a b : Bool) → b ≡ false → (a || not b) ≡ true
or_not true b e = refl
or_not false true e = cc
or_not false false e = refl

-- a pose changes the posture of no zone that has a plate
posed_at : (s : ModelState) (m : Machine) (p : Pose) (z : Zone) → pose_refusal s m p ≡ None → (zone_at s z).flag ≡ true → posture_with s m p z ≡ posture_at s z
posed_at s m p z e flag =
    let now = posture_at s z in
    let hosts = same_machine (host_of z) m in
    let same = same_posture (posture_with s m p z) now in
    let free : (is_concerned s m p z && (zone_at s z).flag) ≡ false = none_then _ (PlateInZone z) (no_zone (plate_under_pose s m p) (pose_done s m p e).1 z) in
    let Hosts : Bool → Type 0 = λ b. hosts ≡ b → posture_with s m p z ≡ now in
    elim hosts as Hosts [
      | true ↦ λ host.
          let Same : Bool → Type 0 = λ b. same ≡ b → posture_with s m p z ≡ now in
          elim same as Same [
            | true ↦ λ t. one_posture _ _ t
            | false ↦ λ t. absurd (never (sym (and_both (is_concerned s m p z) (zone_at s z).flag
                (and_both hosts (is_moving_pose p || not same) host (or_not (is_moving_pose p) same t)) flag) ∙ free))
          ] refl
      | false ↦ λ host. none_gives (posture_of m p z) now
          (implied (not hosts) (is_none (posture_of m p z)) (holds3 machines poses zones pose_test refl m p z) (not_true hosts host))
    ] refl

pose_still : (s : ModelState) (m : Machine) (p : Pose) → pose_refusal s m p ≡ None → (w : Spot) → at_spot s.full (map_zones (posed m p) s.zones) w ≡ at_spot s.full s.zones w
pose_still s m p e (inl x) = refl
pose_still s m p e (inr w) =
    let v = zone_at s w.0 in
    ap (λ (u : ZoneState). in_zone u w.1) (zone_in-map (posed m p) s.zones w.0)
    ∙ keeps_way v (posed m p w.0 v) w.1 (record { flag = refl; posture = posed_at s m p w.0 e })

-- a call that moves no plate
still : (s : ModelState) (m : Machine) (c : Call) → reply s m c ≡ Done → moves_plate c ≡ false → (w : Spot) → at_spot (changed s m c).full (changed s m c).zones w ≡ at_spot s.full s.zones w
still s m (Claim z) e n w = put_still s z (claimed (zone_at s z) m z) refl refl w
still s m (Give z) e n w = cc
still s m (Yield z) e n w = put_still s z (yielded (zone_at s z) m z) refl refl w
still s m (Take z) e n w = cc
still s m (Release z) e n w = put_still s z (released (zone_at s z) m z) refl refl w
still s m (SetPose p) e n w = pose_still s m p (done_none (pose_refusal s m p) e) w
still s m Advance e n w = cc
still s m (Inquire z) e n w = cc
still s m Stop e n w = refl
still s m Resume e n w = refl

pub still_at : (s : ModelState) (m : Machine) (c : Call) → reply s m c ≡ Done → moves_plate c ≡ false → (p : Position) → has_plate (changed s m c) p ≡ has_plate s p
still_at s m c e n p = has_spot (changed s m c) p ∙ still s m c e n (spot p) ∙ sym (has_spot s p)

-- ---- each call that moves a plate moves that of one position

abbrev once_if : Bool → Machine → Call → Bool
once_if b m c = implies b (nat_eq (count_by (takes_away m c) all_positions) 1)

abbrev is_receiver : Machine → Option Transfer → Bool
is_receiver m None = false
is_receiver m (Some row) = same_machine m row.receiver

give_once : (s : ModelState) (m : Machine) (z : Zone) → give_refusal s m z ≡ None → count_by (takes_away m (Give z)) all_positions ≡ 1
give_once s m z e =
    let found = give_finds s m z e in
    let q = posture_at s z in
    let some = is_some (given_by m (transfer_of z q)) in
    eqb-true _ _ (implied some (nat_eq (count_by (takes_away m (Give z)) all_positions) 1) (holds3 machines zones postures (λ m z q. once_if (is_some (given_by m (transfer_of z q))) m (Give z)) refl m z q) (ap is_some found.way))

take_once : (s : ModelState) (m : Machine) (z : Zone) → IsSound s → take_refusal s m z ≡ None → count_by (takes_away m (Take z)) all_positions ≡ 1
take_once s m z h e =
    let found = take_finds s m z h e in
    let q = posture_at s z in
    let some = is_receiver m (transfer_of z q) in
    eqb-true _ _ (implied some (nat_eq (count_by (takes_away m (Take z)) all_positions) 1) (holds3 machines zones postures (λ m z q. once_if (is_receiver m (transfer_of z q)) m (Take z)) refl m z q)
    (ap (is_receiver m) found.way ∙ found.receiver))

advance_once : (s : ModelState) (m : Machine) → advance_refusal s m ≡ None → count_by (takes_away m Advance) all_positions ≡ 1
advance_once s m e =
    let some = is_some (own_move_of m) in
    eqb-true _ _ (implied some (nat_eq (count_by (takes_away m Advance) all_positions) 1) (machines.holds (λ m. once_if (is_some (own_move_of m)) m Advance) refl m) (ap is_some (advance_finds s m e).work))

one_plate : (s : ModelState) (m : Machine) (c : Call) → IsSound s → reply s m c ≡ Done → count_by (takes_away m c) all_positions ≡ one_if (moves_plate c)
one_plate s m (Give z) h e = give_once s m z (done_none (give_refusal s m z) e)
one_plate s m (Take z) h e = take_once s m z h (done_none (take_refusal s m z) e)
one_plate s m Advance h e = advance_once s m (done_none (advance_refusal s m) e)
one_plate s m _ h e = refl

moves_on : (s : ModelState) (m : Machine) (c : Call) → IsSound s → reply s m c ≡ Done → (p : Position) → takes_away m c p ≡ true → GoesOn s (changed s m c) p
moves_on s m (Give z) h e p mine = give_goes_on s m z (done_none (give_refusal s m z) e) p mine
moves_on s m (Take z) h e p mine = take_goes_on s m z h (done_none (take_refusal s m z) e) p mine
moves_on s m Advance h e p mine = advance_goes_on s m h (done_none (advance_refusal s m) e) p mine
moves_on s m _ h e p mine = cc

-- ---- the rules follow the lap

pub record Follows (s t : ModelState) (m : Machine) (c : Call) : Type 0 where
  pub one_plate : count_by (takes_away m c) all_positions ≡ one_if (moves_plate c)
  pub goes_on : (p : Position) → takes_away m c p ≡ true → GoesOn s t p
  pub still : moves_plate c ≡ false → (p : Position) → has_plate t p ≡ has_plate s p

pub follows : (s : ModelState) (m : Machine) (c : Call) → IsSound s → reply s m c ≡ Done → Follows s (changed s m c) m c
follows s m c h e = record { one_plate = one_plate s m c h e; goes_on = moves_on s m c h e; still = still_at s m c e }

moves_show : (s t : ModelState) (m : Machine) (c : Call) → Follows s t m c → ((p : Position) → has_plate t p ≡ has_plate s p) → moves_plate c ≡ false
moves_show s t m c f same =
    let At : Bool → Type 0 = λ b. moves_plate c ≡ b → moves_plate c ≡ false in
    elim (moves_plate c) as At [
      | true ↦ λ e.
          let found = some_counted (takes_away m c) all_positions (f.one_plate ∙ ap one_if e) in
          let on = f.goes_on found.0 found.1 in
          absurd (never (sym on.there ∙ sym (same found.0) ∙ on.gone))
      | false ↦ λ e. e
    ] refl

pub rules_follow_lap : RulesFollowLap
rules_follow_lap s m c h e =
    let f = subst (λ a. Follows s (next_by a s m c) m c) (sym e) (follows s m c h e) in
    record { one_plate = f.one_plate; goes_on = f.goes_on; still = f.still; shows = moves_show s (next s m c) m c f }
