-- What holds if a call isn't refused.
use Rattle.std.proofs.Common.{◌≡◌, ℕ, ◌<◌, Bool, true, false, ◌&&◌, ◌||◌, not, nat_eq, nat_lt, Option, Some, None, refl, ltb-true}
use Rattle.std.specs.Bool.{then_some}
use Rattle.std.proofs.lemmas.Bool.{eqb-true}
use Rattle.plan_types.specs.declared.table.Transfer.{Transfer}
use Rattle.plan_types.specs.declared.answer.Refusal.{Refusal}
use Rattle.plan_types.specs.declared.answer.Refusal.TheVariants.{NotParty, Held, NoPlate}
use Rattle.plan_types.specs.Table.{PlanTable, zone_count, host_of, guest_of, is_party, has_pose, pose_count, machine_of, is_moving_pose, pose_row, watch, place_count, keeper_of, is_place_of, is_source, is_sink, has_end}
use Rattle.plan_types.specs.Below.{any_below}
use Rattle.plan_rules.specs.declared.state.State.{State}
use Rattle.plan_rules.specs.State.{zone_at, owner_of, posture_at, is_full, space_has_plate}
use Rattle.plan_rules.specs.Sound.{is_open, is_owned_by}
use Rattle.plan_rules.specs.Refusals as refusals
use Rattle.plan_rules.specs.Refusals.{◌or◌, owns}
use Rattle.plan_types.proofs.lemmas.Below.{first_below_none}
use Rattle.plan_rules.proofs.lemmas.Zones.{both_true, owner_is}

pub none_or : (a b : Option Refusal) → (a or b) ≡ None → (a ≡ None) × (b ≡ None)
none_or None b e = (refl, e)
none_or (Some r) b e = cc

pub none_then : (b : Bool) (r : Refusal) → then_some b r ≡ None → b ≡ false
none_then true r e = cc
none_then false r e = refl

pub none_then_not : (b : Bool) (r : Refusal) → then_some (not b) r ≡ None → b ≡ true
none_then_not true r e = refl
none_then_not false r e = cc

free : (o : Option ℕ) (m : ℕ) → is_owned_by o m ≡ false → refusals.held_by o m ≡ None → o ≡ None
free None m e h = refl
free (Some o) m e h = let p : nat_eq o m ≡ true = none_then_not (nat_eq o m) (Held o) h in cc

fresh : (s : State) → refusals.worn s ≡ None → s.stamp < 1048575
fresh s e = let h : nat_lt s.stamp 1048575 ≡ true = none_then_not _ _ e in ltb-true _ _ h

-- the caller is a party of a zone of the plan
pub record Party (t : PlanTable) (m z : ℕ) : Type 0 where
  pub there : z < zone_count t
  pub party : (nat_eq m (host_of t z) || nat_eq m (guest_of t z)) ≡ true
  pub is : is_party t m z ≡ true

pub party_of : (t : PlanTable) (m z : ℕ) → refusals.not_party t m z ≡ None → Party t m z
party_of t m z e =
    let is = none_then_not (is_party t m z) NotParty e in
    let h = both_true (nat_lt z (zone_count t)) (nat_eq m (host_of t z) || nat_eq m (guest_of t z)) is in
    record { there = ltb-true _ _ h.0; party = h.1; is = is }

pub record Claims (t : PlanTable) (s : State) (m z : ℕ) : Type 0 where
  pub caller : Party t m z
  pub goes_on : s.stopped ≡ false
  pub free : owner_of s z ≡ None
  pub opens : (nat_eq m (guest_of t z) && not (is_open (posture_at s z))) ≡ false
  pub fresh : s.stamp < 1048575

pub claim_done : (t : PlanTable) (s : State) (m z : ℕ) → refusals.claim_refusal t s m z ≡ None → Claims t s m z
claim_done t s m z e =
    let r0 = refusals.not_party t m z in
    let r1 = r0 or refusals.while_stopped s in
    let r2 = r1 or refusals.already_mine s m z in
    let r3 = r2 or refusals.held s m z in
    let r4 = r3 or refusals.shut_to_guest t s m z in
    let h4 = none_or r4 (refusals.worn s) e in
    let h3 = none_or r3 (refusals.shut_to_guest t s m z) h4.0 in
    let h2 = none_or r2 (refusals.held s m z) h3.0 in
    let h1 = none_or r1 (refusals.already_mine s m z) h2.0 in
    let h0 = none_or r0 (refusals.while_stopped s) h1.0 in
    record {
      caller = party_of t m z h0.0;
      goes_on = none_then _ _ h0.1;
      free = free (owner_of s z) m (none_then _ _ h1.1) h2.1;
      opens = none_then _ _ h3.1;
      fresh = fresh s h4.1;
    }

-- a party owns the zone, in which a plate is or isn't
pub record Holder (t : PlanTable) (s : State) (m z : ℕ) : Type 0 where
  pub caller : Party t m z
  pub owns : owns s m z ≡ true
  pub owner : owner_of s z ≡ Some m
  pub fresh : s.stamp < 1048575

holder : (t : PlanTable) (s : State) (m z : ℕ) → refusals.not_party t m z ≡ None → refusals.not_owner s m z ≡ None → refusals.worn s ≡ None → Holder t s m z
holder t s m z a b c =
    let own = none_then_not (owns s m z) _ b in
    record { caller = party_of t m z a; owns = own; owner = owner_is (owner_of s z) m own; fresh = fresh s c }

pub record Yields (t : PlanTable) (s : State) (m z : ℕ) : Type 0 where
  pub holder : Holder t s m z
  pub clear : space_has_plate t s z ≡ false
  pub opens : is_open (posture_at s z) ≡ true

pub yield_done : (t : PlanTable) (s : State) (m z : ℕ) → refusals.yield_refusal t s m z ≡ None → Yields t s m z
yield_done t s m z e =
    let r0 = refusals.not_party t m z in
    let r1 = r0 or refusals.not_owner s m z in
    let r2 = r1 or refusals.plate_in_zone t s z in
    let r3 = r2 or refusals.shut s z in
    let h3 = none_or r3 (refusals.worn s) e in
    let h2 = none_or r2 (refusals.shut s z) h3.0 in
    let h1 = none_or r1 (refusals.plate_in_zone t s z) h2.0 in
    let h0 = none_or r0 (refusals.not_owner s m z) h1.0 in
    record { holder = holder t s m z h0.0 h0.1 h3.1; clear = none_then _ _ h1.1; opens = none_then_not _ _ h2.1 }

pub record Releases (t : PlanTable) (s : State) (m z : ℕ) : Type 0 where
  pub holder : Holder t s m z
  pub clear : space_has_plate t s z ≡ false
  pub still : refusals.shut_while_moving s z ≡ None

pub release_done : (t : PlanTable) (s : State) (m z : ℕ) → refusals.release_refusal t s m z ≡ None → Releases t s m z
release_done t s m z e =
    let r0 = refusals.not_party t m z in
    let r1 = r0 or refusals.not_owner s m z in
    let r2 = r1 or refusals.plate_in_zone t s z in
    let r3 = r2 or refusals.shut_while_moving s z in
    let h3 = none_or r3 (refusals.worn s) e in
    let h2 = none_or r2 (refusals.shut_while_moving s z) h3.0 in
    let h1 = none_or r1 (refusals.plate_in_zone t s z) h2.0 in
    let h0 = none_or r0 (refusals.not_owner s m z) h1.0 in
    record { holder = holder t s m z h0.0 h0.1 h3.1; clear = none_then _ _ h1.1; still = h2.1 }

pub record Takes (t : PlanTable) (s : State) (m z : ℕ) : Type 0 where
  pub holder : Holder t s m z
  pub plate : (zone_at s z).flag ≡ true

pub take_done : (t : PlanTable) (s : State) (m z : ℕ) → refusals.take_refusal t s m z ≡ None → Takes t s m z
take_done t s m z e =
    let r0 = refusals.not_party t m z in
    let r1 = r0 or refusals.not_owner s m z in
    let r2 = r1 or refusals.no_plate_in_zone s z in
    let h2 = none_or r2 (refusals.worn s) e in
    let h1 = none_or r1 (refusals.no_plate_in_zone s z) h2.0 in
    let h0 = none_or r0 (refusals.not_owner s m z) h1.0 in
    record { holder = holder t s m z h0.0 h0.1 h2.1; plate = none_then_not _ _ h1.1 }

pub record Given (t : PlanTable) (s : State) (m z : ℕ) : Type 0 where
  pub holder : Holder t s m z
  pub goes_on : s.stopped ≡ false
  pub clear : space_has_plate t s z ≡ false
  pub way : Transfer
  pub is : refusals.transfer_given t s m z ≡ Some way
  pub plate : is_full s way.from ≡ true
  pub room : refusals.is_taken t s way.to ≡ false

some_way : (t : PlanTable) (s : State) (o : Option Transfer) → refusals.wrong_way o ≡ None → refusals.nothing_to_give s o ≡ None → refusals.no_room t s o ≡ None
    → (way : Transfer) × (o ≡ Some way) × (is_full s way.from ≡ true) × (refusals.is_taken t s way.to ≡ false)
some_way t s None a b c = cc
some_way t s (Some way) a b c = (way, refl, none_then_not (is_full s way.from) NoPlate b, none_then _ _ c)

pub give_done : (t : PlanTable) (s : State) (m z : ℕ) → refusals.give_refusal t s m z ≡ None → Given t s m z
give_done t s m z e =
    let way = refusals.transfer_given t s m z in
    let r0 = refusals.not_party t m z in
    let r1 = r0 or refusals.while_stopped s in
    let r2 = r1 or refusals.not_owner s m z in
    let r3 = r2 or refusals.plate_in_zone t s z in
    let r4 = r3 or refusals.wrong_way way in
    let r5 = r4 or refusals.nothing_to_give s way in
    let r6 = r5 or refusals.no_room t s way in
    let h6 = none_or r6 (refusals.worn s) e in
    let h5 = none_or r5 (refusals.no_room t s way) h6.0 in
    let h4 = none_or r4 (refusals.nothing_to_give s way) h5.0 in
    let h3 = none_or r3 (refusals.wrong_way way) h4.0 in
    let h2 = none_or r2 (refusals.plate_in_zone t s z) h3.0 in
    let h1 = none_or r1 (refusals.not_owner s m z) h2.0 in
    let h0 = none_or r0 (refusals.while_stopped s) h1.0 in
    let found = some_way t s way h3.1 h4.1 h5.1 in
    record {
      holder = holder t s m z h0.0 h1.1 h6.1;
      goes_on = none_then _ _ h0.1;
      clear = none_then _ _ h2.1;
      way = found.0;
      is = found.1;
      plate = found.2;
      room = found.3;
    }

pub record Poses (t : PlanTable) (s : State) (m p : ℕ) : Type 0 where
  pub there : p < pose_count t
  pub machine : machine_of t p ≡ m
  pub goes_on : (is_moving_pose t p && s.stopped) ≡ false
  pub owned : (z : ℕ) → z < zone_count t → (refusals.is_concerned t s m p z && not (owns s m z)) ≡ false
  pub clear : (z : ℕ) → z < zone_count t → (refusals.is_concerned t s m p z && space_has_plate t s z) ≡ false
  pub no_jump : ((pose_row t p).after_moving && any_below (refusals.stands_at t s m) (zone_count t)) ≡ false
  pub room : (z : ℕ) → z < zone_count t → refusals.opens_onto_plate t s p z ≡ None
  pub fresh : s.stamp < 1048575

pub pose_done : (t : PlanTable) (s : State) (m p : ℕ) → refusals.pose_refusal t s m p ≡ None → Poses t s m p
pose_done t s m p e =
    let r0 = refusals.lacks_pose t m p in
    let r1 = r0 or refusals.moves_while_stopped t s p in
    let r2 = r1 or refusals.first_zone t (refusals.unowned_by_pose t s m p) in
    let r3 = r2 or refusals.first_zone t (refusals.plate_under_pose t s m p) in
    let r4 = r3 or refusals.jump t s m p in
    let r5 = r4 or refusals.first_zone t (refusals.opens_onto_plate t s p) in
    let h5 = none_or r5 (refusals.worn s) e in
    let h4 = none_or r4 (refusals.first_zone t (refusals.opens_onto_plate t s p)) h5.0 in
    let h3 = none_or r3 (refusals.jump t s m p) h4.0 in
    let h2 = none_or r2 (refusals.first_zone t (refusals.plate_under_pose t s m p)) h3.0 in
    let h1 = none_or r1 (refusals.first_zone t (refusals.unowned_by_pose t s m p)) h2.0 in
    let h0 = none_or r0 (refusals.moves_while_stopped t s p) h1.0 in
    let has = both_true (nat_lt p (pose_count t)) (nat_eq (machine_of t p) m) (none_then_not (has_pose t m p) _ h0.0) in
    record {
      there = ltb-true _ _ has.0;
      machine = eqb-true _ _ has.1;
      goes_on = none_then _ _ h0.1;
      owned = λ z l. none_then _ _ (first_below_none (refusals.unowned_by_pose t s m p) (zone_count t) h1.1 z l);
      clear = λ z l. none_then _ _ (first_below_none (refusals.plate_under_pose t s m p) (zone_count t) h2.1 z l);
      no_jump = none_then _ _ h3.1;
      room = λ z l. first_below_none (refusals.opens_onto_plate t s p) (zone_count t) h4.1 z l;
      fresh = fresh s h5.1;
    }

pub record Advances (t : PlanTable) (s : State) (m p : ℕ) : Type 0 where
  pub there : p < place_count t
  pub keeper : keeper_of t p ≡ m
  pub ends : (is_source t p || is_sink t p) ≡ true
  pub goes_on : s.stopped ≡ false
  pub room : (is_source t p && (refusals.is_taken t s p && not (is_sink t p && is_full s p))) ≡ false
  pub plate : (not (is_source t p) && not (is_full s p)) ≡ false
  pub fresh : s.stamp < 1048575

pub advance_done : (t : PlanTable) (s : State) (m p : ℕ) → refusals.advance_refusal t s m p ≡ None → Advances t s m p
advance_done t s m p e =
    let r0 = refusals.not_own_end t m p in
    let r1 = r0 or refusals.while_stopped s in
    let r2 = r1 or refusals.source_taken t s p in
    let r3 = r2 or refusals.sink_empty t s p in
    let h3 = none_or r3 (refusals.worn s) e in
    let h2 = none_or r2 (refusals.sink_empty t s p) h3.0 in
    let h1 = none_or r1 (refusals.source_taken t s p) h2.0 in
    let h0 = none_or r0 (refusals.while_stopped s) h1.0 in
    let own = both_true (is_place_of t p m) (is_source t p || is_sink t p) (none_then_not (has_end t m p) NotParty h0.0) in
    let place = both_true (nat_lt p (place_count t)) (nat_eq (keeper_of t p) m) own.0 in
    record {
      there = ltb-true _ _ place.0;
      keeper = eqb-true _ _ place.1;
      ends = own.1;
      goes_on = none_then _ _ h0.1;
      room = none_then _ _ h1.1;
      plate = none_then _ _ h2.1;
      fresh = fresh s h3.1;
    }

pub record Stops (s : State) (m : ℕ) (b : Bool) : Type 0 where
  pub caller : m ≡ watch
  pub mark : s.stopped ≡ b
  pub fresh : s.stamp < 1048575

pub stop_done : (s : State) (m : ℕ) → refusals.stop_refusal s m ≡ None → Stops s m false
stop_done s m e =
    let r1 = refusals.not_watch m in
    let h2 = none_or (r1 or refusals.while_stopped s) (refusals.worn s) e in
    let h1 = none_or r1 (refusals.while_stopped s) h2.0 in
    record { caller = eqb-true _ _ (none_then_not (nat_eq m watch) NotParty h1.0); mark = none_then _ _ h1.1; fresh = fresh s h2.1 }

pub resume_done : (s : State) (m : ℕ) → refusals.resume_refusal s m ≡ None → Stops s m true
resume_done s m e =
    let r1 = refusals.not_watch m in
    let h2 = none_or (r1 or refusals.not_stopped s) (refusals.worn s) e in
    let h1 = none_or r1 (refusals.not_stopped s) h2.0 in
    record { caller = eqb-true _ _ (none_then_not (nat_eq m watch) NotParty h1.0); mark = none_then_not _ _ h1.1; fresh = fresh s h2.1 }
