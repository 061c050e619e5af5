-- When each call is Done.
use Rattle.std.proofs.Common.{◌≡◌, ◌≢◌, ◌⊎◌, inl, inr, ⊎_elim, ℕ, zero, suc, ◌<◌, Bool, true, false, ◌&&◌, ◌||◌, not, nat_eq, nat_lt, Option, Some, None, unwrap_or, refl, sym, ap, ◌∙◌, subst, arith, if◌then◌else◌, ltb-true}
use Rattle.std.specs.Bool.{then_some}
use Rattle.std.proofs.lemmas.Bool.{eqb-true, lt-ltb, false_from_ne_true}
use Rattle.plan_types.specs.declared.posture.Posture.{Posture}
use Rattle.plan_types.specs.declared.posture.Posture.TheVariants.{Closed, Moving, OpenIn, OpenOut}
use Rattle.plan_types.specs.declared.table.Transfer.{Transfer}
use Rattle.plan_types.specs.declared.answer.Refusal.{Refusal}
use Rattle.plan_types.specs.declared.answer.Refusal.TheVariants.{NotParty, PlaceFull, Shut}
use Rattle.plan_types.specs.declared.answer.Answer.TheVariants.{Done, Shown}
use Rattle.plan_types.specs.Same.{same_posture, one_posture}
use Rattle.plan_types.specs.Below.{any_below}
use Rattle.plan_types.specs.Table.{PlanTable, zone_count, pose_count, host_of, guest_of, machine_of, pose_row, posture_of, transfer_of, is_moving_pose, has_pose, watch, place_count, keeper_of, is_place_of, is_source, is_sink, has_end}
use Rattle.plan_types.proofs.lemmas.Below.{first_below_all}
use Rattle.plan_rules.specs.declared.state.State.{State}
use Rattle.plan_rules.specs.State.{zone_at, owner_of, posture_at, is_full, plates_for, space_has_plate}
use Rattle.plan_rules.specs.Sound.{is_open, is_owned_by}
use Rattle.plan_rules.specs.Refusals as refusals
use Rattle.plan_rules.specs.Refusals.{◌or◌, owns, is_concerned, posture_with}
use Rattle.plan_rules.specs.Reply.{answer_by}
use Rattle.plan_rules.specs.DoneLaws.{IsPartyOf, IsOpen, HasStampsLeft, MayClaim, IsHolder, MayTake, HasGift, MayGive, MayYield, MayRelease, IsClear, MayPose, MayMark, KeepsEnd, PlateMoves, MayAdvance, CallsAreDoneExactly}
use Rattle.plan_rules.proofs.lemmas.DoneCalls.{claim_done, give_done, yield_done, take_done, release_done, pose_done, stop_done, resume_done, advance_done, Party, Holder, Advances}
use Rattle.plan_rules.proofs.lemmas.Advancing.{comes, goes}
use Rattle.plan_rules.proofs.lemmas.Plates.{no_plates}
use Rattle.plan_rules.proofs.lemmas.Puts.{nat_eq-self, nat_eq-apart, same_or_not}
use Rattle.plan_rules.proofs.lemmas.Soundness.{done_none, some_or_none, unless}
use Rattle.plan_rules.proofs.lemmas.Zones.{both_true, owner_is}
use Rattle.plan_rules.proofs.Given.{gives_moving, moving_given}
use Rattle.plan_rules.proofs.Fitting.{no_jump, held, clear, room}

-- ---- refusals that aren't there

pub none_of_both : (a b : Option Refusal) → a ≡ None → b ≡ None → (a or b) ≡ None
none_of_both a b e f = rw (e, f) refl

pub no_then : (b : Bool) (r : Refusal) → b ≡ false → then_some b r ≡ None
no_then b r e = rw e refl

pub no_then_not : (b : Bool) (r : Refusal) → b ≡ true → then_some (not b) r ≡ None
no_then_not b r e = rw e refl

-- ---- in words

pub either : (a b : Bool) → (a || b) ≡ true → (a ≡ true) ⊎ (b ≡ true)
either true b e = inl refl
either false b e = inr e

pub party_in_words : (t : PlanTable) (m z : ℕ) → Party t m z → IsPartyOf t m z
party_in_words t m z f =
    (f.there, ⊎_elim (λ h. inl (eqb-true m (host_of t z) h)) (λ g. inr (eqb-true m (guest_of t z) g)) (either (nat_eq m (host_of t z)) (nat_eq m (guest_of t z)) f.party))

pub is_same : (m n : ℕ) → m ≡ n → nat_eq m n ≡ true
is_same m n e = ap (nat_eq m) (sym e) ∙ nat_eq-self m

second : (a b : Bool) → b ≡ true → (a || b) ≡ true
second true b e = refl
second false b e = e

first : (a b : Bool) → a ≡ true → (a || b) ≡ true
first true b e = refl
first false b e = cc

pub is_party_by : (t : PlanTable) (m z : ℕ) → IsPartyOf t m z → refusals.not_party t m z ≡ None
is_party_by t m z f =
    let host = nat_eq m (host_of t z) in
    let guest = nat_eq m (guest_of t z) in
    let one : (host || guest) ≡ true = ⊎_elim (λ h. first host guest (is_same m (host_of t z) h)) (λ g. second host guest (is_same m (guest_of t z) g)) f.1 in
    no_then_not (nat_lt z (zone_count t) && (host || guest)) NotParty (rw (lt-ltb z (zone_count t) f.0) one)

pub open_in_words : (q : Posture) → is_open q ≡ true → (q ≡ OpenIn) ⊎ (q ≡ OpenOut)
open_in_words Closed e = cc
open_in_words Moving e = cc
open_in_words OpenIn e = inl refl
open_in_words OpenOut e = inr refl

pub is_open_by : (q : Posture) → (q ≡ OpenIn) ⊎ (q ≡ OpenOut) → is_open q ≡ true
is_open_by q f = ⊎_elim (λ e. ap is_open e) (λ e. ap is_open e) f

fresh_by : (s : State) → HasStampsLeft s → refusals.worn s ≡ None
fresh_by s l = no_then_not _ _ (lt-ltb s.stamp 1048575 l)

pub owner_by : (s : State) (m z : ℕ) → owner_of s z ≡ Some m → owns s m z ≡ true
owner_by s m z e = ap (λ o. is_owned_by o m) e ∙ nat_eq-self m

pub is_not_moving : (q : Posture) → q ≢ Moving → same_posture q Moving ≡ false
is_not_moving q apart = false_from_ne_true (same_posture q Moving) (λ same. apart (one_posture q Moving same))

pub opened : (a b : Bool) → (a && not b) ≡ false → a ≡ true → b ≡ true
opened true true e f = refl
opened true false e f = cc
opened false b e f = cc

-- ---- claims

claim_in_words : (t : PlanTable) (s : State) (m z : ℕ) → refusals.claim_refusal t s m z ≡ None → MayClaim t s m z
claim_in_words t s m z e =
    let f = claim_done t s m z e in
    record {
      party = party_in_words t m z f.caller;
      runs = f.goes_on;
      free = f.free;
      open_to_guest = λ guest. open_in_words (posture_at s z) (opened (nat_eq m (guest_of t z)) (is_open (posture_at s z)) f.opens (is_same m (guest_of t z) guest));
      stamps = f.fresh;
    }

pub guest_by : (t : PlanTable) (s : State) (m z : ℕ) → (m ≡ guest_of t z → IsOpen s z) → (nat_eq m (guest_of t z) && not (is_open (posture_at s z))) ≡ false
guest_by t s m z f =
    elim (same_or_not m (guest_of t z)) [
      | inl e ↦ rw (is_open_by (posture_at s z) (f e)) (and_none (nat_eq m (guest_of t z)))
      | inr ne ↦ rw (nat_eq-apart m (guest_of t z) ne) refl
    ]
  where
    and_none : (a : Bool) → (a && false) ≡ false
    and_none true = refl
    and_none false = refl

claim_by_words : (t : PlanTable) (s : State) (m z : ℕ) → MayClaim t s m z → refusals.claim_refusal t s m z ≡ None
claim_by_words t s m z f =
    let r0 = refusals.not_party t m z in
    let r1 = r0 or refusals.while_stopped s in
    let r2 = r1 or refusals.already_mine s m z in
    let r3 = r2 or refusals.held s m z in
    let r4 = r3 or refusals.shut_to_guest t s m z in
    let p0 = is_party_by t m z f.party in
    let p1 : r1 ≡ None = none_of_both r0 (refusals.while_stopped s) p0 (no_then s.stopped _ f.runs) in
    let p2 : r2 ≡ None = none_of_both r1 (refusals.already_mine s m z) p1 (no_then (owns s m z) _ (ap (λ o. is_owned_by o m) f.free)) in
    let p3 : r3 ≡ None = none_of_both r2 (refusals.held s m z) p2 (ap (λ o. refusals.held_by o m) f.free) in
    let p4 : r4 ≡ None = none_of_both r3 (refusals.shut_to_guest t s m z) p3 (no_then (nat_eq m (guest_of t z) && not (is_open (posture_at s z))) (Shut (posture_at s z)) (guest_by t s m z f.open_to_guest)) in
    none_of_both r4 (refusals.worn s) p4 (fresh_by s f.stamps)

-- ---- the holder's calls

holder_in_words : (t : PlanTable) (s : State) (m z : ℕ) → Holder t s m z → space_has_plate t s z ≡ false → IsHolder t s m z
holder_in_words t s m z f clear = record { party = party_in_words t m z f.caller; owner = f.owner; clear = clear; stamps = f.fresh }

pub no_owner_refusal : (s : State) (m z : ℕ) → owner_of s z ≡ Some m → refusals.not_owner s m z ≡ None
no_owner_refusal s m z e = no_then_not (owns s m z) _ (owner_by s m z e)

gift_in_words : (t : PlanTable) (s : State) (m z : ℕ) (o : Option Transfer) → transfer_of t z (posture_at s z) ≡ o → (way : Transfer) → refusals.given_by m o ≡ Some way → is_full s way.from ≡ true → refusals.is_taken t s way.to ≡ false → HasGift t s m z
gift_in_words t s m z None is way given plate room = cc
gift_in_words t s m z (Some w) is way given plate room =
    elim (same_or_not w.giver m) [
      | inl e ↦
          let one : refusals.given_by m (Some w) ≡ Some w = ap (λ b. if b then Some w else None) (is_same w.giver m e) in
          let same : w ≡ way = some_one (sym one ∙ given) in
          record { way = w; is = is; giver = e; plate = subst (λ (x : Transfer). is_full s x.from ≡ true) (sym same) plate; room = subst (λ (x : Transfer). plates_for t s x.to ≡ 0) (sym same) (no_plates (plates_for t s way.to) room) }
      | inr ne ↦
          let none : refusals.given_by m (Some w) ≡ None = ap (λ b. if b then Some w else None) (nat_eq-apart w.giver m ne) in
          absurd (no_some way (sym none ∙ given))
    ]
  where
    some_one : {x y : Transfer} → Some x ≡ Some y → x ≡ y
    some_one e = cc

    no_some : (y : Transfer) → None ≡ Some y → ⊥
    no_some y e = cc

give_in_words : (t : PlanTable) (s : State) (m z : ℕ) → refusals.give_refusal t s m z ≡ None → MayGive t s m z
give_in_words t s m z e =
    let f = give_done t s m z e in
    record {
      holder = holder_in_words t s m z f.holder f.clear;
      runs = f.goes_on;
      gift = gift_in_words t s m z (transfer_of t z (posture_at s z)) refl f.way f.is f.plate f.room;
    }

transfer_by_words : (t : PlanTable) (s : State) (m z : ℕ) (f : HasGift t s m z) → refusals.transfer_given t s m z ≡ Some f.way
transfer_by_words t s m z f = ap (refusals.given_by m) f.is ∙ ap (λ b. if b then Some f.way else None) (is_same f.way.giver m f.giver)

give_by_words : (t : PlanTable) (s : State) (m z : ℕ) → MayGive t s m z → refusals.give_refusal t s m z ≡ None
give_by_words t s m z f =
    let way = transfer_by_words t s m z f.gift in
    let r0 = refusals.not_party t m z in
    let r1 = r0 or refusals.while_stopped s in
    let r2 = r1 or refusals.not_owner s m z in
    let r3 = r2 or refusals.plate_in_zone t s z in
    let r4 = r3 or refusals.wrong_way (refusals.transfer_given t s m z) in
    let r5 = r4 or refusals.nothing_to_give s (refusals.transfer_given t s m z) in
    let r6 = r5 or refusals.no_room t s (refusals.transfer_given t s m z) in
    let p0 = is_party_by t m z f.holder.party in
    let p1 : r1 ≡ None = none_of_both r0 (refusals.while_stopped s) p0 (no_then s.stopped _ f.runs) in
    let p2 : r2 ≡ None = none_of_both r1 (refusals.not_owner s m z) p1 (no_owner_refusal s m z f.holder.owner) in
    let p3 : r3 ≡ None = none_of_both r2 (refusals.plate_in_zone t s z) p2 (no_then (space_has_plate t s z) _ f.holder.clear) in
    let p4 : r4 ≡ None = none_of_both r3 (refusals.wrong_way (refusals.transfer_given t s m z)) p3 (ap refusals.wrong_way way) in
    let p5 : r5 ≡ None = none_of_both r4 (refusals.nothing_to_give s (refusals.transfer_given t s m z)) p4 (ap (refusals.nothing_to_give s) way ∙ no_then_not (is_full s f.gift.way.from) _ f.gift.plate) in
    let p6 : r6 ≡ None = none_of_both r5 (refusals.no_room t s (refusals.transfer_given t s m z)) p5 (ap (refusals.no_room t s) way ∙ no_then (refusals.is_taken t s f.gift.way.to) _ (ap (nat_lt 0) f.gift.room)) in
    none_of_both r6 (refusals.worn s) p6 (fresh_by s f.holder.stamps)

yield_in_words : (t : PlanTable) (s : State) (m z : ℕ) → refusals.yield_refusal t s m z ≡ None → MayYield t s m z
yield_in_words t s m z e =
    let f = yield_done t s m z e in
    record { holder = holder_in_words t s m z f.holder f.clear; opened = open_in_words (posture_at s z) f.opens }

yield_by_words : (t : PlanTable) (s : State) (m z : ℕ) → MayYield t s m z → refusals.yield_refusal t s m z ≡ None
yield_by_words t s m z f =
    let r0 = refusals.not_party t m z in
    let r1 = r0 or refusals.not_owner s m z in
    let r2 = r1 or refusals.plate_in_zone t s z in
    let r3 = r2 or refusals.shut s z in
    let p0 = is_party_by t m z f.holder.party in
    let p1 : r1 ≡ None = none_of_both r0 (refusals.not_owner s m z) p0 (no_owner_refusal s m z f.holder.owner) in
    let p2 : r2 ≡ None = none_of_both r1 (refusals.plate_in_zone t s z) p1 (no_then (space_has_plate t s z) _ f.holder.clear) in
    let p3 : r3 ≡ None = none_of_both r2 (refusals.shut s z) p2 (no_then_not (is_open (posture_at s z)) _ (is_open_by (posture_at s z) f.opened)) in
    none_of_both r3 (refusals.worn s) p3 (fresh_by s f.holder.stamps)

take_in_words : (t : PlanTable) (s : State) (m z : ℕ) → refusals.take_refusal t s m z ≡ None → MayTake t s m z
take_in_words t s m z e =
    let f = take_done t s m z e in
    record { party = party_in_words t m z f.holder.caller; owner = f.holder.owner; plate = f.plate; stamps = f.holder.fresh }

take_by_words : (t : PlanTable) (s : State) (m z : ℕ) → MayTake t s m z → refusals.take_refusal t s m z ≡ None
take_by_words t s m z f =
    let r0 = refusals.not_party t m z in
    let r1 = r0 or refusals.not_owner s m z in
    let r2 = r1 or refusals.no_plate_in_zone s z in
    let p0 = is_party_by t m z f.party in
    let p1 : r1 ≡ None = none_of_both r0 (refusals.not_owner s m z) p0 (no_owner_refusal s m z f.owner) in
    let p2 : r2 ≡ None = none_of_both r1 (refusals.no_plate_in_zone s z) p1 (no_then_not (zone_at s z).flag _ f.plate) in
    none_of_both r2 (refusals.worn s) p2 (fresh_by s f.stamps)

moves_not : (b : Bool) (r : Refusal) → then_some b r ≡ None → b ≡ true → ⊥
moves_not true r e f = cc
moves_not false r e f = cc

release_in_words : (t : PlanTable) (s : State) (m z : ℕ) → refusals.release_refusal t s m z ≡ None → MayRelease t s m z
release_in_words t s m z e =
    let f = release_done t s m z e in
    record {
      holder = holder_in_words t s m z f.holder f.clear;
      stands = λ moves. moves_not (same_posture (posture_at s z) Moving) (Shut Moving) f.still (ap (λ q. same_posture q Moving) moves);
    }

release_by_words : (t : PlanTable) (s : State) (m z : ℕ) → MayRelease t s m z → refusals.release_refusal t s m z ≡ None
release_by_words t s m z f =
    let r0 = refusals.not_party t m z in
    let r1 = r0 or refusals.not_owner s m z in
    let r2 = r1 or refusals.plate_in_zone t s z in
    let r3 = r2 or refusals.shut_while_moving s z in
    let p0 = is_party_by t m z f.holder.party in
    let p1 : r1 ≡ None = none_of_both r0 (refusals.not_owner s m z) p0 (no_owner_refusal s m z f.holder.owner) in
    let p2 : r2 ≡ None = none_of_both r1 (refusals.plate_in_zone t s z) p1 (no_then (space_has_plate t s z) _ f.holder.clear) in
    let p3 : r3 ≡ None = none_of_both r2 (refusals.shut_while_moving s z) p2 (no_then (same_posture (posture_at s z) Moving) _ (is_not_moving (posture_at s z) f.stands)) in
    none_of_both r3 (refusals.worn s) p3 (fresh_by s f.holder.stamps)

-- ---- poses

pub concerned_by_change : (t : PlanTable) (s : State) (m p z : ℕ) (q : Posture) → host_of t z ≡ m → posture_of t p z ≡ Some q → posture_at s z ≢ q → is_concerned t s m p z ≡ true
concerned_by_change t s m p z q host given other =
    let with_it : posture_with t s p z ≡ q = ap (λ o. unwrap_or o (posture_at s z)) given in
    let apart : same_posture q (posture_at s z) ≡ false = false_from_ne_true (same_posture q (posture_at s z)) (λ same. other (sym (one_posture q (posture_at s z) same))) in
    let changes : not (same_posture (posture_with t s p z) (posture_at s z)) ≡ true = ap (λ x. not (same_posture x (posture_at s z))) with_it ∙ ap not apart in
    both_of (nat_eq (host_of t z) m) (is_moving_pose t p || not (same_posture (posture_with t s p z) (posture_at s z))) (is_same (host_of t z) m host) (second (is_moving_pose t p) (not (same_posture (posture_with t s p z) (posture_at s z))) changes)
  where
    both_of : (a b : Bool) → a ≡ true → b ≡ true → (a && b) ≡ true
    both_of a b e f = rw (e, f) refl

pose_in_words : (t : PlanTable) (s : State) (m p : ℕ) → refusals.pose_refusal t s m p ≡ None → MayPose t s m p
pose_in_words t s m p e =
    let f = pose_done t s m p e in
    record {
      own = (f.there, f.machine);
      runs = λ y given. unless (is_moving_pose t p) s.stopped f.goes_on (gives_moving t p y given);
      all_clear = λ y given z l host. (held t s m p y z f given l host, clear t s m p y z f given l host);
      changed_clear = λ z q l host given other.
          let c = concerned_by_change t s m p z q host given other in
          (owner_is (owner_of s z) m (opened (is_concerned t s m p z) (owns s m z) (f.owned z l) c), unless (is_concerned t s m p z) (space_has_plate t s z) (f.clear z l) c);
      no_jump = no_jump t s m p f;
      room = λ z way l. room t s p z way (f.room z l);
      stamps = f.fresh;
    }

-- what isn't wanted where it isn't asked for
unless_asked : (a b : Bool) → (a ≡ true → b ≡ false) → (a && b) ≡ false
unless_asked true b f = f refl
unless_asked false b f = refl

unless_both : (a b c : Bool) → (a ≡ true → b ≡ false → c ≡ false) → (a && not b && c) ≡ false
unless_both true true c f = refl
unless_both true false c f = f refl refl
unless_both false b c f = refl

none_below : (f : ℕ → Bool) (n : ℕ) → ((i : ℕ) → i < n → f i ≡ false) → any_below f n ≡ false
none_below f zero none = refl
none_below f (suc n) none = rw (none_below f n (λ i l. none i (omega (arith, l))), none n (omega arith)) refl

pub itself : (q : Posture) → same_posture q q ≡ true
itself Closed = refl
itself Moving = refl
itself OpenIn = refl
itself OpenOut = refl

pub differs : (a b : Bool) → a ≡ true → not b ≡ true → a ≡ b → ⊥
differs a true e f same = cc
differs a false e f same = cc

concerned_clear : (t : PlanTable) (s : State) (m p : ℕ) → MayPose t s m p → (z : ℕ) → z < zone_count t → is_concerned t s m p z ≡ true → IsClear t s m z
concerned_clear t s m p f z l e =
    let now = posture_at s z in
    let changes : Bool = not (same_posture (posture_with t s p z) now) in
    let both = both_true (nat_eq (host_of t z) m) (is_moving_pose t p || changes) e in
    let host = eqb-true (host_of t z) m both.0 in
    ⊎_elim
    (λ moves. let y = moving_given t p moves in f.all_clear y.0 y.1 z l host)
    (λ other. elim (some_or_none (posture_of t p z)) [
      | inl none ↦ absurd (differs (same_posture now now) (same_posture (posture_with t s p z) now) (itself now) other (sym (ap (λ o. same_posture (unwrap_or o now) now) none)))
      | inr given ↦ f.changed_clear z given.0 l host given.1 (λ is. differs (same_posture given.0 given.0) (same_posture (posture_with t s p z) now) (itself given.0) other (sym (ap (λ o. same_posture (unwrap_or o now) now) given.1 ∙ ap (same_posture given.0) is)))
    ])
    (either (is_moving_pose t p) changes both.1)

opens_into : (t : PlanTable) (s : State) (m p : ℕ) → MayPose t s m p → (z : ℕ) → z < zone_count t → same_posture (posture_with t s p z) OpenIn ≡ true → same_posture (posture_at s z) OpenIn ≡ false → (o : Option Transfer) → transfer_of t z OpenIn ≡ o → refusals.is_onto_taken t s o ≡ false
opens_into t s m p f z l opens shut None is = refl
opens_into t s m p f z l opens shut (Some way) is =
    let now = posture_at s z in
    let other : now ≢ OpenIn = λ e. let yes : same_posture now OpenIn ≡ true = ap (λ q. same_posture q OpenIn) e in cc in
    elim (some_or_none (posture_of t p z)) [
      | inl none ↦ let opens_in : same_posture now OpenIn ≡ true = sym (ap (λ o. same_posture (unwrap_or o now) OpenIn) none) ∙ opens in absurd (other (one_posture now OpenIn opens_in))
      | inr given ↦
          let opens_in : same_posture given.0 OpenIn ≡ true = sym (ap (λ o. same_posture (unwrap_or o now) OpenIn) given.1) ∙ opens in
          ap (nat_lt 0) (f.room z way l (given.1 ∙ ap (λ q. Some q) (one_posture given.0 OpenIn opens_in)) other is)
    ]

pose_by_words : (t : PlanTable) (s : State) (m p : ℕ) → MayPose t s m p → refusals.pose_refusal t s m p ≡ None
pose_by_words t s m p f =
    let zones = zone_count t in
    let has : has_pose t m p ≡ true = rw (lt-ltb p (pose_count t) f.own.0, is_same (machine_of t p) m f.own.1) refl in
    let runs = unless_asked (is_moving_pose t p) s.stopped (λ moves. let y = moving_given t p moves in f.runs y.0 y.1) in
    let owned = first_below_all (refusals.unowned_by_pose t s m p) zones (λ z l. no_then (is_concerned t s m p z && not (owns s m z)) _ (unless_asked (is_concerned t s m p z) (not (owns s m z)) (λ c. ap not (owner_by s m z (concerned_clear t s m p f z l c).0)))) in
    let clear = first_below_all (refusals.plate_under_pose t s m p) zones (λ z l. no_then (is_concerned t s m p z && space_has_plate t s z) _ (unless_asked (is_concerned t s m p z) (space_has_plate t s z) (λ c. (concerned_clear t s m p f z l c).1))) in
    let stands = unless_asked (pose_row t p).after_moving (any_below (refusals.stands_at t s m) zones) (λ after. none_below (refusals.stands_at t s m) zones (λ z l. unless_asked (nat_eq (host_of t z) m) (not (same_posture (posture_at s z) Moving)) (λ h. ap (λ q. not (same_posture q Moving)) (f.no_jump after z l (eqb-true (host_of t z) m h))))) in
    let room = first_below_all (refusals.opens_onto_plate t s p) zones (λ z l. no_then (same_posture (posture_with t s p z) OpenIn && not (same_posture (posture_at s z) OpenIn) && refusals.is_onto_taken t s (transfer_of t z OpenIn)) PlaceFull (unless_both (same_posture (posture_with t s p z) OpenIn) (same_posture (posture_at s z) OpenIn) (refusals.is_onto_taken t s (transfer_of t z OpenIn)) (λ opens shut. opens_into t s m p f z l opens shut (transfer_of t z OpenIn) refl))) in
    let r0 = refusals.lacks_pose t m p in
    let r1 = r0 or refusals.moves_while_stopped t s p in
    let r2 = r1 or refusals.first_zone t (refusals.unowned_by_pose t s m p) in
    let r3 = r2 or refusals.first_zone t (refusals.plate_under_pose t s m p) in
    let r4 = r3 or refusals.jump t s m p in
    let r5 = r4 or refusals.first_zone t (refusals.opens_onto_plate t s p) in
    let p1 : r1 ≡ None = none_of_both r0 (refusals.moves_while_stopped t s p) (no_then_not (has_pose t m p) _ has) (no_then (is_moving_pose t p && s.stopped) _ runs) in
    let p2 : r2 ≡ None = none_of_both r1 (refusals.first_zone t (refusals.unowned_by_pose t s m p)) p1 owned in
    let p3 : r3 ≡ None = none_of_both r2 (refusals.first_zone t (refusals.plate_under_pose t s m p)) p2 clear in
    let p4 : r4 ≡ None = none_of_both r3 (refusals.jump t s m p) p3 (no_then ((pose_row t p).after_moving && any_below (refusals.stands_at t s m) zones) _ stands) in
    let p5 : r5 ≡ None = none_of_both r4 (refusals.first_zone t (refusals.opens_onto_plate t s p)) p4 room in
    none_of_both r5 (refusals.worn s) p5 (fresh_by s f.stamps)

-- ---- advances

pub end_in_words : (t : PlanTable) (m p : ℕ) → has_end t m p ≡ true → KeepsEnd t m p
end_in_words t m p e =
    let own = both_true (is_place_of t p m) (is_source t p || is_sink t p) e in
    let place = both_true (nat_lt p (place_count t)) (nat_eq (keeper_of t p) m) own.0 in
    (ltb-true p (place_count t) place.0, eqb-true (keeper_of t p) m place.1, either (is_source t p) (is_sink t p) own.1)

pub end_by : (t : PlanTable) (m p : ℕ) → KeepsEnd t m p → has_end t m p ≡ true
end_by t m p f =
    rw (lt-ltb p (place_count t) f.0, is_same (keeper_of t p) m f.1)
    (⊎_elim (λ h. first (is_source t p) (is_sink t p) h) (λ g. second (is_source t p) (is_sink t p) g) f.2)

-- nothing bars the plate that comes or goes
room_by : (source taken sink full : Bool) → ((source ≡ true) × (taken ≡ false)) ⊎ ((sink ≡ true) × (full ≡ true)) → (source && (taken && not (sink && full))) ≡ false
room_by true false sink full f = refl
room_by false taken sink full f = refl
room_by true true true true f = refl
room_by true true false full (inl h) = cc
room_by true true false full (inr h) = cc
room_by true true true false (inl h) = cc
room_by true true true false (inr h) = cc

plate_by : (source full : Bool) → (source ≡ true) ⊎ (full ≡ true) → (not source && not full) ≡ false
plate_by true full f = refl
plate_by false true f = refl
plate_by false false (inl h) = cc
plate_by false false (inr h) = cc

pub has_room : (t : PlanTable) (s : State) (p : ℕ) → PlateMoves t s p → (is_source t p && (refusals.is_taken t s p && not (refusals.can_go t s p))) ≡ false
has_room t s p f = room_by (is_source t p) (refusals.is_taken t s p) (is_sink t p) (is_full s p) (⊎_elim (λ h. inl (h.0, ap (nat_lt 0) h.1)) (λ g. inr g) f)

pub has_plate : (t : PlanTable) (s : State) (p : ℕ) → PlateMoves t s p → (not (is_source t p) && not (is_full s p)) ≡ false
has_plate t s p f = plate_by (is_source t p) (is_full s p) (⊎_elim (λ h. inl h.0) (λ g. inr g.1) f)

advance_in_words : (t : PlanTable) (s : State) (m p : ℕ) → refusals.advance_refusal t s m p ≡ None → MayAdvance t s m p
advance_in_words t s m p e =
    let f = advance_done t s m p e in
    record {
      own = (f.there, f.keeper, either (is_source t p) (is_sink t p) f.ends);
      runs = f.goes_on;
      moves = by f (is_full s p) refl;
      stamps = f.fresh;
    }
  where
    by : Advances t s m p → (full : Bool) → is_full s p ≡ full → PlateMoves t s p
    by f true e = inr (goes t s m p f e, e)
    by f false e = inl (comes t s m p f e)

advance_by_words : (t : PlanTable) (s : State) (m p : ℕ) → MayAdvance t s m p → refusals.advance_refusal t s m p ≡ None
advance_by_words t s m p f =
    let r0 = refusals.not_own_end t m p in
    let r1 = r0 or refusals.while_stopped s in
    let r2 = r1 or refusals.source_taken t s p in
    let r3 = r2 or refusals.sink_empty t s p in
    let p0 = no_then_not (has_end t m p) NotParty (end_by t m p f.own) in
    let p1 : r1 ≡ None = none_of_both r0 (refusals.while_stopped s) p0 (no_then s.stopped _ f.runs) in
    let p2 : r2 ≡ None = none_of_both r1 (refusals.source_taken t s p) p1 (no_then (is_source t p && (refusals.is_taken t s p && not (refusals.can_go t s p))) _ (has_room t s p f.moves)) in
    let p3 : r3 ≡ None = none_of_both r2 (refusals.sink_empty t s p) p2 (no_then (not (is_source t p) && not (is_full s p)) _ (has_plate t s p f.moves)) in
    none_of_both r3 (refusals.worn s) p3 (fresh_by s f.stamps)

-- ---- the watch

stop_by_words : (s : State) (m : ℕ) → MayMark s m false → refusals.stop_refusal s m ≡ None
stop_by_words s m f =
    let r0 = refusals.not_watch m in
    let p0 = no_then_not (nat_eq m watch) NotParty (is_same m watch f.watch) in
    none_of_both (r0 or refusals.while_stopped s) (refusals.worn s) (none_of_both r0 (refusals.while_stopped s) p0 (no_then s.stopped _ f.in_turn)) (fresh_by s f.stamps)

resume_by_words : (s : State) (m : ℕ) → MayMark s m true → refusals.resume_refusal s m ≡ None
resume_by_words s m f =
    let r0 = refusals.not_watch m in
    let p0 = no_then_not (nat_eq m watch) NotParty (is_same m watch f.watch) in
    none_of_both (r0 or refusals.not_stopped s) (refusals.worn s) (none_of_both r0 (refusals.not_stopped s) p0 (no_then_not s.stopped _ f.in_turn)) (fresh_by s f.stamps)

-- ---- each call

done_by : (r : Option Refusal) → r ≡ None → answer_by r Done ≡ Done
done_by r none = ap (λ x. answer_by x Done) none

pub done_exactly : CallsAreDoneExactly
done_exactly t s m z p = record {
  claim = (λ e. claim_in_words t s m z (done_none _ _ e), λ f. done_by _ (claim_by_words t s m z f));
  give = (λ e. give_in_words t s m z (done_none _ _ e), λ f. done_by _ (give_by_words t s m z f));
  yield = (λ e. yield_in_words t s m z (done_none _ _ e), λ f. done_by _ (yield_by_words t s m z f));
  take = (λ e. take_in_words t s m z (done_none _ _ e), λ f. done_by _ (take_by_words t s m z f));
  release = (λ e. release_in_words t s m z (done_none _ _ e), λ f. done_by _ (release_by_words t s m z f));
  pose = (λ e. pose_in_words t s m p (done_none _ _ e), λ f. done_by _ (pose_by_words t s m p f));
  stop = (
    λ e. let f = stop_done s m (done_none _ _ e) in record { watch = f.caller; in_turn = f.mark; stamps = f.fresh },
    λ f. done_by _ (stop_by_words s m f),
  );
  resume = (
    λ e. let f = resume_done s m (done_none _ _ e) in record { watch = f.caller; in_turn = f.mark; stamps = f.fresh },
    λ f. done_by _ (resume_by_words s m f),
  );
  advance = (λ e. advance_in_words t s m p (done_none _ _ e), λ f. done_by _ (advance_by_words t s m p f));
  inquire = λ l. ap (λ r. answer_by r (Shown (zone_at s z).owner (zone_at s z).flag (zone_at s z).posture)) (no_then_not (nat_lt z (zone_count t)) NotParty (lt-ltb z (zone_count t) l));
}
