-- What each refusal says is so.
use Rattle.std.proofs.Common.{◌≡◌, ◌≢◌, ◌⊎◌, inl, inr, ℕ, zero, suc, ◌<◌, ◌≤◌, Bool, true, false, ◌&&◌, ◌||◌, not, nat_eq, nat_lt, Option, Some, None, is_none, unwrap_or, refl, sym, ap, ◌∙◌, subst, arith, if◌then◌else◌, ltb-true}
use Rattle.std.specs.Bool.{then_some}
use Rattle.std.specs.Cmp.{first_so, second_so}
use Rattle.std.proofs.lemmas.Bool.{cases_lt, eqb-true, lt-ltb}
use Rattle.plan_types.specs.declared.posture.Posture.{Posture}
use Rattle.plan_types.specs.declared.posture.Posture.TheVariants.{Closed, Moving, OpenIn, OpenOut}
use Rattle.plan_types.specs.declared.table.Transfer.{Transfer}
use Rattle.plan_types.specs.declared.call.Call.{Call}
use Rattle.plan_types.specs.declared.call.Call.TheVariants.{Claim, Give, Yield, Take, Release, SetPose, Inquire, Stop, Resume, Advance}
use Rattle.plan_types.specs.declared.answer.Refusal.{Refusal}
use Rattle.plan_types.specs.declared.answer.Refusal.TheVariants.{NotParty, Held, AlreadyMine, Shut, NotOwner, PlateInZone, NoPlate, PlaceFull, WrongWay, Jump, NoPose, Worn, Stopped, NotStopped}
use Rattle.plan_types.specs.Same.{same_posture, one_posture}
use Rattle.plan_types.specs.Below.{first_below, any_below}
use Rattle.plan_types.specs.Table.{PlanTable, zone_count, pose_count, host_of, guest_of, machine_of, pose_row, posture_of, transfer_of, is_moving_pose, has_pose, is_party, watch, is_source, has_end}
use Rattle.plan_rules.specs.declared.state.State.{State}
use Rattle.plan_rules.specs.State.{zone_at, owner_of, posture_at, is_full, plates_for, space_has_plate, last_stamp}
use Rattle.plan_rules.specs.Sound.{is_open}
use Rattle.plan_rules.specs.Refusals as refusals
use Rattle.plan_rules.specs.Refusals.{◌or◌, owns, is_concerned, posture_with}
use Rattle.plan_rules.specs.Reply.{refusal}
use Rattle.plan_rules.specs.DoneLaws.{IsPartyOf}
use Rattle.plan_rules.specs.SayLaws.{IsAbout, OnGift, Says, RefusalsAreTrue}
use Rattle.plan_rules.proofs.lemmas.Puts.{nat_eq-apart, same_or_not}
use Rattle.plan_rules.proofs.lemmas.Soundness.{some_or_none}
use Rattle.plan_rules.proofs.lemmas.Zones.{both_true, owner_is}
use Rattle.plan_rules.proofs.DoneExactly.{is_same, is_party_by, owner_by, end_by}
use Rattle.plan_rules.proofs.Refusing.{refusal_of_reply}

-- ---- what holds of the first refusal of several

pub both_say : (P : Refusal → Type 0) (a b : Option Refusal) → ((r : Refusal) → a ≡ Some r → P r) → ((r : Refusal) → b ≡ Some r → P r) → (r : Refusal) → (a or b) ≡ Some r → P r
both_say P None b here there r e = there r e
both_say P (Some q) b here there r e = here r e

pub one_says : (P : Refusal → Type 0) (b : Bool) (q : Refusal) → (b ≡ true → P q) → (r : Refusal) → then_some b q ≡ Some r → P r
one_says P true q says r e = let same : q ≡ r = cc in subst P same (says refl)
one_says P false q says r e = cc

pub zones_say : (P : Refusal → Type 0) (f : ℕ → Option Refusal) (n : ℕ) → ((z : ℕ) → z < n → (r : Refusal) → f z ≡ Some r → P r) → (r : Refusal) → first_below f n ≡ Some r → P r
zones_say P f zero says r e = cc
zones_say P f (suc n) says r e = both_say P (first_below f n) (f n) (zones_say P f n (λ z l. says z (omega arith))) (says n (omega arith)) r e

-- ---- truth values

pub is_not : (b : Bool) → not b ≡ true → b ≡ false
is_not true e = cc
is_not false e = refl

pub not_both : (b : Bool) → b ≡ true → b ≡ false → ⊥
not_both true e f = cc
not_both false e f = cc

pub not_below : (a b : ℕ) → nat_lt a b ≡ false → b ≤ a
not_below a b fails = elim (cases_lt a b) [ inl h ↦ absurd (not_both (nat_lt a b) (lt-ltb a b h) fails) | inr h ↦ h ]

pub shut_in_words : (q : Posture) → is_open q ≡ false → (q ≡ Closed) ⊎ (q ≡ Moving)
shut_in_words Closed e = inl refl
shut_in_words Moving e = inr refl
shut_in_words OpenIn e = cc
shut_in_words OpenOut e = cc

not_none : (b : Bool) (r : Refusal) → then_some b r ≡ None → b ≡ true → ⊥
not_none true r e f = cc
not_none false r e f = cc

last_or_lower : (f : ℕ → Bool) (n : ℕ) (a b : Bool) → any_below f n ≡ a → f n ≡ b → (any_below f n ≡ true → (i : ℕ) × (i < n) × (f i ≡ true)) → (a || b) ≡ true → (i : ℕ) × (i < suc n) × (f i ≡ true)
last_or_lower f n true b there here lower e = let k = lower there in let below = k.1 in (k.0, omega (arith, below), k.2)
last_or_lower f n false true there here lower e = (n, omega arith, here)
last_or_lower f n false false there here lower e = cc

some_any : (f : ℕ → Bool) (n : ℕ) → any_below f n ≡ true → (i : ℕ) × (i < n) × (f i ≡ true)
some_any f zero e = cc
some_any f (suc n) e = last_or_lower f n (any_below f n) (f n) refl refl (some_any f n) e

-- ---- the conditions that several calls have; the call is about a zone

module _ (t : PlanTable) (s : State) (m : ℕ) (c : Call) where
  abbrev P : Refusal → Type 0
  P r = Says t s m c r

  worn_says : (r : Refusal) → refusals.worn s ≡ Some r → P r
  worn_says = one_says P (not (nat_lt s.stamp last_stamp)) Worn (λ yes. not_below s.stamp 1048575 (is_not (nat_lt s.stamp last_stamp) yes))

  stopped_says : (r : Refusal) → refusals.while_stopped s ≡ Some r → P r
  stopped_says = one_says P s.stopped Stopped (λ yes. yes)

  module _ (z : ℕ) (about : IsAbout t m c z) where
    party_says : (¬ IsPartyOf t m z → P NotParty) → (r : Refusal) → refusals.not_party t m z ≡ Some r → P r
    party_says says = one_says P (not (is_party t m z)) NotParty (λ yes. says (λ party. not_none (not (is_party t m z)) NotParty (is_party_by t m z party) yes))

    owner_says : (r : Refusal) → refusals.not_owner s m z ≡ Some r → P r
    owner_says = one_says P (not (owns s m z)) (NotOwner (owner_of s z)) (λ yes. (z, about, (refl, λ own. not_both (owns s m z) (owner_by s m z own) (is_not (owns s m z) yes))))

    plate_says : (r : Refusal) → refusals.plate_in_zone t s z ≡ Some r → P r
    plate_says = one_says P (space_has_plate t s z) (PlateInZone z) (λ yes. (about, yes))

    mine_says : (r : Refusal) → refusals.already_mine s m z ≡ Some r → P r
    mine_says = one_says P (owns s m z) AlreadyMine (λ yes. (z, about, owner_is (owner_of s z) m yes))

    held_as : (o : Option ℕ) → owner_of s z ≡ o → (r : Refusal) → refusals.held_by o m ≡ Some r → P r
    held_as None is r e = cc
    held_as (Some o) is r e = one_says P (not (nat_eq o m)) (Held o) (λ yes. (z, about, (is, λ same. not_both (nat_eq o m) (is_same o m same) (is_not (nat_eq o m) yes)))) r e

    held_says : (r : Refusal) → refusals.held s m z ≡ Some r → P r
    held_says = held_as (owner_of s z) refl

    guest_says : (r : Refusal) → refusals.shut_to_guest t s m z ≡ Some r → P r
    guest_says = one_says P (nat_eq m (guest_of t z) && not (is_open (posture_at s z))) (Shut (posture_at s z)) (λ yes. (z, about, (refl, shut_in_words (posture_at s z) (is_not (is_open (posture_at s z)) (second_so (nat_eq m (guest_of t z)) (not (is_open (posture_at s z))) yes)))))

    shut_says : (r : Refusal) → refusals.shut s z ≡ Some r → P r
    shut_says = one_says P (not (is_open (posture_at s z))) (Shut (posture_at s z)) (λ yes. (z, about, (refl, shut_in_words (posture_at s z) (is_not (is_open (posture_at s z)) yes))))

    moving_says : (r : Refusal) → refusals.shut_while_moving s z ≡ Some r → P r
    moving_says = one_says P (same_posture (posture_at s z) Moving) (Shut Moving) (λ yes. (z, about, (one_posture (posture_at s z) Moving yes, inr refl)))

-- ---- gives and takes

some_way : {x y : Transfer} → Some x ≡ Some y → x ≡ y
some_way e = cc

pub gift_as : (t : PlanTable) (s : State) (m z : ℕ) (holds : Transfer → Type 0) (o : Option Transfer) → transfer_of t z (posture_at s z) ≡ o → (way : Transfer) → refusals.given_by m o ≡ Some way → holds way → OnGift t s m z holds
gift_as t s m z holds None is way given here = cc
gift_as t s m z holds (Some w) is way given here =
    elim (same_or_not w.giver m) [
      | inl e ↦ let same : w ≡ way = some_way (sym (ap (λ b. if b then Some w else None) (is_same w.giver m e)) ∙ given) in (w, is, e, subst holds (sym same) here)
      | inr ne ↦ absurd (no_some way (sym (ap (λ b. if b then Some w else None) (nat_eq-apart w.giver m ne)) ∙ given))
    ]
  where
    no_some : (y : Transfer) → None ≡ Some y → ⊥
    no_some y e = cc

module _ (t : PlanTable) (s : State) (m z : ℕ) where
  abbrev G : Refusal → Type 0
  G r = Says t s m (Give z) r

  gives_nothing : (o : Option Transfer) → transfer_of t z (posture_at s z) ≡ o → is_none (refusals.given_by m o) ≡ true → (way : Transfer) → transfer_of t z (posture_at s z) ≡ Some way → way.giver ≢ m
  gives_nothing None is none way has giver = absurd (let f = sym is ∙ has in cc)
  gives_nothing (Some w) is none way has giver =
      let same : w ≡ way = some_way (sym is ∙ has) in
      let e : w.giver ≡ m = ap (λ (x : Transfer). x.giver) same ∙ giver in
      let given : refusals.given_by m (Some w) ≡ Some w = ap (λ b. if b then Some w else None) (is_same w.giver m e) in
      let no : is_none (refusals.given_by m (Some w)) ≡ false = ap is_none given in
      not_both (is_none (refusals.given_by m (Some w))) none no

  wrong_way_says : (r : Refusal) → refusals.wrong_way (refusals.transfer_given t s m z) ≡ Some r → G r
  wrong_way_says = one_says G (is_none (refusals.transfer_given t s m z)) WrongWay (λ yes. gives_nothing (transfer_of t z (posture_at s z)) refl yes)

  nothing_as : (o : Option Transfer) → refusals.transfer_given t s m z ≡ o → (r : Refusal) → refusals.nothing_to_give s o ≡ Some r → G r
  nothing_as None is r e = cc
  nothing_as (Some way) is r e = one_says G (not (is_full s way.from)) NoPlate (λ yes. gift_as t s m z (λ w. is_full s w.from ≡ false) (transfer_of t z (posture_at s z)) refl way is (is_not (is_full s way.from) yes)) r e

  no_room_as : (o : Option Transfer) → refusals.transfer_given t s m z ≡ o → (r : Refusal) → refusals.no_room t s o ≡ Some r → G r
  no_room_as None is r e = cc
  no_room_as (Some way) is r e = one_says G (refusals.is_taken t s way.to) PlaceFull (λ yes. gift_as t s m z (λ w. 0 < plates_for t s w.to) (transfer_of t z (posture_at s z)) refl way is (ltb-true 0 (plates_for t s way.to) yes)) r e

-- ---- poses

module _ (t : PlanTable) (s : State) (m p : ℕ) where
  abbrev Q : Refusal → Type 0
  Q r = Says t s m (SetPose p) r

  lacks_says : (r : Refusal) → refusals.lacks_pose t m p ≡ Some r → Q r
  lacks_says = one_says Q (not (has_pose t m p)) NoPose (λ yes own. let has : has_pose t m p ≡ true = rw (lt-ltb p (pose_count t) own.0, is_same (machine_of t p) m own.1) refl in not_both (has_pose t m p) has (is_not (has_pose t m p) yes))

  moves_says : (r : Refusal) → refusals.moves_while_stopped t s p ≡ Some r → Q r
  moves_says = one_says Q (is_moving_pose t p && s.stopped) Stopped (λ yes. second_so (is_moving_pose t p) s.stopped yes)

  host_by : (z : ℕ) → is_concerned t s m p z ≡ true → host_of t z ≡ m
  host_by z e = eqb-true (host_of t z) m (first_so (nat_eq (host_of t z) m) (is_moving_pose t p || not (same_posture (posture_with t s p z) (posture_at s z))) e)

  unowned_says : (z : ℕ) → z < zone_count t → (r : Refusal) → refusals.unowned_by_pose t s m p z ≡ Some r → Q r
  unowned_says z l = one_says Q (is_concerned t s m p z && not (owns s m z)) (NotOwner (owner_of s z)) (λ yes.
      let both = both_true (is_concerned t s m p z) (not (owns s m z)) yes in
      (z, (l, host_by z both.0), (refl, λ own. not_both (owns s m z) (owner_by s m z own) (is_not (owns s m z) both.1))))

  under_says : (z : ℕ) → z < zone_count t → (r : Refusal) → refusals.plate_under_pose t s m p z ≡ Some r → Q r
  under_says z l = one_says Q (is_concerned t s m p z && space_has_plate t s z) (PlateInZone z) (λ yes.
      let both = both_true (is_concerned t s m p z) (space_has_plate t s z) yes in
      ((l, host_by z both.0), both.1))

  pub jump_in_words : ((pose_row t p).after_moving && any_below (refusals.stands_at t s m) (zone_count t)) ≡ true → Q Jump
  jump_in_words e =
      let both = both_true (pose_row t p).after_moving (any_below (refusals.stands_at t s m) (zone_count t)) e in
      let found = some_any (refusals.stands_at t s m) (zone_count t) both.1 in
      let z = found.0 in
      let stands = both_true (nat_eq (host_of t z) m) (not (same_posture (posture_at s z) Moving)) found.2 in
      (both.0, z, found.1, eqb-true (host_of t z) m stands.0, λ moves. not_both (same_posture (posture_at s z) Moving) (ap (λ q. same_posture q Moving) moves) (is_not (same_posture (posture_at s z) Moving) stands.1))

  jump_says : (r : Refusal) → refusals.jump t s m p ≡ Some r → Q r
  jump_says = one_says Q ((pose_row t p).after_moving && any_below (refusals.stands_at t s m) (zone_count t)) Jump jump_in_words

  onto : (z : ℕ) → z < zone_count t → posture_of t p z ≡ Some OpenIn → posture_at s z ≢ OpenIn → (o : Option Transfer) → transfer_of t z OpenIn ≡ o → refusals.is_onto_taken t s o ≡ true → Q PlaceFull
  onto z l given other None is e = cc
  onto z l given other (Some way) is e = (z, l, given, other, way, is, ltb-true 0 (plates_for t s way.to) e)

  -- any P of what such a zone says
  pub room_says_by : (P : Refusal → Type 0) → (Q PlaceFull → P PlaceFull) → (z : ℕ) → z < zone_count t → (r : Refusal) → refusals.opens_onto_plate t s p z ≡ Some r → P r
  room_says_by P says z l =
      let now = posture_at s z in
      let opens = same_posture (posture_with t s p z) OpenIn in
      let was = same_posture now OpenIn in
      let taken = refusals.is_onto_taken t s (transfer_of t z OpenIn) in
      one_says P (opens && not was && taken) PlaceFull (λ yes.
      let both = both_true (opens && not was) taken yes in
      let change = both_true opens (not was) both.0 in
      let other : now ≢ OpenIn = λ e. not_both was (ap (λ q. same_posture q OpenIn) e) (is_not was change.1) in
      elim (some_or_none (posture_of t p z)) [
        | inl none ↦ absurd (other (one_posture now OpenIn (sym (ap (λ o. same_posture (unwrap_or o now) OpenIn) none) ∙ change.0)))
        | inr given ↦
            let in_words : given.0 ≡ OpenIn = one_posture given.0 OpenIn (sym (ap (λ o. same_posture (unwrap_or o now) OpenIn) given.1) ∙ change.0) in
            says (onto z l (given.1 ∙ ap (λ q. Some q) in_words) other (transfer_of t z OpenIn) refl both.1)
      ])

  room_says : (z : ℕ) → z < zone_count t → (r : Refusal) → refusals.opens_onto_plate t s p z ≡ Some r → Q r
  room_says = room_says_by Q (λ f. f)

-- ---- each call

module _ (t : PlanTable) (s : State) (m : ℕ) where
  claim_says : (z : ℕ) (r : Refusal) → refusals.claim_refusal t s m z ≡ Some r → Says t s m (Claim z) r
  claim_says z =
      let c : Call = Claim z in
      let P0 : Refusal → Type 0 = λ r. Says t s m c r in
      let r0 = refusals.not_party t m z in
      let r1 = r0 or refusals.while_stopped s in
      let r2 = r1 or refusals.already_mine s m z in
      let r3 = r2 or refusals.held s m z in
      let r4 = r3 or refusals.shut_to_guest t s m z in
      both_say P0 r4 (refusals.worn s)
      (both_say P0 r3 (refusals.shut_to_guest t s m z)
      (both_say P0 r2 (refusals.held s m z)
      (both_say P0 r1 (refusals.already_mine s m z)
      (both_say P0 r0 (refusals.while_stopped s) (party_says t s m c z refl (λ no. (z, refl, no))) (stopped_says t s m c))
      (mine_says t s m c z refl))
      (held_says t s m c z refl))
      (guest_says t s m c z refl))
      (worn_says t s m c)

  give_says : (z : ℕ) (r : Refusal) → refusals.give_refusal t s m z ≡ Some r → Says t s m (Give z) r
  give_says z =
      let c : Call = Give z in
      let P0 : Refusal → Type 0 = λ r. Says t s m c r in
      let way = refusals.transfer_given t s m z in
      let r0 = refusals.not_party t m z in
      let r1 = r0 or refusals.while_stopped s in
      let r2 = r1 or refusals.not_owner s m z in
      let r3 = r2 or refusals.plate_in_zone t s z in
      let r4 = r3 or refusals.wrong_way way in
      let r5 = r4 or refusals.nothing_to_give s way in
      let r6 = r5 or refusals.no_room t s way in
      both_say P0 r6 (refusals.worn s)
      (both_say P0 r5 (refusals.no_room t s way)
      (both_say P0 r4 (refusals.nothing_to_give s way)
      (both_say P0 r3 (refusals.wrong_way way)
      (both_say P0 r2 (refusals.plate_in_zone t s z)
      (both_say P0 r1 (refusals.not_owner s m z)
      (both_say P0 r0 (refusals.while_stopped s) (party_says t s m c z refl (λ no. (z, refl, no))) (stopped_says t s m c))
      (owner_says t s m c z refl))
      (plate_says t s m c z refl))
      (wrong_way_says t s m z))
      (nothing_as t s m z way refl))
      (no_room_as t s m z way refl))
      (worn_says t s m c)

  yield_says : (z : ℕ) (r : Refusal) → refusals.yield_refusal t s m z ≡ Some r → Says t s m (Yield z) r
  yield_says z =
      let c : Call = Yield z in
      let P0 : Refusal → Type 0 = λ r. Says t s m c r in
      let r0 = refusals.not_party t m z in
      let r1 = r0 or refusals.not_owner s m z in
      let r2 = r1 or refusals.plate_in_zone t s z in
      let r3 = r2 or refusals.shut s z in
      both_say P0 r3 (refusals.worn s)
      (both_say P0 r2 (refusals.shut s z)
      (both_say P0 r1 (refusals.plate_in_zone t s z)
      (both_say P0 r0 (refusals.not_owner s m z) (party_says t s m c z refl (λ no. (z, refl, no))) (owner_says t s m c z refl))
      (plate_says t s m c z refl))
      (shut_says t s m c z refl))
      (worn_says t s m c)

  take_says : (z : ℕ) (r : Refusal) → refusals.take_refusal t s m z ≡ Some r → Says t s m (Take z) r
  take_says z =
      let c : Call = Take z in
      let P0 : Refusal → Type 0 = λ r. Says t s m c r in
      let r0 = refusals.not_party t m z in
      let r1 = r0 or refusals.not_owner s m z in
      let r2 = r1 or refusals.no_plate_in_zone s z in
      both_say P0 r2 (refusals.worn s)
      (both_say P0 r1 (refusals.no_plate_in_zone s z)
      (both_say P0 r0 (refusals.not_owner s m z) (party_says t s m c z refl (λ no. (z, refl, no))) (owner_says t s m c z refl))
      (one_says P0 (not (zone_at s z).flag) NoPlate (λ yes. is_not (zone_at s z).flag yes)))
      (worn_says t s m c)

  release_says : (z : ℕ) (r : Refusal) → refusals.release_refusal t s m z ≡ Some r → Says t s m (Release z) r
  release_says z =
      let c : Call = Release z in
      let P0 : Refusal → Type 0 = λ r. Says t s m c r in
      let r0 = refusals.not_party t m z in
      let r1 = r0 or refusals.not_owner s m z in
      let r2 = r1 or refusals.plate_in_zone t s z in
      let r3 = r2 or refusals.shut_while_moving s z in
      both_say P0 r3 (refusals.worn s)
      (both_say P0 r2 (refusals.shut_while_moving s z)
      (both_say P0 r1 (refusals.plate_in_zone t s z)
      (both_say P0 r0 (refusals.not_owner s m z) (party_says t s m c z refl (λ no. (z, refl, no))) (owner_says t s m c z refl))
      (plate_says t s m c z refl))
      (moving_says t s m c z refl))
      (worn_says t s m c)

  pose_says : (p : ℕ) (r : Refusal) → refusals.pose_refusal t s m p ≡ Some r → Says t s m (SetPose p) r
  pose_says p =
      let c : Call = SetPose p in
      let P0 : Refusal → Type 0 = λ r. Says t s m c r in
      let n = zone_count t in
      let r0 = refusals.lacks_pose t m p in
      let r1 = r0 or refusals.moves_while_stopped t s p in
      let r2 = r1 or refusals.first_zone t (refusals.unowned_by_pose t s m p) in
      let r3 = r2 or refusals.first_zone t (refusals.plate_under_pose t s m p) in
      let r4 = r3 or refusals.jump t s m p in
      let r5 = r4 or refusals.first_zone t (refusals.opens_onto_plate t s p) in
      both_say P0 r5 (refusals.worn s)
      (both_say P0 r4 (refusals.first_zone t (refusals.opens_onto_plate t s p))
      (both_say P0 r3 (refusals.jump t s m p)
      (both_say P0 r2 (refusals.first_zone t (refusals.plate_under_pose t s m p))
      (both_say P0 r1 (refusals.first_zone t (refusals.unowned_by_pose t s m p))
      (both_say P0 r0 (refusals.moves_while_stopped t s p) (lacks_says t s m p) (moves_says t s m p))
      (zones_say P0 (refusals.unowned_by_pose t s m p) n (unowned_says t s m p)))
      (zones_say P0 (refusals.plate_under_pose t s m p) n (under_says t s m p)))
      (jump_says t s m p))
      (zones_say P0 (refusals.opens_onto_plate t s p) n (room_says t s m p)))
      (worn_says t s m c)

  watch_says : (c : Call) → (m ≢ 30 → Says t s m c NotParty) → (r : Refusal) → refusals.not_watch m ≡ Some r → Says t s m c r
  watch_says c says = one_says (λ r. Says t s m c r) (not (nat_eq m watch)) NotParty (λ yes. says (λ same. not_both (nat_eq m watch) (is_same m watch same) (is_not (nat_eq m watch) yes)))

  stop_says : (r : Refusal) → refusals.stop_refusal s m ≡ Some r → Says t s m Stop r
  stop_says =
      let P0 : Refusal → Type 0 = λ r. Says t s m Stop r in
      both_say P0 (refusals.not_watch m or refusals.while_stopped s) (refusals.worn s)
      (both_say P0 (refusals.not_watch m) (refusals.while_stopped s) (watch_says Stop (λ no. no)) (stopped_says t s m Stop))
      (worn_says t s m Stop)

  resume_says : (r : Refusal) → refusals.resume_refusal s m ≡ Some r → Says t s m Resume r
  resume_says =
      let P0 : Refusal → Type 0 = λ r. Says t s m Resume r in
      both_say P0 (refusals.not_watch m or refusals.not_stopped s) (refusals.worn s)
      (both_say P0 (refusals.not_watch m) (refusals.not_stopped s) (watch_says Resume (λ no. no)) (one_says P0 (not s.stopped) NotStopped (λ yes. is_not s.stopped yes)))
      (worn_says t s m Resume)

  inquire_says : (z : ℕ) (r : Refusal) → refusals.inquire_refusal t z ≡ Some r → Says t s m (Inquire z) r
  inquire_says z = one_says (λ r. Says t s m (Inquire z) r) (not (nat_lt z (zone_count t))) NotParty (λ yes. not_below z (zone_count t) (is_not (nat_lt z (zone_count t)) yes))

  advance_says : (p : ℕ) (r : Refusal) → refusals.advance_refusal t s m p ≡ Some r → Says t s m (Advance p) r
  advance_says p =
      let c : Call = Advance p in
      let P0 : Refusal → Type 0 = λ r. Says t s m c r in
      let taken = refusals.is_taken t s p in
      let goes = refusals.can_go t s p in
      let r0 = refusals.not_own_end t m p in
      let r1 = r0 or refusals.while_stopped s in
      let r2 = r1 or refusals.source_taken t s p in
      let r3 = r2 or refusals.sink_empty t s p in
      both_say P0 r3 (refusals.worn s)
      (both_say P0 r2 (refusals.sink_empty t s p)
      (both_say P0 r1 (refusals.source_taken t s p)
      (both_say P0 r0 (refusals.while_stopped s)
      (one_says P0 (not (has_end t m p)) NotParty (λ yes keeps. not_both (has_end t m p) (end_by t m p keeps) (is_not (has_end t m p) yes)))
      (stopped_says t s m c))
      (one_says P0 (is_source t p && (taken && not goes)) PlaceFull (λ yes.
      let rest = second_so (is_source t p) (taken && not goes) yes in (
        first_so (is_source t p) (taken && not goes) yes,
        ltb-true 0 (plates_for t s p) (first_so taken (not goes) rest),
        λ both. not_both goes (rw (both.0, both.1) refl) (is_not goes (second_so taken (not goes) rest)),
      ))))
      (one_says P0 (not (is_source t p) && not (is_full s p)) NoPlate (λ yes. (
        is_not (is_source t p) (first_so (not (is_source t p)) (not (is_full s p)) yes),
        is_not (is_full s p) (second_so (not (is_source t p)) (not (is_full s p)) yes),
      ))))
      (worn_says t s m c)

  says : (c : Call) (r : Refusal) → refusal t s m c ≡ Some r → Says t s m c r
  says (Claim z) = claim_says z
  says (Give z) = give_says z
  says (Yield z) = yield_says z
  says (Take z) = take_says z
  says (Release z) = release_says z
  says (SetPose p) = pose_says p
  says (Inquire z) = inquire_says z
  says Stop = stop_says
  says Resume = resume_says
  says (Advance p) = advance_says p

pub refusals_are_true : RefusalsAreTrue
refusals_are_true t s m c r e = says t s m c r (refusal_of_reply t s m c r e)
