-- For what each call but a pose is refused.
use Rattle.std.proofs.Common.{◌≡◌, ◌≢◌, ◌↔◌, ◌⊎◌, inl, inr, ⊎_elim, ℕ, ◌<◌, Bool, true, false, ◌&&◌, not, nat_eq, nat_lt, List, [], ◌∷◌, Option, Some, None, refl, sym, ap, ◌∙◌, subst, if◌then◌else◌, ltb-true}
use Rattle.std.specs.Bool.{then_some}
use Rattle.std.specs.Cmp.{first_so, second_so}
use Rattle.std.proofs.lemmas.Bool.{eqb-true, lt-ltb, le-ltb, false_from_ne_true}
use Rattle.plan_types.specs.declared.posture.Posture.{Posture}
use Rattle.plan_types.specs.declared.posture.Posture.TheVariants.{Closed, Moving}
use Rattle.plan_types.specs.declared.table.Transfer.{Transfer}
use Rattle.plan_types.specs.declared.call.Call.{Call}
use Rattle.plan_types.specs.declared.call.Call.TheVariants.{Claim, Give, Yield, Take, Release, Inquire, Stop, Resume, Advance}
use Rattle.plan_types.specs.declared.answer.Refusal.{Refusal}
use Rattle.plan_types.specs.declared.answer.Refusal.TheVariants.{NotParty, Held, AlreadyMine, Shut, NotOwner, PlateInZone, NoPlate, PlaceFull, WrongWay, Worn, Stopped, NotStopped}
use Rattle.plan_types.specs.declared.answer.Answer.TheVariants.{Refused}
use Rattle.plan_types.specs.Same.{same_posture, one_posture}
use Rattle.plan_types.specs.Table.{PlanTable, zone_count, guest_of, transfer_of, is_party, watch, is_source, is_sink, has_end}
use Rattle.plan_rules.specs.declared.state.State.{State}
use Rattle.plan_rules.specs.State.{zone_at, owner_of, posture_at, is_full, plates_for, space_has_plate, last_stamp}
use Rattle.plan_rules.specs.Sound.{is_open, is_owned_by}
use Rattle.plan_rules.specs.Refusals as refusals
use Rattle.plan_rules.specs.Refusals.{◌or◌, owns}
use Rattle.plan_rules.specs.Reply.{reply, refusal, answer_by, accepted}
use Rattle.plan_rules.specs.DoneLaws.{IsPartyOf, IsOpen, KeepsEnd, PlateMoves}
use Rattle.plan_rules.specs.SayLaws.{GivesNothing}
use Rattle.plan_rules.specs.RefusedLaws.{HasNoStampLeft, IsHeard, AsksOwn, AsksToTake, IsOwnedElse, BarsClaim, HasPlateToGive, BarsGive, BarsYield, BarsTake, BarsRelease, BarsInquire, BarsStop, BarsResume, IsOwnEnd, BarsAdvance, CallsAreRefusedExactly}
use Rattle.plan_rules.proofs.lemmas.DoneCalls.{none_or, party_of}
use Rattle.plan_rules.proofs.lemmas.Plates.{no_plates}
use Rattle.plan_rules.proofs.lemmas.Puts.{nat_eq-apart, same_or_not}
use Rattle.plan_rules.proofs.lemmas.Zones.{both_true, owner_is}
use Rattle.plan_rules.proofs.DoneExactly.{is_same, is_party_by, owner_by, none_of_both, no_then, no_then_not, party_in_words, open_in_words, is_open_by, guest_by, no_owner_refusal, is_not_moving, opened, end_in_words, end_by, has_room, has_plate}
use Rattle.plan_rules.proofs.Truth.{one_says, is_not, not_both, not_below, shut_in_words}
use Rattle.plan_rules.proofs.Refusing.{refusal_of_reply}

-- ---- from a refusal to what it says

-- a condition says P by its refusal, or leaves K
pub record Sorts (P : Refusal → Type 0) (o : Option Refusal) (K : Type 0) : Type 0 where
  pub says : (r : Refusal) → o ≡ Some r → P r
  pub leaves : o ≡ None → K

pub test : {P : Refusal → Type 0} {K : Type 0} (b : Bool) (q : Refusal) → (b ≡ true → P q) → (b ≡ false → K) → Sorts P (then_some b q) K
test {P} true q bars none = record { says = one_says P true q bars; leaves = λ e. cc }
test {P} false q bars none = record { says = one_says P false q bars; leaves = λ e. none refl }

says_by : {P : Refusal → Type 0} {J K : Type 0} (a b o : Option Refusal) → Sorts P a J → (J → Sorts P b K) → a ≡ o → (r : Refusal) → (o or b) ≡ Some r → P r
says_by a b None first next is r e = (next (first.leaves is)).says r e
says_by a b (Some q) first next is r e = first.says r (is ∙ e)

pub in_turn : {P : Refusal → Type 0} {J K : Type 0} (a b : Option Refusal) → Sorts P a J → (J → Sorts P b K) → Sorts P (a or b) K
in_turn a b first next = record {
  says = says_by a b a first next refl;
  leaves = λ e. let h = none_or a b e in (next (first.leaves h.0)).leaves h.1;
}

same_sorts : {P : Refusal → Type 0} {K : Type 0} (a b : Option Refusal) → a ≡ b → Sorts P b K → Sorts P a K
same_sorts {P} {K} a b e = subst (λ o. Sorts P o K) (sym e)

-- ---- from what bars a call to its refusal

abbrev all_or : Option Refusal → List (Option Refusal) → Option Refusal
all_or a [] = a
all_or a (b ∷ bs) = all_or (a or b) bs

pub told : (a : Option Refusal) (bs : List (Option Refusal)) (r : Refusal) → a ≡ Some r → all_or a bs ≡ Some r
told a [] r e = e
told a (b ∷ bs) r e = told (a or b) bs r (ap (λ x. x or b) e)

pub past : (a b : Option Refusal) (r : Refusal) → a ≡ None → b ≡ Some r → (a or b) ≡ Some r
past a b r e f = ap (λ x. x or b) e ∙ f

yes_then : (b : Bool) (r : Refusal) → b ≡ true → then_some b r ≡ Some r
yes_then b r e = ap (λ x. then_some x r) e

yes_then_not : (b : Bool) (r : Refusal) → b ≡ false → then_some (not b) r ≡ Some r
yes_then_not b r e = ap (λ x. then_some (not x) r) e

-- ---- single conditions

pub no_not : (b : Bool) → not b ≡ false → b ≡ true
no_not true e = refl
no_not false e = cc

not_open : (q : Posture) → (q ≡ Closed) ⊎ (q ≡ Moving) → is_open q ≡ false
not_open q f = ⊎_elim (λ e. ap is_open e) (λ e. ap is_open e) f

module _ (t : PlanTable) (s : State) (m z : ℕ) where
  party : (P : Refusal → Type 0) → (¬ IsPartyOf t m z → P NotParty) → Sorts P (refusals.not_party t m z) (IsPartyOf t m z)
  party P says = record {
    says = one_says P (not (is_party t m z)) NotParty (λ yes. says (λ f. no_party f yes));
    leaves = λ e. party_in_words t m z (party_of t m z e);
  }
    where
      no_party : IsPartyOf t m z → not (is_party t m z) ≡ true → ⊥
      no_party f e = absurd (not_none (sym (is_party_by t m z f) ∙ yes_then (not (is_party t m z)) NotParty e))
        where
          not_none : None ≡ Some NotParty → ⊥
          not_none e = cc

  pub worn : (P : Refusal → Type 0) → (HasNoStampLeft s → P Worn) → Sorts P (refusals.worn s) Unit
  worn P says = test (not (nat_lt s.stamp last_stamp)) Worn (λ yes. says (not_below s.stamp 1048575 (is_not (nat_lt s.stamp last_stamp) yes))) (λ no. tt)

  owner : (P : Refusal → Type 0) → ((o : Option ℕ) → IsOwnedElse s m z o → P (NotOwner o)) → Sorts P (refusals.not_owner s m z) (owner_of s z ≡ Some m)
  owner P says = test (not (owns s m z)) (NotOwner (owner_of s z))
      (λ yes. says (owner_of s z) (refl, λ own. not_both (owns s m z) (owner_by s m z own) (is_not (owns s m z) yes)))
      (λ no. owner_is (owner_of s z) m (no_not (owns s m z) no))

  held_as : (P : Refusal → Type 0) → ((o : ℕ) → owner_of s z ≡ Some o → o ≢ m → P (Held o)) → owns s m z ≡ false → (o : Option ℕ) → owner_of s z ≡ o → Sorts P (refusals.held_by o m) (owner_of s z ≡ None)
  held_as P says other None is = record { says = λ r e. cc; leaves = λ e. is }
  held_as P says other (Some o) is =
      let apart : nat_eq o m ≡ false = sym (ap (λ x. is_owned_by x m) is) ∙ other in
      test (not (nat_eq o m)) (Held o) (λ yes. says o is (λ same. not_both (nat_eq o m) (is_same o m same) apart)) (λ no. absurd (not_both (nat_eq o m) (no_not (nat_eq o m) no) apart))

  heard : (P : Refusal → Type 0) → (IsPartyOf t m z → s.stopped ≡ true → P Stopped) → (¬ IsPartyOf t m z → P NotParty) → Sorts P (refusals.not_party t m z or refusals.while_stopped s) (IsHeard t s m z)
  heard P stopped none = in_turn (refusals.not_party t m z) (refusals.while_stopped s) (party P none) (λ f. test s.stopped Stopped (λ yes. stopped f yes) (λ no. (f, no)))

  -- back
  not_party_by : ¬ IsPartyOf t m z → refusals.not_party t m z ≡ Some NotParty
  not_party_by none = by (is_party t m z) refl
    where
      by : (b : Bool) → is_party t m z ≡ b → refusals.not_party t m z ≡ Some NotParty
      by true e = absurd (none (party_in_words t m z (party_of t m z (no_then_not (is_party t m z) NotParty e))))
      by false e = yes_then_not (is_party t m z) NotParty e

  heard_by : IsHeard t s m z → (refusals.not_party t m z or refusals.while_stopped s) ≡ None
  heard_by f = none_of_both (refusals.not_party t m z) (refusals.while_stopped s) (is_party_by t m z f.0) (no_then s.stopped Stopped f.1)

  pub worn_by : HasNoStampLeft s → refusals.worn s ≡ Some Worn
  worn_by f = yes_then_not (nat_lt s.stamp last_stamp) Worn (le-ltb s.stamp 1048575 f)

  claim : Sorts (BarsClaim t s m z) (refusals.claim_refusal t s m z) Unit
  claim =
      let P : Refusal → Type 0 = BarsClaim t s m z in
      let r1 = refusals.not_party t m z or refusals.while_stopped s in
      let r2 = r1 or refusals.already_mine s m z in
      let r3 = r2 or refusals.held s m z in
      let r4 = r3 or refusals.shut_to_guest t s m z in
      let q = posture_at s z in
      let s1 : Sorts P r1 (IsHeard t s m z) = heard P (λ f e. (f, e)) (λ f. f) in
      let s2 : Sorts P r2 (IsHeard t s m z × (owns s m z ≡ false)) = in_turn r1 (refusals.already_mine s m z) s1 (λ f. test (owns s m z) AlreadyMine (λ yes. (f, owner_is (owner_of s z) m yes)) (λ no. (f, no))) in
      let s3 : Sorts P r3 (IsHeard t s m z × (owner_of s z ≡ None)) = in_turn r2 (refusals.held s m z) s2 (λ f. let h = held_as P (λ o is apart. (f.0, is, apart)) f.1 (owner_of s z) refl in record { says = h.says; leaves = λ e. (f.0, h.leaves e) }) in
      let s4 : Sorts P r4 (IsHeard t s m z × (owner_of s z ≡ None) × (m ≡ guest_of t z → IsOpen s z)) = in_turn r3 (refusals.shut_to_guest t s m z) s3 (λ f. test (nat_eq m (guest_of t z) && not (is_open q)) (Shut q)
      (λ yes. let both = both_true (nat_eq m (guest_of t z)) (not (is_open q)) yes in (f.0, f.1, eqb-true m (guest_of t z) both.0, (refl, shut_in_words q (is_not (is_open q) both.1))))
      (λ no. (f.0, f.1, λ guest. open_in_words q (opened (nat_eq m (guest_of t z)) (is_open q) no (is_same m (guest_of t z) guest))))) in
      in_turn r4 (refusals.worn s) s4 (λ f. worn P (λ last. (f.0, f.1, f.2, last)))

  -- the conditions by short names
  abbrev n0 : Option Refusal
  n0 = refusals.not_party t m z

  abbrev st : Option Refusal
  st = refusals.while_stopped s

  abbrev mi : Option Refusal
  mi = refusals.already_mine s m z

  abbrev he : Option Refusal
  he = refusals.held s m z

  abbrev sg : Option Refusal
  sg = refusals.shut_to_guest t s m z

  abbrev wo : Option Refusal
  wo = refusals.worn s

  unmine_by : (o : Option ℕ) → owner_of s z ≡ o → o ≢ Some m → owns s m z ≡ false
  unmine_by o is apart = by (owns s m z) refl
    where
      by : (b : Bool) → owns s m z ≡ b → owns s m z ≡ false
      by true own = absurd (apart (sym is ∙ owner_is (owner_of s z) m own))
      by false own = own

  unheld_by : owner_of s z ≡ None → he ≡ None
  unheld_by free = ap (λ o. refusals.held_by o m) free

  free_by : IsHeard t s m z → owner_of s z ≡ None → (n0 or st or mi or he) ≡ None
  free_by f free = none_of_both (n0 or st or mi) he (none_of_both (n0 or st) mi (heard_by f) (no_then (owns s m z) AlreadyMine (ap (λ o. is_owned_by o m) free))) (unheld_by free)

  claim_by : (r : Refusal) → BarsClaim t s m z r → refusals.claim_refusal t s m z ≡ Some r
  claim_by NotParty f = told n0 (st ∷ mi ∷ he ∷ sg ∷ wo ∷ []) NotParty (not_party_by f)
  claim_by Stopped f = told (n0 or st) (mi ∷ he ∷ sg ∷ wo ∷ []) Stopped (past n0 st Stopped (is_party_by t m z f.0) (yes_then s.stopped Stopped f.1))
  claim_by AlreadyMine f = told (n0 or st or mi) (he ∷ sg ∷ wo ∷ []) AlreadyMine (past (n0 or st) mi AlreadyMine (heard_by f.0) (yes_then (owns s m z) AlreadyMine (owner_by s m z f.1)))
  claim_by (Held o) f =
      let other : (Some o) ≢ Some m = λ e. f.2 (let same : o ≡ m = cc in same) in
      let no_mine : mi ≡ None = no_then (owns s m z) AlreadyMine (unmine_by (Some o) f.1 other) in
      let held : he ≡ Some (Held o) = ap (λ x. refusals.held_by x m) f.1 ∙ yes_then_not (nat_eq o m) (Held o) (nat_eq-apart o m f.2) in
      told (n0 or st or mi or he) (sg ∷ wo ∷ []) (Held o) (past (n0 or st or mi) he (Held o) (none_of_both (n0 or st) mi (heard_by f.0) no_mine) held)
  claim_by (Shut q) f =
      let q0 = posture_at s z in
      let shut : is_open q0 ≡ false = ap is_open f.3.0 ∙ not_open q f.3.1 in
      let bars : (nat_eq m (guest_of t z) && not (is_open q0)) ≡ true = rw (shut) (rw (is_same m (guest_of t z) f.2) refl) in
      told (n0 or st or mi or he or sg) (wo ∷ []) (Shut q) (past (n0 or st or mi or he) sg (Shut q) (free_by f.0 f.1) (yes_then (nat_eq m (guest_of t z) && not (is_open q0)) (Shut q0) bars ∙ ap (λ x. Some (Shut x)) f.3.0))
  claim_by Worn f =
      past (n0 or st or mi or he or sg) wo Worn (none_of_both (n0 or st or mi or he) sg (free_by f.0 f.1) (no_then (nat_eq m (guest_of t z) && not (is_open (posture_at s z))) (Shut (posture_at s z)) (guest_by t s m z f.2))) (worn_by f.3)
  claim_by _ f = absurd f

  -- ---- gives

  abbrev ow : Option Refusal
  ow = refusals.not_owner s m z

  abbrev pl : Option Refusal
  pl = refusals.plate_in_zone t s z

  abbrev given : Option Transfer
  given = refusals.transfer_given t s m z

  abbrev ww : Option Refusal
  ww = refusals.wrong_way given

  abbrev ng : Option Refusal
  ng = refusals.nothing_to_give s given

  abbrev nr : Option Refusal
  nr = refusals.no_room t s given

  -- the machine gives nothing in the zone, or this way's plate
  abbrev IsGift : Transfer → Type 0
  IsGift way = (transfer_of t z (posture_at s z) ≡ Some way) × (way.giver ≡ m) × (given ≡ Some way)

  given_as : (o : Option Transfer) → transfer_of t z (posture_at s z) ≡ o → (GivesNothing t s m (Give z) × (given ≡ None)) ⊎ ((way : Transfer) × IsGift way)
  given_as None is = inl ((λ way has. absurd (none_some way (sym is ∙ has))), ap (refusals.given_by m) is)
    where
      none_some : (way : Transfer) → None ≡ Some way → ⊥
      none_some way e = cc
  given_as (Some w) is = elim (same_or_not w.giver m) [
    | inl e ↦ inr (w, (is, e, ap (refusals.given_by m) is ∙ ap (λ b. if b then Some w else None) (is_same w.giver m e)))
    | inr ne ↦ inl ((λ way has giver. ne (ap (λ (x : Transfer). x.giver) (some_one w way (sym is ∙ has)) ∙ giver)), ap (refusals.given_by m) is ∙ ap (λ b. if b then Some w else None) (nat_eq-apart w.giver m ne))
  ]
    where
      some_one : (x y : Transfer) → Some x ≡ Some y → x ≡ y
      some_one x y e = cc

  the_gift : (way : Transfer) → transfer_of t z (posture_at s z) ≡ Some way → way.giver ≡ m → given ≡ Some way
  the_gift way is giver = ap (refusals.given_by m) is ∙ ap (λ b. if b then Some way else None) (is_same way.giver m giver)

  ways : (P : Refusal → Type 0) → (GivesNothing t s m (Give z) → P WrongWay) → Sorts P ww ((way : Transfer) × IsGift way)
  ways P says = elim (given_as (transfer_of t z (posture_at s z)) refl) [
    | inl n ↦ same_sorts ww (then_some true WrongWay) (ap refusals.wrong_way n.1) (test true WrongWay (λ yes. says n.0) (λ no. absurd (let e = no in cc)))
    | inr w ↦ same_sorts ww (then_some false WrongWay) (ap refusals.wrong_way w.1.2) (test false WrongWay (λ yes. absurd (let e = yes in cc)) (λ no. w))
  ]

  abbrev Own : Bool → Type 0
  Own plate = AsksOwn t s m z plate

  give : Sorts (BarsGive t s m z) (refusals.give_refusal t s m z) Unit
  give =
      let P : Refusal → Type 0 = BarsGive t s m z in
      let F : Type 0 = Own false × (s.stopped ≡ false) in
      let s1 : Sorts P (n0 or st) (IsHeard t s m z) = heard P (λ f e. (f, e)) (λ f. f) in
      let s2 : Sorts P (n0 or st or ow) (IsHeard t s m z × (owner_of s z ≡ Some m)) = in_turn (n0 or st) ow s1 (λ f. let h = owner P (λ o apart. (f, apart)) in record { says = h.says; leaves = λ e. (f, h.leaves e) }) in
      let s3 : Sorts P (n0 or st or ow or pl) F = in_turn (n0 or st or ow) pl s2 (λ f. test (space_has_plate t s z) (PlateInZone z) (λ yes. (refl, (f.0.0, f.1, yes), f.0.1)) (λ none. ((f.0.0, f.1, none), f.0.1))) in
      let s4 : Sorts P (n0 or st or ow or pl or ww) (F × (way : Transfer) × IsGift way) = in_turn (n0 or st or ow or pl) ww s3 (λ f. let h = ways P (λ nothing. (f.0, f.1, nothing)) in record { says = h.says; leaves = λ e. let w = h.leaves e in (f, w.0, w.1) }) in
      let s5 : Sorts P (n0 or st or ow or pl or ww or ng) (F × (way : Transfer) × IsGift way × (is_full s way.from ≡ true)) = in_turn (n0 or st or ow or pl or ww) ng s4 (λ f.
      let way = f.1 in
      same_sorts ng (then_some (not (is_full s way.from)) NoPlate) (ap (refusals.nothing_to_give s) f.2.2)
      (test (not (is_full s way.from)) NoPlate (λ yes. (f.0.0, f.0.1, (way, f.2.0, f.2.1, is_not (is_full s way.from) yes))) (λ none. (f.0, way, f.2, no_not (is_full s way.from) none)))) in
      let s6 : Sorts P (n0 or st or ow or pl or ww or ng or nr) (F × HasPlateToGive t s m z (λ plates. plates ≡ 0)) = in_turn (n0 or st or ow or pl or ww or ng) nr s5 (λ f.
      let way = f.1 in
      same_sorts nr (then_some (refusals.is_taken t s way.to) PlaceFull) (ap (refusals.no_room t s) f.2.2)
      (test (refusals.is_taken t s way.to) PlaceFull (λ yes. (f.0.0, f.0.1, (way, f.2.0, f.2.1, (f.3, ltb-true 0 (plates_for t s way.to) yes)))) (λ none. (f.0, (way, f.2.0, f.2.1, (f.3, no_plates (plates_for t s way.to) none)))))) in
      in_turn (n0 or st or ow or pl or ww or ng or nr) wo s6 (λ f. worn P (λ last. (f.0.0, f.0.1, f.1, last)))

  run_by : Own false → s.stopped ≡ false → (n0 or st or ow or pl) ≡ None
  run_by f runs = none_of_both (n0 or st or ow) pl (none_of_both (n0 or st) ow (heard_by (f.0, runs)) (no_owner_refusal s m z f.1)) (no_then (space_has_plate t s z) (PlateInZone z) f.2)

  not_owner_by : (o : Option ℕ) → IsOwnedElse s m z o → ow ≡ Some (NotOwner o)
  not_owner_by o f = yes_then_not (owns s m z) (NotOwner (owner_of s z)) (unmine_by o f.0 f.1) ∙ ap (λ x. Some (NotOwner x)) f.0

  plate_by : (y : ℕ) → y ≡ z → space_has_plate t s z ≡ true → pl ≡ Some (PlateInZone y)
  plate_by y same flag = yes_then (space_has_plate t s z) (PlateInZone z) flag ∙ ap (λ x. Some (PlateInZone x)) (sym same)

  nothing_by : GivesNothing t s m (Give z) → ww ≡ Some WrongWay
  nothing_by f = elim (given_as (transfer_of t z (posture_at s z)) refl) [
    | inl n ↦ ap refusals.wrong_way n.1
    | inr w ↦ absurd (f w.0 w.1.0 w.1.1)
  ]

  give_by : (r : Refusal) → BarsGive t s m z r → refusals.give_refusal t s m z ≡ Some r
  give_by NotParty f = told n0 (st ∷ ow ∷ pl ∷ ww ∷ ng ∷ nr ∷ wo ∷ []) NotParty (not_party_by f)
  give_by Stopped f = told (n0 or st) (ow ∷ pl ∷ ww ∷ ng ∷ nr ∷ wo ∷ []) Stopped (past n0 st Stopped (is_party_by t m z f.0) (yes_then s.stopped Stopped f.1))
  give_by (NotOwner o) f = told (n0 or st or ow) (pl ∷ ww ∷ ng ∷ nr ∷ wo ∷ []) (NotOwner o) (past (n0 or st) ow (NotOwner o) (heard_by f.0) (not_owner_by o f.1))
  give_by (PlateInZone y) f = told (n0 or st or ow or pl) (ww ∷ ng ∷ nr ∷ wo ∷ []) (PlateInZone y) (past (n0 or st or ow) pl (PlateInZone y) (none_of_both (n0 or st) ow (heard_by (f.1.0, f.2)) (no_owner_refusal s m z f.1.1)) (plate_by y f.0 f.1.2))
  give_by WrongWay f = told (n0 or st or ow or pl or ww) (ng ∷ nr ∷ wo ∷ []) WrongWay (past (n0 or st or ow or pl) ww WrongWay (run_by f.0 f.1) (nothing_by f.2))
  give_by NoPlate f =
      let way = f.2.0 in
      let is : given ≡ Some way = the_gift way f.2.1 f.2.2 in
      told (n0 or st or ow or pl or ww or ng) (nr ∷ wo ∷ []) NoPlate (past (n0 or st or ow or pl or ww) ng NoPlate
      (none_of_both (n0 or st or ow or pl) ww (run_by f.0 f.1) (ap refusals.wrong_way is)) (ap (refusals.nothing_to_give s) is ∙ yes_then_not (is_full s way.from) NoPlate f.2.3))
  give_by PlaceFull f =
      let way = f.2.0 in
      let is : given ≡ Some way = the_gift way f.2.1 f.2.2 in
      told (n0 or st or ow or pl or ww or ng or nr) (wo ∷ []) PlaceFull (past (n0 or st or ow or pl or ww or ng) nr PlaceFull
      (none_of_both (n0 or st or ow or pl or ww) ng (none_of_both (n0 or st or ow or pl) ww (run_by f.0 f.1) (ap refusals.wrong_way is)) (ap (refusals.nothing_to_give s) is ∙ no_then_not (is_full s way.from) NoPlate f.2.3.0))
      (ap (refusals.no_room t s) is ∙ yes_then (refusals.is_taken t s way.to) PlaceFull (lt-ltb 0 (plates_for t s way.to) f.2.3.1)))
  give_by Worn f =
      let way = f.2.0 in
      let is : given ≡ Some way = the_gift way f.2.1 f.2.2 in
      past (n0 or st or ow or pl or ww or ng or nr) wo Worn
      (none_of_both (n0 or st or ow or pl or ww or ng) nr
      (none_of_both (n0 or st or ow or pl or ww) ng (none_of_both (n0 or st or ow or pl) ww (run_by f.0 f.1) (ap refusals.wrong_way is)) (ap (refusals.nothing_to_give s) is ∙ no_then_not (is_full s way.from) NoPlate f.2.3.0))
      (ap (refusals.no_room t s) is ∙ no_then (refusals.is_taken t s way.to) PlaceFull (ap (nat_lt 0) f.2.3.1)))
      (worn_by f.3)
  give_by _ f = absurd f

  -- ---- the holder's other calls

  abbrev sh : Option Refusal
  sh = refusals.shut s z

  abbrev np : Option Refusal
  np = refusals.no_plate_in_zone s z

  abbrev mo : Option Refusal
  mo = refusals.shut_while_moving s z

  owned : (P : Refusal → Type 0) → (¬ IsPartyOf t m z → P NotParty) → ((o : Option ℕ) → IsPartyOf t m z → IsOwnedElse s m z o → P (NotOwner o)) → Sorts P (n0 or ow) (IsPartyOf t m z × (owner_of s z ≡ Some m))
  owned P none other = in_turn n0 ow (party P none) (λ f. let h = owner P (λ o apart. other o f apart) in record { says = h.says; leaves = λ e. (f, h.leaves e) })

  cleared : (P : Refusal → Type 0) → (¬ IsPartyOf t m z → P NotParty) → ((o : Option ℕ) → IsPartyOf t m z → IsOwnedElse s m z o → P (NotOwner o)) → (Own true → P (PlateInZone z)) → Sorts P (n0 or ow or pl) (Own false)
  cleared P none other full = in_turn (n0 or ow) pl (owned P none other) (λ f. test (space_has_plate t s z) (PlateInZone z) (λ yes. full (f.0, f.1, yes)) (λ none. (f.0, f.1, none)))

  owned_by : IsPartyOf t m z → owner_of s z ≡ Some m → (n0 or ow) ≡ None
  owned_by f own = none_of_both n0 ow (is_party_by t m z f) (no_owner_refusal s m z own)

  cleared_by : Own false → (n0 or ow or pl) ≡ None
  cleared_by f = none_of_both (n0 or ow) pl (owned_by f.0 f.1) (no_then (space_has_plate t s z) (PlateInZone z) f.2)

  yield : Sorts (BarsYield t s m z) (refusals.yield_refusal t s m z) Unit
  yield =
      let P : Refusal → Type 0 = BarsYield t s m z in
      let q = posture_at s z in
      let s2 : Sorts P (n0 or ow or pl) (Own false) = cleared P (λ f. f) (λ o f apart. (f, apart)) (λ f. (refl, f)) in
      let s3 : Sorts P (n0 or ow or pl or sh) (Own false × IsOpen s z) = in_turn (n0 or ow or pl) sh s2 (λ f. test (not (is_open q)) (Shut q) (λ yes. (f, (refl, shut_in_words q (is_not (is_open q) yes)))) (λ opens. (f, open_in_words q (no_not (is_open q) opens)))) in
      in_turn (n0 or ow or pl or sh) wo s3 (λ f. worn P (λ last. (f.0, f.1, last)))

  yield_by : (r : Refusal) → BarsYield t s m z r → refusals.yield_refusal t s m z ≡ Some r
  yield_by NotParty f = told n0 (ow ∷ pl ∷ sh ∷ wo ∷ []) NotParty (not_party_by f)
  yield_by (NotOwner o) f = told (n0 or ow) (pl ∷ sh ∷ wo ∷ []) (NotOwner o) (past n0 ow (NotOwner o) (is_party_by t m z f.0) (not_owner_by o f.1))
  yield_by (PlateInZone y) f = told (n0 or ow or pl) (sh ∷ wo ∷ []) (PlateInZone y) (past (n0 or ow) pl (PlateInZone y) (owned_by f.1.0 f.1.1) (plate_by y f.0 f.1.2))
  yield_by (Shut q) f =
      let q0 = posture_at s z in
      let closed : is_open q0 ≡ false = ap is_open f.1.0 ∙ not_open q f.1.1 in
      told (n0 or ow or pl or sh) (wo ∷ []) (Shut q) (past (n0 or ow or pl) sh (Shut q) (cleared_by f.0) (yes_then_not (is_open q0) (Shut q0) closed ∙ ap (λ x. Some (Shut x)) f.1.0))
  yield_by Worn f = past (n0 or ow or pl or sh) wo Worn (none_of_both (n0 or ow or pl) sh (cleared_by f.0) (no_then_not (is_open (posture_at s z)) (Shut (posture_at s z)) (is_open_by (posture_at s z) f.1))) (worn_by f.2)
  yield_by _ f = absurd f

  take : Sorts (BarsTake t s m z) (refusals.take_refusal t s m z) Unit
  take =
      let P : Refusal → Type 0 = BarsTake t s m z in
      let s1 : Sorts P (n0 or ow) (IsPartyOf t m z × (owner_of s z ≡ Some m)) = owned P (λ f. f) (λ o f apart. (f, apart)) in
      let s2 : Sorts P (n0 or ow or np) (AsksToTake t s m z true) = in_turn (n0 or ow) np s1 (λ f. test (not (zone_at s z).flag) NoPlate (λ yes. (f.0, f.1, is_not (zone_at s z).flag yes)) (λ full. (f.0, f.1, no_not (zone_at s z).flag full))) in
      in_turn (n0 or ow or np) wo s2 (λ f. worn P (λ last. (f, last)))

  take_by : (r : Refusal) → BarsTake t s m z r → refusals.take_refusal t s m z ≡ Some r
  take_by NotParty f = told n0 (ow ∷ np ∷ wo ∷ []) NotParty (not_party_by f)
  take_by (NotOwner o) f = told (n0 or ow) (np ∷ wo ∷ []) (NotOwner o) (past n0 ow (NotOwner o) (is_party_by t m z f.0) (not_owner_by o f.1))
  take_by NoPlate f = told (n0 or ow or np) (wo ∷ []) NoPlate (past (n0 or ow) np NoPlate (owned_by f.0 f.1) (yes_then_not (zone_at s z).flag NoPlate f.2))
  take_by Worn f = past (n0 or ow or np) wo Worn (none_of_both (n0 or ow) np (owned_by f.0.0 f.0.1) (no_then_not (zone_at s z).flag NoPlate f.0.2)) (worn_by f.1)
  take_by _ f = absurd f

  release : Sorts (BarsRelease t s m z) (refusals.release_refusal t s m z) Unit
  release =
      let P : Refusal → Type 0 = BarsRelease t s m z in
      let q = posture_at s z in
      let s2 : Sorts P (n0 or ow or pl) (Own false) = cleared P (λ f. f) (λ o f apart. (f, apart)) (λ f. (refl, f)) in
      let s3 : Sorts P (n0 or ow or pl or mo) (Own false × (q ≢ Moving)) = in_turn (n0 or ow or pl) mo s2 (λ f. test (same_posture q Moving) (Shut Moving) (λ yes. (f, one_posture q Moving yes, refl)) (λ stands. (f, λ moves. not_both (same_posture q Moving) (ap (λ x. same_posture x Moving) moves) stands))) in
      in_turn (n0 or ow or pl or mo) wo s3 (λ f. worn P (λ last. (f.0, f.1, last)))

  release_by : (r : Refusal) → BarsRelease t s m z r → refusals.release_refusal t s m z ≡ Some r
  release_by NotParty f = told n0 (ow ∷ pl ∷ mo ∷ wo ∷ []) NotParty (not_party_by f)
  release_by (NotOwner o) f = told (n0 or ow) (pl ∷ mo ∷ wo ∷ []) (NotOwner o) (past n0 ow (NotOwner o) (is_party_by t m z f.0) (not_owner_by o f.1))
  release_by (PlateInZone y) f = told (n0 or ow or pl) (mo ∷ wo ∷ []) (PlateInZone y) (past (n0 or ow) pl (PlateInZone y) (owned_by f.1.0 f.1.1) (plate_by y f.0 f.1.2))
  release_by (Shut q) f =
      let moves : posture_at s z ≡ Moving = f.1 ∙ f.2 in
      told (n0 or ow or pl or mo) (wo ∷ []) (Shut q) (past (n0 or ow or pl) mo (Shut q) (cleared_by f.0) (yes_then (same_posture (posture_at s z) Moving) (Shut Moving) (ap (λ x. same_posture x Moving) moves) ∙ ap (λ x. Some (Shut x)) (sym f.2)))
  release_by Worn f = past (n0 or ow or pl or mo) wo Worn (none_of_both (n0 or ow or pl) mo (cleared_by f.0) (no_then (same_posture (posture_at s z) Moving) (Shut Moving) (is_not_moving (posture_at s z) f.1))) (worn_by f.2)
  release_by _ f = absurd f

  -- ---- inquiries, and the calls of the watch

  inquire : Sorts (BarsInquire t z) (refusals.inquire_refusal t z) Unit
  inquire = test (not (nat_lt z (zone_count t))) NotParty (λ yes. not_below z (zone_count t) (is_not (nat_lt z (zone_count t)) yes)) (λ there. tt)

  inquire_by : (r : Refusal) → BarsInquire t z r → refusals.inquire_refusal t z ≡ Some r
  inquire_by NotParty f = yes_then_not (nat_lt z (zone_count t)) NotParty (le-ltb z (zone_count t) f)
  inquire_by _ f = absurd f

  -- ---- advances

  abbrev ne : Option Refusal
  ne = refusals.not_own_end t m z

  abbrev sf : Option Refusal
  sf = refusals.source_taken t s z

  abbrev se : Option Refusal
  se = refusals.sink_empty t s z

  abbrev no_room : Bool
  no_room = is_source t z && (refusals.is_taken t s z && not (refusals.can_go t s z))

  abbrev lacks_plate : Bool
  lacks_plate = not (is_source t z) && not (is_full s z)

  moves_on : (source taken sink full : Bool) → ((source ≡ true) ⊎ (sink ≡ true)) → (source && (taken && not (sink && full))) ≡ false → (not source && not full) ≡ false
      → ((source ≡ true) × (taken ≡ false)) ⊎ ((sink ≡ true) × (full ≡ true))
  moves_on true false sink full o e f = inl (refl, refl)
  moves_on true true true true o e f = inr (refl, refl)
  moves_on true true false full o e f = cc
  moves_on true true true false o e f = cc
  moves_on false taken true true o e f = inr (refl, refl)
  moves_on false taken sink false o e f = cc
  moves_on false taken false true (inl h) e f = cc
  moves_on false taken false true (inr h) e f = cc

  plate_moves : KeepsEnd t m z → no_room ≡ false → lacks_plate ≡ false → PlateMoves t s z
  plate_moves f e g =
      ⊎_elim (λ h. inl (h.0, no_plates (plates_for t s z) h.1)) (λ k. inr k)
      (moves_on (is_source t z) (refusals.is_taken t s z) (is_sink t z) (is_full s z) f.2 e g)

  full_in_words : no_room ≡ true → (is_source t z ≡ true) × (0 < plates_for t s z) × ¬ ((is_sink t z ≡ true) × (is_full s z ≡ true))
  full_in_words e =
      let taken = refusals.is_taken t s z in
      let goes = refusals.can_go t s z in
      let rest = second_so (is_source t z) (taken && not goes) e in
      (first_so (is_source t z) (taken && not goes) e, ltb-true 0 (plates_for t s z) (first_so taken (not goes) rest), λ both. not_both goes (rw (both.0, both.1) refl) (is_not goes (second_so taken (not goes) rest)))

  ends : (P : Refusal → Type 0) → (¬ KeepsEnd t m z → P NotParty) → Sorts P ne (KeepsEnd t m z)
  ends P says = test (not (has_end t m z)) NotParty (λ yes. says (λ keeps. not_both (has_end t m z) (end_by t m z keeps) (is_not (has_end t m z) yes))) (λ own. end_in_words t m z (no_not (has_end t m z) own))

  advance : Sorts (BarsAdvance t s m z) (refusals.advance_refusal t s m z) Unit
  advance =
      let P : Refusal → Type 0 = BarsAdvance t s m z in
      let s1 : Sorts P (ne or st) (IsOwnEnd t s m z) = in_turn ne st (ends P (λ f. f)) (λ f. test s.stopped Stopped (λ yes. (f, yes)) (λ runs. (f, runs))) in
      let s2 : Sorts P (ne or st or sf) (IsOwnEnd t s m z × (no_room ≡ false)) = in_turn (ne or st) sf s1 (λ f. test no_room PlaceFull (λ yes. let w = full_in_words yes in (f, w.0, w.1, w.2)) (λ no. (f, no))) in
      let s3 : Sorts P (ne or st or sf or se) (IsOwnEnd t s m z × PlateMoves t s z) = in_turn (ne or st or sf) se s2 (λ f. test lacks_plate NoPlate (λ yes. (f.0, is_not (is_source t z) (first_so (not (is_source t z)) (not (is_full s z)) yes), is_not (is_full s z) (second_so (not (is_source t z)) (not (is_full s z)) yes))) (λ no. (f.0, plate_moves f.0.0 f.1 no))) in
      in_turn (ne or st or sf or se) wo s3 (λ f. worn P (λ last. (f.0, f.1, last)))

  own_end_by : IsOwnEnd t s m z → (ne or st) ≡ None
  own_end_by f = none_of_both ne st (no_then_not (has_end t m z) NotParty (end_by t m z f.0)) (no_then s.stopped Stopped f.1)

  cannot_go : (a b : Bool) → ¬ ((a ≡ true) × (b ≡ true)) → (a && b) ≡ false
  cannot_go true true f = absurd (f (refl, refl))
  cannot_go true false f = refl
  cannot_go false b f = refl

  advance_by : (r : Refusal) → BarsAdvance t s m z r → refusals.advance_refusal t s m z ≡ Some r
  advance_by NotParty f = told ne (st ∷ sf ∷ se ∷ wo ∷ []) NotParty (yes_then_not (has_end t m z) NotParty (false_from_ne_true (has_end t m z) (λ own. f (end_in_words t m z own))))
  advance_by Stopped f = told (ne or st) (sf ∷ se ∷ wo ∷ []) Stopped (past ne st Stopped (no_then_not (has_end t m z) NotParty (end_by t m z f.0)) (yes_then s.stopped Stopped f.1))
  advance_by PlaceFull f =
      let is : no_room ≡ true = rw (f.1, lt-ltb 0 (plates_for t s z) f.2, cannot_go (is_sink t z) (is_full s z) f.3) refl in
      told (ne or st or sf) (se ∷ wo ∷ []) PlaceFull (past (ne or st) sf PlaceFull (own_end_by f.0) (yes_then no_room PlaceFull is))
  advance_by NoPlate f =
      let room : no_room ≡ false = rw f.1 refl in
      let is : lacks_plate ≡ true = rw (f.1, f.2) refl in
      told (ne or st or sf or se) (wo ∷ []) NoPlate (past (ne or st or sf) se NoPlate (none_of_both (ne or st) sf (own_end_by f.0) (no_then no_room PlaceFull room)) (yes_then lacks_plate NoPlate is))
  advance_by Worn f =
      past (ne or st or sf or se) wo Worn
      (none_of_both (ne or st or sf) se (none_of_both (ne or st) sf (own_end_by f.0) (no_then no_room PlaceFull (has_room t s z f.1))) (no_then lacks_plate NoPlate (has_plate t s z f.1)))
      (worn_by f.2)
  advance_by _ f = absurd f

  abbrev nw : Option Refusal
  nw = refusals.not_watch m

  watched : (P : Refusal → Type 0) → (m ≢ 30 → P NotParty) → Sorts P nw (m ≡ 30)
  watched P says = test (not (nat_eq m watch)) NotParty (λ yes. says (λ same. not_both (nat_eq m watch) (is_same m watch same) (is_not (nat_eq m watch) yes))) (λ is. eqb-true m 30 (no_not (nat_eq m watch) is))

  unwatched_by : m ≢ 30 → nw ≡ Some NotParty
  unwatched_by f = yes_then_not (nat_eq m watch) NotParty (nat_eq-apart m 30 f)

  watched_by : m ≡ 30 → nw ≡ None
  watched_by f = no_then_not (nat_eq m watch) NotParty (is_same m 30 f)

  stop : Sorts (BarsStop s m) (refusals.stop_refusal s m) Unit
  stop =
      let P : Refusal → Type 0 = BarsStop s m in
      let s1 : Sorts P (nw or st) ((m ≡ 30) × (s.stopped ≡ false)) = in_turn nw st (watched P (λ f. f)) (λ f. test s.stopped Stopped (λ yes. (f, yes)) (λ runs. (f, runs))) in
      in_turn (nw or st) wo s1 (λ f. worn P (λ last. (f.0, f.1, last)))

  stop_by : (r : Refusal) → BarsStop s m r → refusals.stop_refusal s m ≡ Some r
  stop_by NotParty f = told nw (st ∷ wo ∷ []) NotParty (unwatched_by f)
  stop_by Stopped f = told (nw or st) (wo ∷ []) Stopped (past nw st Stopped (watched_by f.0) (yes_then s.stopped Stopped f.1))
  stop_by Worn f = past (nw or st) wo Worn (none_of_both nw st (watched_by f.0) (no_then s.stopped Stopped f.1)) (worn_by f.2)
  stop_by _ f = absurd f

  abbrev ns : Option Refusal
  ns = refusals.not_stopped s

  resume : Sorts (BarsResume s m) (refusals.resume_refusal s m) Unit
  resume =
      let P : Refusal → Type 0 = BarsResume s m in
      let s1 : Sorts P (nw or ns) ((m ≡ 30) × (s.stopped ≡ true)) = in_turn nw ns (watched P (λ f. f)) (λ f. test (not s.stopped) NotStopped (λ yes. (f, is_not s.stopped yes)) (λ stopped. (f, no_not s.stopped stopped))) in
      in_turn (nw or ns) wo s1 (λ f. worn P (λ last. (f.0, f.1, last)))

  resume_by : (r : Refusal) → BarsResume s m r → refusals.resume_refusal s m ≡ Some r
  resume_by NotParty f = told nw (ns ∷ wo ∷ []) NotParty (unwatched_by f)
  resume_by NotStopped f = told (nw or ns) (wo ∷ []) NotStopped (past nw ns NotStopped (watched_by f.0) (yes_then_not s.stopped NotStopped f.1))
  resume_by Worn f = past (nw or ns) wo Worn (none_of_both nw ns (watched_by f.0) (no_then_not s.stopped NotStopped f.1)) (worn_by f.2)
  resume_by _ f = absurd f

pub calls_are_refused_exactly : CallsAreRefusedExactly
calls_are_refused_exactly t s m z r = record {
  claim = both (Claim z) (BarsClaim t s m z) (claim t s m z).says (claim_by t s m z);
  give = both (Give z) (BarsGive t s m z) (give t s m z).says (give_by t s m z);
  yield = both (Yield z) (BarsYield t s m z) (yield t s m z).says (yield_by t s m z);
  take = both (Take z) (BarsTake t s m z) (take t s m z).says (take_by t s m z);
  release = both (Release z) (BarsRelease t s m z) (release t s m z).says (release_by t s m z);
  inquire = both (Inquire z) (BarsInquire t z) (inquire t s m z).says (inquire_by t s m z);
  stop = both Stop (BarsStop s m) (stop t s m z).says (stop_by t s m z);
  resume = both Resume (BarsResume s m) (resume t s m z).says (resume_by t s m z);
  advance = both (Advance z) (BarsAdvance t s m z) (advance t s m z).says (advance_by t s m z);
}
  where
    both : (c : Call) (P : Refusal → Type 0) → ((r : Refusal) → refusal t s m c ≡ Some r → P r) → ((r : Refusal) → P r → refusal t s m c ≡ Some r) → (reply t s m c ≡ Refused r) ↔ P r
    both c P says by = ((λ e. says r (refusal_of_reply t s m c r e)), λ f. ap (λ o. answer_by o (accepted s c)) (by r f))
