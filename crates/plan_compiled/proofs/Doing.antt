-- If a call is done, each zone, each place and the stop are as it needs them.
use Rattle.std.proofs.Common.{◌≡◌, ◌≢◌, ℕ, zero, suc, ◌<◌, ◌⊎◌, inl, inr, Bool, true, false, ◌&&◌, ◌||◌, not, nat_eq, nat_lt, Option, Some, None, is_none, is_some, unwrap_or, if◌then◌else◌, refl, sym, ap, ◌∙◌, subst, arith}
use Rattle.std.specs.Option.{option_eq}
use Rattle.std.proofs.lemmas.Bool.{eqb-true, lt-ltb, and_parts}
use Rattle.plan_types.specs.declared.posture.Posture.{Posture}
use Rattle.plan_types.specs.declared.posture.Posture.TheVariants.{Closed, Moving, OpenIn, OpenOut}
use Rattle.plan_types.specs.declared.table.Way.{Way}
use Rattle.plan_types.specs.declared.table.Transfer.{Transfer}
use Rattle.plan_types.specs.declared.call.Call.{Call}
use Rattle.plan_types.specs.declared.call.Call.TheVariants.{Claim, Give, Yield, Take, Release, SetPose, Inquire, Stop, Resume, Advance}
use Rattle.plan_types.specs.declared.answer.Answer.TheVariants.{Done}
use Rattle.plan_types.specs.Same.{same_posture}
use Rattle.plan_types.specs.Below.{any_below}
use Rattle.plan_types.specs.Table.{PlanTable, zone_count, pose_count, machine_of, host_of, guest_of, zone_row, pose_row, posture_of, transfer_of, transfer_by, watch, place_count, keeper_of, is_source, is_sink}
use Rattle.plan_types.specs.Plan.{IsPlan}
use Rattle.plan_rules.specs.declared.state.ZoneState.{ZoneState}
use Rattle.plan_rules.specs.declared.state.State.{State}
use Rattle.plan_rules.specs.State.{zone_at, posture_at, is_full, one_if, leads_to, is_coming, plates_for, space_has_plate}
use Rattle.plan_rules.specs.Sound.{IsSound, implies}
use Rattle.plan_rules.specs.Refusals as refusals
use Rattle.plan_rules.specs.Refusals.{given_by, transfer_given}
use Rattle.plan_rules.specs.Reply.{reply}
use Rattle.plan_rules.proofs.lemmas.Below.{any_below_none, sum_below_at_least}
use Rattle.plan_rules.proofs.lemmas.DoneCalls.{none_then, claim_done, give_done, yield_done, take_done, release_done, pose_done, advance_done, stop_done, resume_done, Poses, Advances}
use Rattle.plan_rules.proofs.lemmas.Advancing.{comes, goes}
use Rattle.plan_rules.proofs.lemmas.Plates.{no_plates}
use Rattle.plan_rules.proofs.lemmas.Puts.{nat_eq-self, nat_eq-apart}
use Rattle.plan_rules.proofs.lemmas.Soundness.{done_none, plate_comes, never_done}
use Rattle.plan_rules.proofs.lemmas.Spaces.{clear_zone}
use Rattle.plan_rules.proofs.lemmas.Zones.{implies_any, implies_from, some_is}
use Rattle.plan_compiled.specs.Needs as needs
use Rattle.plan_compiled.specs.Needs.{Fits}
use Rattle.plan_compiled.specs.Complete.{opens, OpensOne, OpensOneAtMost}

-- ---- truth values
both : (a b : Bool) → a ≡ true → b ≡ true → (a && b) ≡ true
both a b e f = rw (e, f) refl

implies_when : (a b : Bool) → (a ≡ true → b ≡ true) → implies a b ≡ true
implies_when true b k = k refl
implies_when false b k = refl

not_if : (b : Bool) → (b ≡ true → ⊥) → not b ≡ true
not_if true k = absurd (k refl)
not_if false k = refl

not_both : true ≡ false → ⊥
not_both e = cc

unset : (b : Bool) → one_if b ≡ 0 → b ≡ false
unset true e = cc
unset false e = refl

-- ---- the parts of a zone
at_own : (s : State) (y z : ℕ) (test : ZoneState → Bool) → test (zone_at s z) ≡ true → implies (nat_eq y z) (test (zone_at s y)) ≡ true
at_own s y z test h = implies_when (nat_eq y z) (test (zone_at s y)) (λ e. subst (λ x. test (zone_at s x) ≡ true) (sym (eqb-true y z e)) h)

-- no plate of a zone comes to a place that has to be empty
no_end : (t : PlanTable) (m : ℕ) (c : Call) (room f : Bool) (o : Option Transfer) → ((q : ℕ) → needs.needs_room t m c room q ≡ true → (f && leads_to o q) ≡ false)
    → not (f && needs.ends_in_need t m c room o) ≡ true
no_end t m c room false o k = refl
no_end t m c room true None k = refl
no_end t m c room true (Some way) k = not_if (needs.needs_room t m c room way.to) (λ e. not_both (sym (nat_eq-self way.to) ∙ k way.to e))

never_needed : (t : PlanTable) (m : ℕ) (c : Call) (room : Bool) → ((q : ℕ) → needs.needs_room t m c room q ≡ false) → (q : ℕ) (b : Bool) → needs.needs_room t m c room q ≡ true → b ≡ false
never_needed t m c room none q b e = absurd (not_both (sym e ∙ none q))

quiet_zone : (t : PlanTable) (m : ℕ) (c : Call) (room : Bool) (s : State) (y : ℕ) → ((q : ℕ) → needs.needs_room t m c room q ≡ false) → needs.own_zone_fits t m c room y (zone_at s y) ≡ true
    → needs.zone_fits t m c room y (zone_at s y) ≡ true
quiet_zone t m c room s y none own =
    both _ _ own (no_end t m c room (zone_at s y).flag (transfer_of t y (posture_at s y)) (λ q e. never_needed t m c room none q _ e))

-- ---- a place with no plate, and none on its way
record Empty (t : PlanTable) (s : State) (q : ℕ) : Type 0 where
  none : is_full s q ≡ false
  coming : (y : ℕ) → y < zone_count t → is_coming t (zone_at s y) q y ≡ false

empty : (t : PlanTable) (s : State) (q : ℕ) → refusals.is_taken t s q ≡ false → Empty t s q
empty t s q e =
    let no = no_plates (plates_for t s q) e in
    record {
      none = unset (is_full s q) (omega (arith, no));
      coming = λ y l.
          let least = sum_below_at_least (λ z. one_if (is_coming t (zone_at s z) q z)) y (zone_count t) l in
          unset (is_coming t (zone_at s y) q y) (omega (arith, no, least));
    }

-- ---- the calls about a zone
claim_fits : (t : PlanTable) (s : State) (m z : ℕ) (room : Bool) → refusals.claim_refusal t s m z ≡ None → Fits t m (Claim z) room s
claim_fits t s m z room e =
    let d = claim_done t s m z e in
    let can : needs.can_claim t m z (zone_at s z) ≡ true = both _ _ (ap is_none d.free) (implies_from _ _ d.opens) in
    record {
      may = d.caller.is;
      zones = λ y l. quiet_zone t m (Claim z) room s y (λ q. refl) (at_own s y z (needs.can_claim t m z) can);
      places = λ q l. refl;
      stop = ap not d.goes_on;
      fresh = d.fresh;
    }

holds : (s : State) (m z : ℕ) → refusals.owns s m z ≡ true → (zone_at s z).flag ≡ false → needs.holds_clear m (zone_at s z) ≡ true
holds s m z own clear = both _ _ own (ap not clear)

yield_fits : (t : PlanTable) (s : State) (m z : ℕ) (room : Bool) → refusals.yield_refusal t s m z ≡ None → Fits t m (Yield z) room s
yield_fits t s m z room e =
    let d = yield_done t s m z e in
    let can : needs.can_yield m (zone_at s z) ≡ true = both _ _ (holds s m z d.holder.owns (clear_zone t s z d.clear z d.holder.caller.there refl)) d.opens in
    record {
      may = d.holder.caller.is;
      zones = λ y l. quiet_zone t m (Yield z) room s y (λ q. refl) (at_own s y z (needs.can_yield m) can);
      places = λ q l. refl;
      stop = refl;
      fresh = d.holder.fresh;
    }

release_fits : (t : PlanTable) (s : State) (m z : ℕ) (room : Bool) → refusals.release_refusal t s m z ≡ None → Fits t m (Release z) room s
release_fits t s m z room e =
    let d = release_done t s m z e in
    let still = none_then _ _ d.still in
    let can : needs.can_release m (zone_at s z) ≡ true = both _ _ (holds s m z d.holder.owns (clear_zone t s z d.clear z d.holder.caller.there refl)) (ap not still) in
    record {
      may = d.holder.caller.is;
      zones = λ y l. quiet_zone t m (Release z) room s y (λ q. refl) (at_own s y z (needs.can_release m) can);
      places = λ q l. refl;
      stop = refl;
      fresh = d.holder.fresh;
    }

-- ---- ways
receiver_of : (g r : ℕ) (w : Option Way) (way : Transfer) → transfer_by g r w ≡ Some way → way.receiver ≡ r
receiver_of g r None way e = cc
receiver_of g r (Some w) way e =
    let x : Transfer = record { giver = g; receiver = r; from = w.from; to = w.to } in
    sym (ap (λ (y : Transfer). y.receiver) (some_is x way e))

host_takes : (m h : ℕ) (a b : Posture) → m ≡ h → (if nat_eq m h then a else b) ≡ a
host_takes m h a b e = let same : nat_eq m h ≡ true = ap (λ x. nat_eq x h) e ∙ nat_eq-self h in ap (λ k. if k then a else b) same

guest_takes : (m h : ℕ) (a b : Posture) → m ≢ h → (if nat_eq m h then a else b) ≡ b
guest_takes m h a b ne = ap (λ k. if k then a else b) (nat_eq-apart m h ne)

same_self : (q : Posture) → same_posture q q ≡ true
same_self Closed = refl
same_self Moving = refl
same_self OpenIn = refl
same_self OpenOut = refl

-- a receiver's zone is in its taking posture
taking : (t : PlanTable) (m z : ℕ) (q : Posture) (way : Transfer) → host_of t z ≢ guest_of t z → transfer_of t z q ≡ Some way → m ≡ way.receiver → same_posture q (needs.taking_posture t m z) ≡ true
taking t m z Closed way two e is = cc
taking t m z Moving way two e is = cc
taking t m z OpenIn way two e is =
    let host : m ≡ host_of t z = is ∙ receiver_of (guest_of t z) (host_of t z) (zone_row t z).inward way e in
    ap (same_posture OpenIn) (host_takes m (host_of t z) OpenIn OpenOut host)
taking t m z OpenOut way two e is =
    let guest : m ≡ guest_of t z = is ∙ receiver_of (host_of t z) (guest_of t z) (zone_row t z).outward way e in
    ap (same_posture OpenOut) (guest_takes m (host_of t z) OpenIn OpenOut (λ h. two (sym h ∙ guest)))

same_owner : (a b : ℕ) → Some a ≡ Some b → a ≡ b
same_owner a b e = ap (λ (o : Option ℕ). unwrap_or o a) e

take_fits : (t : PlanTable) (s : State) (m z : ℕ) (room : Bool) → IsPlan t → IsSound t s → refusals.take_refusal t s m z ≡ None → Fits t m (Take z) room s
take_fits t s m z room p k e =
    let d = take_done t s m z e in
    let l = d.holder.caller.there in
    let c = plate_comes t s z k l d.plate in
    let posture = taking t m z (posture_at s z) c.way (p.host_is_not_guest z l) c.is (same_owner m c.way.receiver (sym d.holder.owner ∙ c.receiver)) in
    let can : needs.can_take t m z (zone_at s z) ≡ true = both _ _ (both _ _ d.holder.owns d.plate) posture in
    record {
      may = d.holder.caller.is;
      zones = λ y l. quiet_zone t m (Take z) room s y (λ q. refl) (at_own s y z (needs.can_take t m z) can);
      places = λ q l. refl;
      stop = refl;
      fresh = d.holder.fresh;
    }

giver_is : (m g r : ℕ) (w : Option Way) (way : Transfer) → given_by m (transfer_by g r w) ≡ Some way → nat_eq g m ≡ true
giver_is m g r None way e = cc
giver_is m g r (Some w) way e = given (nat_eq g m) _ way e
  where
    given : (b : Bool) (x way : Transfer) → (if b then Some x else None) ≡ Some way → b ≡ true
    given true x way e = refl
    given false x way e = cc

-- a giver's zone is in its giving posture
giving : (t : PlanTable) (m z : ℕ) (q : Posture) (way : Transfer) → host_of t z ≢ guest_of t z → given_by m (transfer_of t z q) ≡ Some way → q ≡ needs.giving_posture t m z
giving t m z Closed way two e = cc
giving t m z Moving way two e = cc
giving t m z OpenIn way two e =
    let guest = eqb-true (guest_of t z) m (giver_is m (guest_of t z) (host_of t z) (zone_row t z).inward way e) in
    sym (guest_takes m (host_of t z) OpenOut OpenIn (λ h. two (sym h ∙ sym guest)))
giving t m z OpenOut way two e =
    let host = eqb-true (host_of t z) m (giver_is m (host_of t z) (guest_of t z) (zone_row t z).outward way e) in
    sym (host_takes m (host_of t z) OpenOut OpenIn (sym host))

give_fits : (t : PlanTable) (s : State) (m z : ℕ) (room : Bool) → IsPlan t → refusals.give_refusal t s m z ≡ None → Fits t m (Give z) room s
give_fits t s m z room p e =
    let d = give_done t s m z e in
    let l = d.holder.caller.there in
    let posture = giving t m z (posture_at s z) d.way (p.host_is_not_guest z l) d.is in
    let way : needs.given_way t m z ≡ Some d.way = ap (λ q. given_by m (transfer_of t z q)) (sym posture) ∙ d.is in
    let same : same_posture (posture_at s z) (needs.giving_posture t m z) ≡ true = ap (same_posture (posture_at s z)) (sym posture) ∙ same_self (posture_at s z) in
    let can : needs.can_give t m z (zone_at s z) ≡ true = both _ _ (holds s m z d.holder.owns (clear_zone t s z d.clear z d.holder.caller.there refl)) same in
    let room_at = empty t s d.way.to d.room in
    let there : (q : ℕ) → needs.needs_room t m (Give z) room q ≡ true → d.way.to ≡ q = λ q n. eqb-true d.way.to q (ap (λ o. leads_to o q) (sym way) ∙ n) in
    let left : (q : ℕ) → needs.is_emptied t m (Give z) q ≡ true → d.way.from ≡ q = λ q n. eqb-true d.way.from q (ap (λ o. needs.leads_from o q) (sym way) ∙ n) in
    record {
      may = both _ _ d.holder.caller.is (ap is_some way);
      zones = λ y l. both _ _ (at_own s y z (needs.can_give t m z) can)
          (no_end t m (Give z) room (zone_at s y).flag (transfer_of t y (posture_at s y))
          (λ q n. subst (λ x. is_coming t (zone_at s y) x y ≡ false) (there q n) (room_at.coming y l)));
      places = λ q l. both _ _ (both _ _
          (implies_when (needs.needs_room t m (Give z) room q) (not (is_full s q)) (λ n. subst (λ x. not (is_full s x) ≡ true) (there q n) (ap not room_at.none)))
          (implies_when (needs.is_emptied t m (Give z) q) (is_full s q) (λ n. subst (λ x. is_full s x ≡ true) (left q n) d.plate))) refl;
      stop = ap not d.goes_on;
      fresh = d.holder.fresh;
    }

-- ---- poses
-- no plate is in the space, so none is in the zone
none_under : (a b f : Bool) → (a && b) ≡ false → (b ≡ false → f ≡ false) → (a && f) ≡ false
none_under true b f e k = k e
none_under false b f e k = refl

held_clear : (a o f : Bool) → (a && not o) ≡ false → (a && f) ≡ false → implies a (o && not f) ≡ true
held_clear false o f e g = refl
held_clear true true false e g = refl
held_clear true true true e g = cc
held_clear true false f e g = cc

moves_on : (a h v : Bool) (any : Bool) → (a && any) ≡ false → (any ≡ false → (h && not v) ≡ false) → implies (a && h) v ≡ true
moves_on false h v any e k = refl
moves_on true h v true e k = cc
moves_on true h v false e k = implies_from h v (k refl)

opened_or_open : (o : Option Posture) (q : Posture) → same_posture (unwrap_or o q) OpenIn ≡ true → (option_eq same_posture o (Some OpenIn) ≡ true) ⊎ (same_posture q OpenIn ≡ true)
opened_or_open None q e = inr e
opened_or_open (Some x) q e = inl e

opened_posture : (o : Option Posture) (q : Posture) → option_eq same_posture o (Some OpenIn) ≡ true → same_posture (unwrap_or o q) OpenIn ≡ true
opened_posture None q e = cc
opened_posture (Some x) q e = e

any_some : (f : ℕ → Bool) (n : ℕ) → any_below f n ≡ true → (i : ℕ) × (i < n) × (f i ≡ true)
any_some f zero e = cc
any_some f (suc n) e = some_of (any_below f n) (f n) e (λ h. let i = any_some f n h in (i.0, omega (arith, i.1), i.2)) (λ h. (n, omega arith, h))
  where
    some_of : {A : Type 0} (a b : Bool) → (a || b) ≡ true → (a ≡ true → A) → (b ≡ true → A) → A
    some_of true b e k h = k refl
    some_of false true e k h = h refl
    some_of false false e k h = cc

false_all : (f : ℕ → Bool) (n : ℕ) → ((i : ℕ) → i < n → f i ≡ false) → any_below f n ≡ false
false_all f zero each = refl
false_all f (suc n) each = rw (false_all f n (λ i l. each i (omega arith)), each n (omega arith)) refl

-- which of a pose's zones are open already, and which ends of ways are empty
record Roomy (t : PlanTable) (s : State) (m p : ℕ) (room : Bool) : Type 0 where
  posture : (y : ℕ) → y < zone_count t → implies (same_posture (refusals.posture_with t s p y) OpenIn) (room || same_posture (posture_at s y) OpenIn) ≡ true
  ends : (q : ℕ) → needs.needs_room t m (SetPose p) room q ≡ true → Empty t s q

pose_fits : (t : PlanTable) (s : State) (m p : ℕ) (room : Bool) → Poses t s m p → Roomy t s m p room → Fits t m (SetPose p) room s
pose_fits t s m p room d r = record {
  may = both _ _ (lt-ltb p (pose_count t) d.there) (ap (nat_eq (machine_of t p)) (sym d.machine) ∙ nat_eq-self (machine_of t p));
  zones = λ y l.
      let v = zone_at s y in
      let none : any_below (refusals.stands_at t s m) (zone_count t) ≡ false → refusals.stands_at t s m y ≡ false = λ e. any_below_none (refusals.stands_at t s m) (zone_count t) e y l in
      let held = held_clear (refusals.is_concerned t s m p y) (refusals.owns s m y) v.flag (d.owned y l) (none_under (refusals.is_concerned t s m p y) (space_has_plate t s y) v.flag (d.clear y l) (λ e. clear_zone t s y e y l refl)) in
      let moves = moves_on (pose_row t p).after_moving (nat_eq (host_of t y) m) (same_posture v.posture Moving) _ d.no_jump none in
      both _ _ (both _ _ (both _ _ held moves) (r.posture y l))
      (no_end t m (SetPose p) room v.flag (transfer_of t y v.posture) (λ q n. (r.ends q n).coming y l));
  places = λ q l. both _ _ (both _ _ (implies_when (needs.needs_room t m (SetPose p) room q) (not (is_full s q)) (λ n. ap not (r.ends q n).none)) refl) refl;
  stop = ap not d.goes_on;
  fresh = d.fresh;
}

no_ends : (t : PlanTable) (p q : ℕ) → any_below (opens t p) (zone_count t) ≡ false → needs.is_end_of_opened t p q ≡ false
no_ends t p q none = false_all (needs.opens_to t p q) (zone_count t) (λ z l. let e = any_below_none (opens t p) (zone_count t) none z l in rw e refl)

opens_none : (t : PlanTable) (s : State) (m p : ℕ) → any_below (opens t p) (zone_count t) ≡ false → Roomy t s m p true
opens_none t s m p none = record {
  posture = λ y l. implies_any _ _ refl;
  ends = λ q n. absurd (not_both (sym n ∙ no_ends t p q none));
}

already_open : (t : PlanTable) (s : State) (m p z : ℕ) → OpensOne t p → z < zone_count t → opens t p z ≡ true → same_posture (posture_at s z) OpenIn ≡ true → Roomy t s m p false
already_open t s m p z one l here is = record {
  posture = λ y k. implies_when (same_posture (refusals.posture_with t s p y) OpenIn) (same_posture (posture_at s y) OpenIn) (λ e.
      elim (opened_or_open (posture_of t p y) (posture_at s y) e) [
        | inl o ↦ subst (λ x. same_posture (posture_at s x) OpenIn ≡ true) (one z l y k here o) is
        | inr o ↦ o
      ]);
  ends = λ q n. absurd (not_both (sym n));
}

onto : (t : PlanTable) (s : State) (o : Option Transfer) (q : ℕ) → refusals.is_onto_taken t s o ≡ false → leads_to o q ≡ true → refusals.is_taken t s q ≡ false
onto t s None q e n = cc
onto t s (Some way) q e n = subst (λ x. refusals.is_taken t s x ≡ false) (eqb-true way.to q n) e

has_room : (a b c : Bool) → (a && not b && c) ≡ false → a ≡ true → b ≡ false → c ≡ false
has_room true false c e f g = e
has_room true true c e f g = cc
has_room false b c e f g = cc

newly_open : (t : PlanTable) (s : State) (m p z : ℕ) → Poses t s m p → OpensOne t p → z < zone_count t → opens t p z ≡ true → same_posture (posture_at s z) OpenIn ≡ false → Roomy t s m p true
newly_open t s m p z d one l here isnt = record {
  posture = λ y k. implies_any _ _ refl;
  ends = λ q n.
      let y = any_some (needs.opens_to t p q) (zone_count t) n in
      let o = and_parts (opens t p y.0) (leads_to (transfer_of t y.0 OpenIn) q) y.2 in
      let is : y.0 ≡ z = one y.0 y.1 z l o.0 here in
      let leads : leads_to (transfer_of t z OpenIn) q ≡ true = subst (λ x. leads_to (transfer_of t x OpenIn) q ≡ true) is o.1 in
      let free = has_room _ _ _ (none_then _ _ (d.room z l)) (opened_posture (posture_of t p z) (posture_at s z) here) isnt in
      empty t s q (onto t s (transfer_of t z OpenIn) q free leads);
}

either : (b : Bool) → (b ≡ true) ⊎ (b ≡ false)
either true = inl refl
either false = inr refl

roomy : (t : PlanTable) (s : State) (m p : ℕ) → Poses t s m p → OpensOne t p → (room : Bool) × Roomy t s m p room
roomy t s m p d one =
    elim (either (any_below (opens t p) (zone_count t))) [
      | inr none ↦ (true, opens_none t s m p none)
      | inl some ↦
          let z = any_some (opens t p) (zone_count t) some in
          elim (either (same_posture (posture_at s z.0) OpenIn)) [
            | inl is ↦ (false, already_open t s m p z.0 one z.1 z.2 is)
            | inr isnt ↦ (true, newly_open t s m p z.0 d one z.1 z.2 isnt)
          ]
    ]

-- ---- advances
end_is : (t : PlanTable) (s : State) (m p : ℕ) → Advances t s m p → needs.may_ask t m (Advance p) ≡ true
end_is t s m p d = both _ _ (both _ _ (lt-ltb p (place_count t) d.there) (ap (nat_eq (keeper_of t p)) (sym d.keeper) ∙ nat_eq-self (keeper_of t p))) d.ends

come_fits : (t : PlanTable) (s : State) (m p : ℕ) → Advances t s m p → is_full s p ≡ false → Fits t m (Advance p) true s
come_fits t s m p d was =
    let c = comes t s m p d was in
    let free = empty t s p (ap (nat_lt 0) c.1) in
    let here : (q : ℕ) → needs.needs_room t m (Advance p) true q ≡ true → p ≡ q = λ q n. eqb-true p q n in
    record {
      may = end_is t s m p d;
      zones = λ y l. both _ _ refl
          (no_end t m (Advance p) true (zone_at s y).flag (transfer_of t y (posture_at s y))
          (λ q n. subst (λ x. is_coming t (zone_at s y) x y ≡ false) (here q n) (free.coming y l)));
      places = λ q l. both _ _ (both _ _
          (implies_when (needs.needs_room t m (Advance p) true q) (not (is_full s q)) (λ n. subst (λ x. not (is_full s x) ≡ true) (here q n) (ap not free.none)))
          refl) (implies_when (nat_eq p q) (is_source t p) (λ n. c.0));
      stop = ap not d.goes_on;
      fresh = d.fresh;
    }

go_fits : (t : PlanTable) (s : State) (m p : ℕ) → Advances t s m p → is_full s p ≡ true → Fits t m (Advance p) false s
go_fits t s m p d was =
    let sink = goes t s m p d was in
    record {
      may = end_is t s m p d;
      zones = λ y l. quiet_zone t m (Advance p) false s y (λ q. refl) refl;
      places = λ q l. both _ _ refl
          (implies_when (nat_eq p q) (is_sink t p && is_full s q) (λ n. both _ _ sink (subst (λ x. is_full s x ≡ true) (eqb-true p q n) was)));
      stop = ap not d.goes_on;
      fresh = d.fresh;
    }

advance_fits : (t : PlanTable) (s : State) (m p : ℕ) → Advances t s m p → (room : Bool) × Fits t m (Advance p) room s
advance_fits t s m p d =
    elim (either (is_full s p)) [
      | inl full ↦ (false, go_fits t s m p d full)
      | inr none ↦ (true, come_fits t s m p d none)
    ]

-- ---- the watch
stop_fits : (t : PlanTable) (s : State) (m : ℕ) (room : Bool) → refusals.stop_refusal s m ≡ None → Fits t m Stop room s
stop_fits t s m room e =
    let d = stop_done s m e in
    record { may = ap (λ x. nat_eq x watch) d.caller; zones = λ y l. quiet_zone t m Stop room s y (λ q. refl) refl; places = λ q l. refl; stop = ap not d.mark; fresh = d.fresh }

resume_fits : (t : PlanTable) (s : State) (m : ℕ) (room : Bool) → refusals.resume_refusal s m ≡ None → Fits t m Resume room s
resume_fits t s m room e =
    let d = resume_done s m e in
    record { may = ap (λ x. nat_eq x watch) d.caller; zones = λ y l. quiet_zone t m Resume room s y (λ q. refl) refl; places = λ q l. refl; stop = d.mark; fresh = d.fresh }

pub done_fits : (t : PlanTable) (s : State) (m : ℕ) (c : Call) → IsPlan t → IsSound t s → OpensOneAtMost t c → reply t s m c ≡ Done → (room : Bool) × Fits t m c room s
done_fits t s m (Claim z) p k one e = (true, claim_fits t s m z true (done_none _ _ e))
done_fits t s m (Give z) p k one e = (true, give_fits t s m z true p (done_none _ _ e))
done_fits t s m (Yield z) p k one e = (true, yield_fits t s m z true (done_none _ _ e))
done_fits t s m (Take z) p k one e = (true, take_fits t s m z true p k (done_none _ _ e))
done_fits t s m (Release z) p k one e = (true, release_fits t s m z true (done_none _ _ e))
done_fits t s m (SetPose q) p k one e =
    let d = pose_done t s m q (done_none _ _ e) in
    let r = roomy t s m q d one in
    (r.0, pose_fits t s m q r.0 d r.1)
done_fits t s m (Inquire z) p k one e = never_done t s m z e
done_fits t s m Stop p k one e = (true, stop_fits t s m true (done_none _ _ e))
done_fits t s m Resume p k one e = (true, resume_fits t s m true (done_none _ _ e))
done_fits t s m (Advance q) p k one e = advance_fits t s m q (advance_done t s m q (done_none _ _ e))
