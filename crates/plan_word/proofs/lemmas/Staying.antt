-- A call on a state of a plan leaves a state of the plan.
use Rattle.std.proofs.Common.{◌≡◌, ◌≢◌, ℕ, zero, suc, ◌<◌, ◌≤◌, inl, inr, Bool, true, false, not, ◌&&◌, get_or, set, replicate, Option, Some, None, refl, ap, ap₂, ◌∙◌, arith, unwrap_or}
use Rattle.std.proofs.lemmas.Bool.{cases_lt, lt-ltb, false_from_ne_true}
use Rattle.std.proofs.lemmas.List.{get_or-set_other, get_or_past}
use Rattle.std.specs.Option.{option_eq}
use Rattle.plan_types.specs.declared.posture.Posture.{Posture}
use Rattle.plan_types.specs.declared.posture.Posture.TheVariants.{Closed, Moving, OpenIn, OpenOut}
use Rattle.plan_types.specs.Same.{same_posture}
use Rattle.plan_types.specs.declared.call.Call.{Call}
use Rattle.plan_types.specs.declared.call.Call.TheVariants.{Claim, Give, Yield, Take, Release, SetPose, Inquire, Stop, Resume, Advance}
use Rattle.plan_types.specs.declared.answer.Answer.{Answer}
use Rattle.plan_types.specs.declared.answer.Answer.TheVariants.{Done, Shown, Refused}
use Rattle.plan_types.specs.Table.{postures_of, PlanTable, zone_count, pose_count, place_count, posture_of, gives, is_given, postures_by, zone_shape, same_space}
use Rattle.plan_types.specs.Plan.{IsPlan}
use Rattle.plan_rules.specs.declared.state.ZoneState.{ZoneState}
use Rattle.plan_rules.specs.declared.state.State.{State}
use Rattle.plan_rules.specs.State.{zone_at, is_full, posture_at, free_zone}
use Rattle.plan_rules.specs.Sound.{IsStart}
use Rattle.plan_rules.specs.Reply.{reply, next, next_by, changed, other_party, with_owner, posed, all_posed, emptied, filled}
use Rattle.plan_rules.proofs.lemmas.Puts.{put_cases, zone_at-posed}
use Rattle.plan_rules.proofs.lemmas.Spaces.{by_same, same_inside, handed_other, zone_at-handed, past-handed}
use Rattle.plan_rules.proofs.lemmas.Zones.{gives_way}
use Rattle.plan_rules.proofs.lemmas.DoneCalls.{claim_done, give_done, yield_done, take_done, release_done, pose_done, advance_done}
use Rattle.plan_rules.proofs.lemmas.Ways.{way_leads}
use Rattle.plan_rules.proofs.lemmas.Soundness.{done_none, some_or_none, plate_comes, changed_keeps}
use Rattle.plan_rules.proofs.lemmas.Starts.{start_is_sound}
use Rattle.plan_word.specs.OfPlan.{IsOfPlan, can_have}
use Rattle.plan_word.proofs.Guarding.{any_at}
use Rattle.plan_word.proofs.lemmas.RoundTrip.{same_self, closed_told}

abbrev NoMoreZones : PlanTable → State → Type 0
NoMoreZones t s = (z : ℕ) → zone_count t ≤ z → zone_at s z ≡ free_zone

abbrev NoMorePlates : PlanTable → State → Type 0
NoMorePlates t s = (p : ℕ) → place_count t ≤ p → is_full s p ≡ false

-- only a zone, or a place, of the plan is set
zone_put : (t : PlanTable) (s : State) (y : ℕ) (v : ZoneState) → y < zone_count t → NoMoreZones t s → (z : ℕ) → zone_count t ≤ z → get_or (set s.zones y v) z free_zone ≡ free_zone
zone_put t s y v l k z m = let ne : z ≢ y = omega arith in get_or-set_other s.zones y z v free_zone ne ∙ k z m

handed_put : (t : PlanTable) (s : State) (y : ℕ) (o : Option ℕ) (plate : Bool) → IsPlan t → y < zone_count t → NoMoreZones t s → (z : ℕ) → zone_count t ≤ z → get_or (with_owner t s y o plate) z free_zone ≡ free_zone
handed_put t s y o plate p l k z past =
    elim (cases_lt z 10) [
      | inl ten ↦
          let apart : same_space t y z ≡ false = false_from_ne_true (same_space t y z) (λ here.
          let inside = same_inside t y z l (by_same t y z here) in absurd (omega (arith, inside, past))) in
          zone_at-handed t s y o plate z ten ∙ handed_other t s y o plate z apart ∙ k z past
      | inr more ↦ past-handed t s y o plate z more
    ]

place_put : (t : PlanTable) (s : State) (q : ℕ) (b : Bool) → q < place_count t → NoMorePlates t s → (p : ℕ) → place_count t ≤ p → get_or (set s.full q b) p false ≡ false
place_put t s q b l k p m = let ne : p ≢ q = omega arith in get_or-set_other s.full q p b false ne ∙ k p m

-- a pose gives no posture to a zone past the tables
posed_kept : (t : PlanTable) (s : State) (m p z : ℕ) → IsPlan t → reply t s m (SetPose p) ≡ Done → zone_count t ≤ z → z < 10 → posed t s p z ≡ zone_at s z
posed_kept t s m p z k e past ten =
    let d = pose_done t s m p (done_none _ _ e) in
    elim (some_or_none (posture_of t p z)) [
      | inl none ↦ ap (λ (o : Option Posture). record (zone_at s z) { posture = unwrap_or o (posture_at s z) }) none
      | inr q ↦ let host = k.pose_of_host p z q.0 d.there ten q.1 in let there = host.0 in absurd (omega arith)
    ]

pose_put : (t : PlanTable) (s : State) (m p : ℕ) → IsPlan t → reply t s m (SetPose p) ≡ Done → NoMoreZones t s → (z : ℕ) → zone_count t ≤ z → get_or (all_posed t s p) z free_zone ≡ free_zone
pose_put t s m p k e none z past =
    elim (cases_lt z 10) [
      | inl ten ↦ zone_at-posed t s p z ten ∙ posed_kept t s m p z k e past ten ∙ none z past
      | inr more ↦ get_or_past (all_posed t s p) z free_zone more
    ]

zones_changed : (t : PlanTable) (s : State) (m : ℕ) (c : Call) → IsPlan t → IsOfPlan t s → reply t s m c ≡ Done → NoMoreZones t (changed t s m c)
zones_changed t s m (Claim y) p k e = handed_put t s y (Some m) false p (claim_done t s m y (done_none _ _ e)).caller.there k.no_more_zones
zones_changed t s m (Give y) p k e = handed_put t s y (Some (other_party t m y)) true p (give_done t s m y (done_none _ _ e)).holder.caller.there k.no_more_zones
zones_changed t s m (Yield y) p k e = handed_put t s y (Some (other_party t m y)) false p (yield_done t s m y (done_none _ _ e)).holder.caller.there k.no_more_zones
zones_changed t s m (Take y) p k e = zone_put t s y (record (zone_at s y) { flag = false }) (take_done t s m y (done_none _ _ e)).holder.caller.there k.no_more_zones
zones_changed t s m (Release y) p k e = handed_put t s y (None) false p (release_done t s m y (done_none _ _ e)).holder.caller.there k.no_more_zones
zones_changed t s m (SetPose q) p k e = pose_put t s m q p e k.no_more_zones
zones_changed t s m (Inquire y) p k e = k.no_more_zones
zones_changed t s m Stop p k e = k.no_more_zones
zones_changed t s m Resume p k e = k.no_more_zones
zones_changed t s m (Advance q) p k e = k.no_more_zones

-- each zone has a posture that its field tells
abbrev PosturesTold : PlanTable → State → Type 0
PosturesTold t s = (z : ℕ) → z < zone_count t → can_have (postures_of (zone_shape t z)) (posture_at s z) ≡ true

posture_put : (t : PlanTable) (s : State) (y : ℕ) (v : ZoneState) → IsPlan t → IsOfPlan t s → y < zone_count t → v.posture ≡ posture_at s y
    → (z : ℕ) → z < zone_count t → can_have (postures_of (zone_shape t z)) (get_or (set s.zones y v) z free_zone).posture ≡ true
posture_put t s y v p k l e =
    let few = p.zones_at_most in
    let ten = k.sound.has_ten_zones in
    put_cases (λ z x. z < zone_count t → can_have (postures_of (zone_shape t z)) x.posture ≡ true) s.zones v free_zone y (omega (arith, few, ten, l))
    (λ m. ap (can_have (postures_of (zone_shape t y))) e ∙ k.postures_told y l) (λ z ne m. k.postures_told z m)

handed_told : (t : PlanTable) (s : State) (y : ℕ) (o : Option ℕ) (plate : Bool) → IsPlan t → IsOfPlan t s
    → (z : ℕ) → z < zone_count t → can_have (postures_of (zone_shape t z)) (get_or (with_owner t s y o plate) z free_zone).posture ≡ true
handed_told t s y o plate p k z l =
    let few = p.zones_at_most in
    ap (λ (v : ZoneState). can_have (postures_of (zone_shape t z)) v.posture) (zone_at-handed t s y o plate z (omega (arith, few, l))) ∙ k.postures_told z l

moving_told : (i o : Bool) → can_have (postures_by true i o) Moving ≡ true
moving_told true true = refl
moving_told true false = refl
moving_told false true = refl
moving_told false false = refl

open_in_told : (m o : Bool) → can_have (postures_by m true o) OpenIn ≡ true
open_in_told true true = refl
open_in_told true false = refl
open_in_told false true = refl
open_in_told false false = refl

open_out_told : (m i : Bool) → can_have (postures_by m i true) OpenOut ≡ true
open_out_told true true = refl
open_out_told true false = refl
open_out_told false true = refl
open_out_told false false = refl

-- a posture that some pose gives is told
given_told : (t : PlanTable) (z : ℕ) (q : Posture) → is_given t z q ≡ true → can_have (postures_of (zone_shape t z)) q ≡ true
given_told t z Closed h = closed_told (postures_of (zone_shape t z))
given_told t z Moving h = ap (λ b. can_have (postures_by b (is_given t z OpenIn) (is_given t z OpenOut)) Moving) h ∙ moving_told (is_given t z OpenIn) (is_given t z OpenOut)
given_told t z OpenIn h = ap (λ b. can_have (postures_by (is_given t z Moving) b (is_given t z OpenOut)) OpenIn) h ∙ open_in_told (is_given t z Moving) (is_given t z OpenOut)
given_told t z OpenOut h = ap (λ b. can_have (postures_by (is_given t z Moving) (is_given t z OpenIn) b) OpenOut) h ∙ open_out_told (is_given t z Moving) (is_given t z OpenIn)

pose_given : (t : PlanTable) (p z : ℕ) (q : Posture) → z < zone_count t → p < pose_count t → posture_of t p z ≡ Some q → is_given t z q ≡ true
pose_given t p z q l there e =
    let here : gives t z q p ≡ true = ap (λ o. option_eq same_posture o (Some q)) e ∙ same_self q in
    ap₂ (λ a b. a && b) (lt-ltb z (zone_count t) l) (any_at (gives t z q) p (pose_count t) there here)

pose_told : (t : PlanTable) (s : State) (m p : ℕ) → IsPlan t → IsOfPlan t s → reply t s m (SetPose p) ≡ Done
    → (z : ℕ) → z < zone_count t → can_have (postures_of (zone_shape t z)) (get_or (all_posed t s p) z free_zone).posture ≡ true
pose_told t s m p plan k e z l =
    let d = pose_done t s m p (done_none _ _ e) in
    let few = plan.zones_at_most in
    let tells : Posture → Bool = can_have (postures_of (zone_shape t z)) in
    ap (λ (v : ZoneState). tells v.posture) (zone_at-posed t s p z (omega (arith, few, l)))
    ∙ elim (some_or_none (posture_of t p z)) [
      | inl none ↦ ap (λ (o : Option Posture). tells (unwrap_or o (posture_at s z))) none ∙ k.postures_told z l
      | inr q ↦ ap (λ (o : Option Posture). tells (unwrap_or o (posture_at s z))) q.1 ∙ given_told t z q.0 (pose_given t p z q.0 l d.there q.1)
    ]

postures_changed : (t : PlanTable) (s : State) (m : ℕ) (c : Call) → IsPlan t → IsOfPlan t s → reply t s m c ≡ Done → PosturesTold t (changed t s m c)
postures_changed t s m (Claim y) p k e = handed_told t s y (Some m) false p k
postures_changed t s m (Give y) p k e = handed_told t s y (Some (other_party t m y)) true p k
postures_changed t s m (Yield y) p k e = handed_told t s y (Some (other_party t m y)) false p k
postures_changed t s m (Take y) p k e = posture_put t s y (record (zone_at s y) { flag = false }) p k (take_done t s m y (done_none _ _ e)).holder.caller.there refl
postures_changed t s m (Release y) p k e = handed_told t s y (None) false p k
postures_changed t s m (SetPose q) p k e = pose_told t s m q p k e
postures_changed t s m (Inquire y) p k e = k.postures_told
postures_changed t s m Stop p k e = k.postures_told
postures_changed t s m Resume p k e = k.postures_told
postures_changed t s m (Advance q) p k e = k.postures_told

places_changed : (t : PlanTable) (s : State) (m : ℕ) (c : Call) → IsPlan t → IsOfPlan t s → reply t s m c ≡ Done → NoMorePlates t (changed t s m c)
places_changed t s m (Claim y) p k e = k.no_more_plates
places_changed t s m (Yield y) p k e = k.no_more_plates
places_changed t s m (Release y) p k e = k.no_more_plates
places_changed t s m (SetPose q) p k e = k.no_more_plates
places_changed t s m (Inquire y) p k e = k.no_more_plates
places_changed t s m Stop p k e = k.no_more_plates
places_changed t s m Resume p k e = k.no_more_plates
places_changed t s m (Advance q) p k e = place_put t s q (not (is_full s q)) (advance_done t s m q (done_none _ _ e)).there k.no_more_plates
places_changed t s m (Give y) p k e =
    let d = give_done t s m y (done_none _ _ e) in
    let l = d.holder.caller.there in
    let g = gives_way t m y (posture_at s y) d.way (p.host_is_not_guest y l) d.is in
    let leads = way_leads t p y (posture_at s y) d.way l g.is in
    λ q past. ap (λ o. get_or (emptied s.full o) q false) d.is ∙ place_put t s d.way.from false leads.from k.no_more_plates q past
places_changed t s m (Take y) p k e =
    let d = take_done t s m y (done_none _ _ e) in
    let l = d.holder.caller.there in
    let c = plate_comes t s y k.sound l d.plate in
    let leads = way_leads t p y (posture_at s y) c.way l c.is in
    λ q past. ap (λ o. get_or (filled s.full o) q false) c.is ∙ place_put t s c.way.to true leads.to k.no_more_plates q past

changed_stays : (t : PlanTable) (s : State) (m : ℕ) (c : Call) → IsPlan t → IsOfPlan t s → reply t s m c ≡ Done → IsOfPlan t (changed t s m c)
changed_stays t s m c p k e = record {
  plan = p;
  sound = changed_keeps t s m c p k.sound e;
  postures_told = postures_changed t s m c p k e;
  no_more_zones = zones_changed t s m c p k e;
  no_more_plates = places_changed t s m c p k e;
}

stays_by : (a : Answer) (t : PlanTable) (s : State) (m : ℕ) (c : Call) → IsOfPlan t s → (a ≡ Done → IsOfPlan t (changed t s m c)) → IsOfPlan t (next_by a t s m c)
stays_by Done t s m c h k = k refl
stays_by (Refused r) t s m c h k = h
stays_by (Shown o f q) t s m c h k = h

pub next_stays : (t : PlanTable) (s : State) (m : ℕ) (c : Call) → IsPlan t → IsOfPlan t s → IsOfPlan t (next t s m c)
next_stays t s m c p h = stays_by (reply t s m c) t s m c h (changed_stays t s m c p h)

all_free : (n z : ℕ) → get_or (replicate n free_zone) z free_zone ≡ free_zone
all_free zero z = refl
all_free (suc n) zero = refl
all_free (suc n) (suc z) = all_free n z

pub start_stays : (t : PlanTable) (s : State) → IsPlan t → IsStart s → NoMorePlates t s → IsOfPlan t s
start_stays t s p k few = record {
  plan = p;
  sound = start_is_sound t s p k;
  postures_told = λ z l. ap (λ (x : State). can_have (postures_of (zone_shape t z)) (posture_at x z)) k.same ∙ ap (λ (v : ZoneState). can_have (postures_of (zone_shape t z)) v.posture) (all_free 10 z) ∙ closed_told (postures_of (zone_shape t z));
  no_more_zones = λ z past. ap (λ (x : State). zone_at x z) k.same ∙ all_free 10 z;
  no_more_plates = few;
}
