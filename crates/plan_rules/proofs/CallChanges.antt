-- What each Done call changes.
use Rattle.std.proofs.Common.{◌≡◌, ◌≢◌, ℕ, ◌+◌, ◌<◌, inl, inr, Bool, true, false, ◌&&◌, ◌||◌, not, nat_eq, length, get_or, set, Option, Some, None, unwrap_or, refl, sym, ap, ◌∙◌, arith, if◌then◌else◌}
use Rattle.std.proofs.lemmas.Bool.{cases_lt, false_from_ne_true}
use Rattle.std.proofs.lemmas.List.{get_or-set_same, get_or-set_other, get_or_past}
use Rattle.plan_types.specs.declared.posture.Posture.{Posture}
use Rattle.plan_types.specs.declared.call.Call.{Call}
use Rattle.plan_types.specs.declared.call.Call.TheVariants.{Claim, Give, Yield, Take, Release, SetPose, Stop, Resume, Advance}
use Rattle.plan_types.specs.declared.answer.Answer.{Answer}
use Rattle.plan_types.specs.declared.answer.Answer.TheVariants.{Done, Refused, Shown}
use Rattle.plan_types.specs.Table.{PlanTable, zone_count, host_of, guest_of, posture_of, space_of, same_space}
use Rattle.plan_types.specs.Plan.{IsPlan}
use Rattle.plan_rules.specs.declared.state.State.{State}
use Rattle.plan_rules.specs.State.{zone_at, posture_at, is_full, free_zone}
use Rattle.plan_rules.specs.Sound.{IsSound}
use Rattle.plan_rules.specs.Reply.{reply, next, next_by, changed, other_party, handed, with_owner, emptied, filled}
use Rattle.plan_rules.specs.ChangeLaws.{ZoneBecomes, PlaceBecomes, IsOtherParty, OwnerChanges, PlateLeaves, PlateComes, PosturesChange, StopChanges, PlaceChanges, ChangesAreThese}
use Rattle.plan_rules.proofs.lemmas.DoneCalls.{claim_done, give_done, yield_done, take_done, release_done, advance_done}
use Rattle.plan_rules.proofs.lemmas.Puts.{nat_eq-self, nat_eq-apart, same_or_not, zone_at-posed}
use Rattle.plan_rules.proofs.lemmas.Soundness.{done_none, in_ten, in_sixteen, plate_comes}
use Rattle.plan_rules.proofs.lemmas.Spaces.{same_by, by_same, same_inside, shared_owner, clear_zone, made, handed_here, handed_other, zone_at-handed, past-handed}
use Rattle.plan_rules.proofs.lemmas.Ways.{way_leads}
use Rattle.plan_rules.proofs.lemmas.Zones.{free_is_clear, gives_way}

-- ---- zones and places

-- the flag of a zone that is handed over: the plate that comes, where none was
plate_there : (plate flag : Bool) → flag ≡ false → ((plate && true) || flag) ≡ plate
plate_there true flag e = refl
plate_there false flag e = e

none_beside : (plate flag : Bool) → ((plate && false) || flag) ≡ flag
none_beside true flag = refl
none_beside false flag = refl

zone_becomes : (t : PlanTable) (s after : State) (z : ℕ) (o : Option ℕ) (plate : Bool) → IsPlan t → z < zone_count t → IsSound t s → (zone_at s z).flag ≡ false → after.zones ≡ with_owner t s z o plate → ZoneBecomes t s after z o plate
zone_becomes t s after z o plate p l k clear is =
    let few = p.zones_at_most in
    let at : (y : ℕ) → y < 10 → zone_at after y ≡ handed t s z o plate y = λ y m. ap (λ zones. get_or zones y free_zone) is ∙ zone_at-handed t s z o plate y m in
    let same_at : (y : ℕ) → (b : Bool) → nat_eq y z ≡ b → space_of t y ≡ space_of t z → zone_at after y ≡ made o ((plate && b) || (zone_at s y).flag) (posture_at s y) =
    λ y b e same.
    let inside = same_inside t z y l (sym same) in
    at y (omega (arith, few, inside)) ∙ handed_here t s z o plate y (same_by t z y (sym same)) ∙ ap (λ c. made o ((plate && c) || (zone_at s y).flag) (posture_at s y)) e in
    record {
      here = same_at z true (nat_eq-self z) refl ∙ ap (λ f. made o f (posture_at s z)) (plate_there plate (zone_at s z).flag clear);
      beside = λ y ne same. same_at y false (nat_eq-apart y z ne) same ∙ ap (λ f. made o f (posture_at s y)) (none_beside plate (zone_at s y).flag);
      others = λ y apart.
          elim (cases_lt y 10) [
            | inl m ↦ at y m ∙ handed_other t s z o plate y (false_from_ne_true (same_space t z y) (λ same. apart (sym (by_same t z y same))))
            | inr past ↦
                let ten = k.has_ten_zones in
                ap (λ zones. get_or zones y free_zone) is ∙ past-handed t s z o plate y past ∙ sym (get_or_past s.zones y free_zone (omega (arith, ten, past)))
          ];
    }

place_becomes : (s after : State) (place : ℕ) (full : Bool) → place < length s.full → after.full ≡ set s.full place full → PlaceBecomes s after place full
place_becomes s after place full l is = record {
  here = ap (λ places. get_or places place false) is ∙ get_or-set_same s.full place full false l;
  others = λ q ne. ap (λ places. get_or places q false) is ∙ get_or-set_other s.full place q full false ne;
}

-- ---- parties

other_is : (t : PlanTable) (m z : ℕ) → host_of t z ≢ guest_of t z → z < zone_count t → IsOtherParty t m z (other_party t m z)
other_is t m z two l =
    elim (same_or_not m (host_of t z)) [
      | inl e ↦
          let is : other_party t m z ≡ guest_of t z = ap (λ b. if b then guest_of t z else host_of t z) (ap (nat_eq m) (sym e) ∙ nat_eq-self m) in
          ((l, inr is), λ same. two (sym e ∙ sym same ∙ is))
      | inr ne ↦
          let is : other_party t m z ≡ host_of t z = ap (λ b. if b then guest_of t z else host_of t z) (nat_eq-apart m (host_of t z) ne) in
          ((l, inl is), λ same. ne (sym same ∙ is))
    ]

-- ---- calls about a zone

module _ (t : PlanTable) (s : State) (m z : ℕ) (p : IsPlan t) (k : IsSound t s) where
  owner_changes : (owner : Option ℕ) (after : State) → z < zone_count t → (zone_at s z).flag ≡ false → after ≡ record s { zones = with_owner t s z owner false; stamp = s.stamp + 1 }
      → OwnerChanges t s after z owner
  owner_changes owner after l clear is = record {
    zone = zone_becomes t s after z owner false p l k clear (ap (λ (x : State). x.zones) is);
    places = λ q. ap (λ (x : State). is_full x q) is;
    counted = (ap (λ (x : State). x.stamp) is, ap (λ (x : State). x.stopped) is);
  }

  claim_changes : reply t s m (Claim z) ≡ Done → OwnerChanges t s (next t s m (Claim z)) z (Some m)
  claim_changes e =
      let d = claim_done t s m z (done_none _ _ e) in
      owner_changes (Some m) (next t s m (Claim z)) d.caller.there (free_is_clear t z (zone_at s z) (k.zone_is_lawful z d.caller.there) d.free) (ap (λ a. next_by a t s m (Claim z)) e)

  release_changes : reply t s m (Release z) ≡ Done → OwnerChanges t s (next t s m (Release z)) z None
  release_changes e =
      let d = release_done t s m z (done_none _ _ e) in
      owner_changes None (next t s m (Release z)) d.holder.caller.there (clear_zone t s z d.clear z d.holder.caller.there refl) (ap (λ a. next_by a t s m (Release z)) e)

  yield_changes : reply t s m (Yield z) ≡ Done → (to : ℕ) × IsOtherParty t m z to × OwnerChanges t s (next t s m (Yield z)) z (Some to)
  yield_changes e =
      let d = yield_done t s m z (done_none _ _ e) in
      let l = d.holder.caller.there in
      (other_party t m z, other_is t m z (p.host_is_not_guest z l) l, owner_changes (Some (other_party t m z)) (next t s m (Yield z)) l (clear_zone t s z d.clear z l refl) (ap (λ a. next_by a t s m (Yield z)) e))

  plate_leaves : reply t s m (Give z) ≡ Done → PlateLeaves t s (next t s m (Give z)) m z
  plate_leaves e =
      let d = give_done t s m z (done_none _ _ e) in
      let l = d.holder.caller.there in
      let after = next t s m (Give z) in
      let is : after ≡ changed t s m (Give z) = ap (λ a. next_by a t s m (Give z)) e in
      let g = gives_way t m z (posture_at s z) d.way (p.host_is_not_guest z l) d.is in
      let leads = way_leads t p z (posture_at s z) d.way l g.is in
      record {
        to = other_party t m z;
        other = other_is t m z (p.host_is_not_guest z l) l;
        zone = zone_becomes t s after z (Some (other_party t m z)) true p l k (clear_zone t s z d.clear z l refl) (ap (λ (x : State). x.zones) is);
        way = d.way;
        is = g.is;
        place = place_becomes s after d.way.from false (in_sixteen t s d.way.from p k leads.from) (ap (λ (x : State). x.full) is ∙ ap (emptied s.full) d.is);
        counted = (ap (λ (x : State). x.stamp) is, ap (λ (x : State). x.stopped) is);
      }

  plate_arrives : reply t s m (Take z) ≡ Done → PlateComes t s (next t s m (Take z)) m z
  plate_arrives e =
      let d = take_done t s m z (done_none _ _ e) in
      let l = d.holder.caller.there in
      let after = next t s m (Take z) in
      let is : after ≡ changed t s m (Take z) = ap (λ a. next_by a t s m (Take z)) e in
      let c = plate_comes t s z k l d.plate in
      let leads = way_leads t p z (posture_at s z) c.way l c.is in
      record {
        zone = record {
          here = ap (λ (x : State). get_or x.zones z free_zone) is ∙ get_or-set_same s.zones z (record (zone_at s z) { flag = false }) free_zone (in_ten t s z p k l)
              ∙ ap (λ o. made o false (posture_at s z)) d.holder.owner;
          beside = λ y ne same.
              let inside = same_inside t z y l (sym same) in
              ap (λ (x : State). get_or x.zones y free_zone) is ∙ get_or-set_other s.zones z y (record (zone_at s z) { flag = false }) free_zone ne
              ∙ ap (λ o. made o (zone_at s y).flag (posture_at s y)) (shared_owner t s y z k inside l same ∙ d.holder.owner);
          others = λ y apart.
              ap (λ (x : State). get_or x.zones y free_zone) is ∙ get_or-set_other s.zones z y (record (zone_at s z) { flag = false }) free_zone (λ same. apart (ap (space_of t) same));
        };
        way = c.way;
        is = c.is;
        place = place_becomes s after c.way.to true (in_sixteen t s c.way.to p k leads.to) (ap (λ (x : State). x.full) is ∙ ap (filled s.full) c.is);
        counted = (ap (λ (x : State). x.stamp) is, ap (λ (x : State). x.stopped) is);
      }

-- ---- advances

place_changes : (t : PlanTable) (s : State) (m p : ℕ) (full : Bool) → IsPlan t → IsSound t s → reply t s m (Advance p) ≡ Done → is_full s p ≡ full → PlaceChanges s (next t s m (Advance p)) p (not full)
place_changes t s m p full plan k e was =
    let d = advance_done t s m p (done_none _ _ e) in
    let after = next t s m (Advance p) in
    let is : after ≡ changed t s m (Advance p) = ap (λ a. next_by a t s m (Advance p)) e in
    record {
      zones = λ z. ap (λ (x : State). zone_at x z) is;
      place = place_becomes s after p (not full) (in_sixteen t s p plan k d.there) (ap (λ (x : State). x.full) is ∙ ap (λ b. set s.full p (not b)) was);
      counted = (ap (λ (x : State). x.stamp) is, ap (λ (x : State). x.stopped) is);
    }

-- ---- poses and stops

postures_change : (t : PlanTable) (s : State) (m p : ℕ) → reply t s m (SetPose p) ≡ Done → PosturesChange t s (next t s m (SetPose p)) p
postures_change t s m p e =
    let after = next t s m (SetPose p) in
    let is : after ≡ changed t s m (SetPose p) = ap (λ a. next_by a t s m (SetPose p)) e in
    let posed : (z : ℕ) (o : Option Posture) → z < 10 → posture_of t p z ≡ o → zone_at after z ≡ record (zone_at s z) { posture = unwrap_or o (posture_at s z) }
    = λ z o l given. ap (λ (x : State). zone_at x z) is ∙ zone_at-posed t s p z l ∙ ap (λ o. record (zone_at s z) { posture = unwrap_or o (posture_at s z) }) given in
    record {
      given = λ z q l gives. posed z (Some q) l gives;
      others = λ z l none. posed z None l none;
      places = λ q. ap (λ (x : State). is_full x q) is;
      counted = (ap (λ (x : State). x.stamp) is, ap (λ (x : State). x.stopped) is);
    }

stop_changes : (s after : State) (stopped : Bool) → after ≡ record s { stamp = s.stamp + 1; stopped = stopped } → StopChanges s after stopped
stop_changes s after stopped is = record {
  zones = λ z. ap (λ (x : State). zone_at x z) is;
  places = λ q. ap (λ (x : State). is_full x q) is;
  counted = (ap (λ (x : State). x.stamp) is, ap (λ (x : State). x.stopped) is);
}

undone_by : (a : Answer) (t : PlanTable) (s : State) (m : ℕ) (c : Call) → a ≢ Done → next_by a t s m c ≡ s
undone_by Done t s m c undone = absurd (undone refl)
undone_by (Refused r) t s m c undone = refl
undone_by (Shown o f q) t s m c undone = refl

pub changes_are_these : ChangesAreThese
changes_are_these t s m z p plan sound = record {
  claim = claim_changes t s m z plan sound;
  give = plate_leaves t s m z plan sound;
  yield = yield_changes t s m z plan sound;
  take = plate_arrives t s m z plan sound;
  release = release_changes t s m z plan sound;
  pose = postures_change t s m p;
  stop = λ e. stop_changes s (next t s m Stop) true (ap (λ a. next_by a t s m Stop) e);
  resume = λ e. stop_changes s (next t s m Resume) false (ap (λ a. next_by a t s m Resume) e);
  comes = λ e was. place_changes t s m p false plan sound e was;
  goes = λ e was. place_changes t s m p true plan sound e was;
  undone = λ c other. undone_by (reply t s m c) t s m c other;
}
