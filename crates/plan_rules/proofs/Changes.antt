-- What one call, and a history, change of the postures, the stamp and the plates.
use Rattle.std.proofs.Common.{◌≡◌, ℕ, zero, suc, ◌+◌, ◌<◌, Bool, true, false, ◌&&◌, ◌||◌, not, cond, map, List, [], ◌∷◌, length, get_or, set, Option, Some, None, refl, sym, ap, ◌∙◌, subst, arith, if◌then◌else◌}
use Rattle.std.proofs.lemmas.List.Sums.{sum_by-cons}
use Rattle.plan_types.specs.declared.table.Transfer.{Transfer}
use Rattle.plan_types.specs.declared.call.Call.{Call}
use Rattle.plan_types.specs.declared.call.Call.TheVariants.{Claim, Give, Yield, Take, Release, SetPose, Inquire, Stop, Resume, Advance}
use Rattle.plan_types.specs.declared.answer.Answer.{Answer}
use Rattle.plan_types.specs.declared.answer.Answer.TheVariants.{Done, Shown, Refused}
use Rattle.plan_types.specs.declared.answer.Event.{Event}
use Rattle.plan_types.specs.declared.table.PlanZone.{PlanZone}
use Rattle.plan_types.specs.declared.table.PlanPose.{PlanPose}
use Rattle.plan_types.specs.Table.{PlanTable, zone_count, place_count, transfer_of, plan_table, kept_by, no_place, is_source, is_sink}
use Rattle.plan_types.specs.Below.{sum_below}
use Rattle.plan_types.specs.Plan.{IsPlan}
use Rattle.plan_rules.specs.declared.state.ZoneState.{ZoneState}
use Rattle.plan_rules.specs.declared.state.State.{State}
use Rattle.plan_rules.specs.State.{zone_at, posture_at, is_full, one_if, is_coming, plates_of, free_zone}
use Rattle.plan_rules.specs.Sound.{IsSound}
use Rattle.plan_rules.specs.Reply.{reply, next, next_by, changed, other_party, with_owner, all_posed, emptied, filled}
use Rattle.plan_rules.specs.History.{after, IsLegal, is_done, is_done_answer, fills, empties, come, gone, posture_given, posture_since, posture_by_events}
use Rattle.plan_rules.specs.Laws.{StampCountsChanges, PlatesAreCounted, HasNoEnds, PlatesAreKept, PostureByEvents}
use Rattle.plan_rules.proofs.lemmas.Below.{sum_below_same, sum_below_at_least}
use Rattle.plan_rules.proofs.lemmas.Puts.{put_cases, nat_eq-self}
use Rattle.plan_rules.proofs.lemmas.Spaces.{clear_zone, zone_at-handed, handed_sum}
use Rattle.plan_rules.proofs.lemmas.Zones.{gives_way}
use Rattle.plan_rules.proofs.lemmas.DoneCalls.{give_done, take_done, advance_done}
use Rattle.plan_rules.proofs.lemmas.Plates.{zones_put, places_put, comes}
use Rattle.plan_rules.proofs.lemmas.Ways.{way_leads}
use Rattle.plan_rules.proofs.lemmas.Soundness.{done_none, never_done, next_keeps, in_ten, in_sixteen, plate_comes, zone_after_pose}

-- ---- postures

-- a zone is set with its own posture
put_kept : (s : State) (y : ℕ) (v : ZoneState) → y < length s.zones → v.posture ≡ posture_at s y → (z : ℕ) → (get_or (set s.zones y v) z free_zone).posture ≡ posture_at s z
put_kept s y v l e z = put_cases (λ x u. u.posture ≡ posture_at s x) s.zones v free_zone y l e (λ x ne. refl) z

handed_kept : (t : PlanTable) (s : State) (y : ℕ) (o : Option ℕ) (plate : Bool) (z : ℕ) → IsPlan t → z < zone_count t → (get_or (with_owner t s y o plate) z free_zone).posture ≡ posture_at s z
handed_kept t s y o plate z p l = let few = p.zones_at_most in ap (λ (v : ZoneState). v.posture) (zone_at-handed t s y o plate z (omega (arith, few, l)))

posture-changed : (t : PlanTable) (s : State) (n : ℕ) (c : Call) (z : ℕ) → IsPlan t → IsSound t s → reply t s n c ≡ Done → z < zone_count t → posture_at (changed t s n c) z ≡ posture_given t c z (posture_at s z)
posture-changed t s n (Claim y) z p k e m = handed_kept t s y (Some n) false z p m
posture-changed t s n (Give y) z p k e m = handed_kept t s y (Some (other_party t n y)) true z p m
posture-changed t s n (Yield y) z p k e m = handed_kept t s y (Some (other_party t n y)) false z p m
posture-changed t s n (Take y) z p k e m = put_kept s y (record (zone_at s y) { flag = false }) (in_ten t s y p k (take_done t s n y (done_none _ _ e)).holder.caller.there) refl z
posture-changed t s n (Release y) z p k e m = handed_kept t s y None false z p m
posture-changed t s n (SetPose q) z p k e m = ap (λ (v : ZoneState). v.posture) (zone_after_pose t s q z p m)
posture-changed t s n (Inquire y) z p k e m = refl
posture-changed t s n Stop z p k e m = refl
posture-changed t s n Resume z p k e m = refl
posture-changed t s n (Advance q) z p k e m = refl

posture_by : (a : Answer) (t : PlanTable) (s : State) (n : ℕ) (c : Call) (z : ℕ) → (a ≡ Done → posture_at (changed t s n c) z ≡ posture_given t c z (posture_at s z))
    → posture_at (next_by a t s n c) z ≡ (if is_done_answer a then posture_given t c z (posture_at s z) else posture_at s z)
posture_by Done t s n c z k = k refl
posture_by (Shown o f p) t s n c z k = refl
posture_by (Refused r) t s n c z k = refl

pub posture-after : (t : PlanTable) (s : State) (h : List Event) (z : ℕ) → IsPlan t → IsSound t s → IsLegal t s h → z < zone_count t → posture_at (after t s h) z ≡ posture_by_events t s h z
posture-after t s [] z p k l m = refl
posture-after t s (e ∷ h) z p k l m =
    let A : Answer → Type 0 = λ a. posture_at (next t s e.machine e.call) z ≡ (if is_done_answer a then posture_given t e.call z (posture_at s z) else posture_at s z) in
    let here = subst A (sym l.0) (posture_by (reply t s e.machine e.call) t s e.machine e.call z (λ d. posture-changed t s e.machine e.call z p k d m)) in
    posture-after t (next t s e.machine e.call) h z p (next_keeps t s e.machine e.call p k) l.1 m ∙ ap (λ q. posture_since t q h z) here

pub posture_by_events_is : (t : PlanTable) (s : State) → IsPlan t → IsSound t s → (h : List Event) → IsLegal t s h → PostureByEvents t s h
posture_by_events_is t s p k h l z m = sym (posture-after t s h z p k l m)

-- ---- the stamp

stamp_by : (a : Answer) (t : PlanTable) (s : State) (n : ℕ) (c : Call) → (next_by a t s n c).stamp ≡ s.stamp + cond (is_done_answer a) 1 0
stamp_by Done t s n c = refl
stamp_by (Shown o f p) t s n c = omega arith
stamp_by (Refused r) t s n c = omega arith

pub stamp-counted : (t : PlanTable) (s : State) (h : List Event) → IsLegal t s h → StampCountsChanges t s h
stamp-counted t s [] l = omega arith
stamp-counted t s (e ∷ h) l =
    let A : Answer → Type 0 = λ a. (next t s e.machine e.call).stamp ≡ s.stamp + cond (is_done_answer a) 1 0 in
    let here = subst A (sym l.0) (stamp_by (reply t s e.machine e.call) t s e.machine e.call) in
    let rest = stamp-counted t (next t s e.machine e.call) h l.1 in
    let count = sum_by-cons (λ (x : Event). cond (is_done x) 1 0) e h in
    omega (arith, here, rest, count)

-- ---- plates

-- the set flags, after one zone is set
flags_put : (t : PlanTable) (s : State) (y : ℕ) (v : ZoneState) → y < zone_count t → y < length s.zones
    → sum_below (λ z. one_if (get_or (set s.zones y v) z free_zone).flag) (zone_count t) + one_if (zone_at s y).flag ≡ sum_below (λ z. one_if (zone_at s z).flag) (zone_count t) + one_if v.flag
flags_put t s y v l m = zones_put (λ _ u. one_if u.flag) s.zones v y (zone_count t) l m

full_put : (t : PlanTable) (s : State) (q : ℕ) (b : Bool) → q < place_count t → q < length s.full
    → sum_below (λ z. one_if (get_or (set s.full q b) z false)) (place_count t) + one_if (is_full s q) ≡ sum_below (λ z. one_if (is_full s z)) (place_count t) + one_if b
full_put t s q b l m = places_put one_if s.full b q (place_count t) l m

same_flags : (t : PlanTable) (s : State) (y : ℕ) (o : Option ℕ) → IsPlan t
    → sum_below (λ z. one_if (is_full s z)) (place_count t) + sum_below (λ z. one_if (get_or (with_owner t s y o false) z free_zone).flag) (zone_count t) ≡ plates_of t s
same_flags t s y o p =
    let few = p.zones_at_most in
    let same = sum_below_same (λ z. one_if (zone_at s z).flag) (λ z. one_if (get_or (with_owner t s y o false) z free_zone).flag) (zone_count t)
    (λ z l. ap (λ (v : ZoneState). one_if v.flag) (zone_at-handed t s y o false z (omega (arith, few, l)))) in
    ap (λ m. sum_below (λ z. one_if (is_full s z)) (place_count t) + m) same

empty_place : (b : Bool) → one_if b ≡ 0 → b ≡ false
empty_place true e = absurd (omega arith)
empty_place false e = refl

-- the place that a plate is on its way to is empty
pub room_to_take : (t : PlanTable) (s : State) (y : ℕ) (way : Transfer) → IsSound t s → y < zone_count t → (zone_at s y).flag ≡ true → transfer_of t y (posture_at s y) ≡ Some way → is_full s way.to ≡ false
room_to_take t s y way k l flag is =
    let here = comes t (zone_at s y) y way.to way flag is ∙ ap one_if (nat_eq-self way.to) in
    let least = sum_below_at_least (λ z. one_if (is_coming t (zone_at s z) way.to z)) y (zone_count t) l in
    let most = k.one_plate_a_place way.to in
    empty_place (is_full s way.to) (omega (arith, here, least, most))

neither : {A : Type 0} (b : Bool) → not b ≡ false → b ≡ false → A
neither true e f = cc
neither false e f = cc

plates-stay : (t : PlanTable) (s : State) (n : ℕ) (c : Call) → IsPlan t → IsSound t s → reply t s n c ≡ Done → fills s c ≡ false → empties s c ≡ false → plates_of t (changed t s n c) ≡ plates_of t s
plates-stay t s n (Claim y) p k e f g = same_flags t s y (Some n) p
plates-stay t s n (Yield y) p k e f g = same_flags t s y (Some (other_party t n y)) p
plates-stay t s n (Release y) p k e f g = same_flags t s y None p
plates-stay t s n (Give y) p k e f g =
    let d = give_done t s n y (done_none _ _ e) in
    let l = d.holder.caller.there in
    let g = gives_way t n y (posture_at s y) d.way (p.host_is_not_guest y l) d.is in
    let leads = way_leads t p y (posture_at s y) d.way l g.is in
    let places = ap (λ o. sum_below (λ z. one_if (get_or (emptied s.full o) z false)) (place_count t)) d.is in
    let out = full_put t s d.way.from false leads.from (in_sixteen t s d.way.from p k leads.from) in
    let few = p.zones_at_most in
    let in_zone : sum_below (λ z. one_if (get_or (with_owner t s y (Some (other_party t n y)) true) z free_zone).flag) (zone_count t) + one_if (zone_at s y).flag ≡ sum_below (λ z. one_if (zone_at s z).flag) (zone_count t) + 1 =
    handed_sum t s y (Some (other_party t n y)) true (λ z f q. one_if f) (zone_count t) k.has_ten_zones l few in
    omega (arith, places, out, in_zone, ap one_if d.plate, ap one_if (clear_zone t s y d.clear y l refl))
plates-stay t s n (Take y) p k e f g =
    let d = take_done t s n y (done_none _ _ e) in
    let l = d.holder.caller.there in
    let c = plate_comes t s y k l d.plate in
    let leads = way_leads t p y (posture_at s y) c.way l c.is in
    let places = ap (λ o. sum_below (λ z. one_if (get_or (filled s.full o) z false)) (place_count t)) c.is in
    let to_place = full_put t s c.way.to true leads.to (in_sixteen t s c.way.to p k leads.to) in
    let from_zone = flags_put t s y (record (zone_at s y) { flag = false }) l (in_ten t s y p k l) in
    let empty = room_to_take t s y c.way k l d.plate c.is in
    omega (arith, places, to_place, from_zone, ap one_if d.plate, ap one_if empty)
plates-stay t s n (SetPose q) p k e f g =
    let same = sum_below_same (λ z. one_if (zone_at s z).flag) (λ z. one_if (get_or (all_posed t s q) z free_zone).flag) (zone_count t)
    (λ z l. ap (λ (v : ZoneState). one_if v.flag) (zone_after_pose t s q z p l)) in
    ap (λ m. sum_below (λ z. one_if (is_full s z)) (place_count t) + m) same
plates-stay t s n (Inquire y) p k e f g = never_done t s n y e
plates-stay t s n Stop p k e f g = refl
plates-stay t s n Resume p k e f g = refl
plates-stay t s n (Advance q) p k e f g = neither (is_full s q) f g

-- a call that is Done changes the plates by the one that comes or goes
plates-changed : (t : PlanTable) (s : State) (n : ℕ) (c : Call) → IsPlan t → IsSound t s → reply t s n c ≡ Done → plates_of t (changed t s n c) + one_if (empties s c) ≡ plates_of t s + one_if (fills s c)
plates-changed t s n (Claim y) p k e = ap (λ x. x + 0) (plates-stay t s n (Claim y) p k e refl refl)
plates-changed t s n (Give y) p k e = ap (λ x. x + 0) (plates-stay t s n (Give y) p k e refl refl)
plates-changed t s n (Yield y) p k e = ap (λ x. x + 0) (plates-stay t s n (Yield y) p k e refl refl)
plates-changed t s n (Take y) p k e = ap (λ x. x + 0) (plates-stay t s n (Take y) p k e refl refl)
plates-changed t s n (Release y) p k e = ap (λ x. x + 0) (plates-stay t s n (Release y) p k e refl refl)
plates-changed t s n (SetPose q) p k e = ap (λ x. x + 0) (plates-stay t s n (SetPose q) p k e refl refl)
plates-changed t s n (Inquire y) p k e = never_done t s n y e
plates-changed t s n Stop p k e = refl
plates-changed t s n Resume p k e = refl
plates-changed t s n (Advance q) p k e =
    let d = advance_done t s n q (done_none _ _ e) in
    let put = full_put t s q (not (is_full s q)) d.there (in_sixteen t s q p k d.there) in
    omega (arith, put)

plates_by : (a : Answer) (t : PlanTable) (s : State) (n : ℕ) (c : Call) → (a ≡ Done → plates_of t (changed t s n c) + one_if (empties s c) ≡ plates_of t s + one_if (fills s c))
    → plates_of t (next_by a t s n c) + one_if (is_done_answer a && empties s c) ≡ plates_of t s + one_if (is_done_answer a && fills s c)
plates_by Done t s n c k = k refl
plates_by (Shown o f p) t s n c k = refl
plates_by (Refused r) t s n c k = refl

pub plates-counted : (t : PlanTable) (s : State) → IsPlan t → IsSound t s → (h : List Event) → IsLegal t s h → PlatesAreCounted t s h
plates-counted t s p k [] l = refl
plates-counted t s p k (e ∷ h) l =
    let A : Answer → Type 0 = λ a. plates_of t (next t s e.machine e.call) + one_if (is_done_answer a && empties s e.call) ≡ plates_of t s + one_if (is_done_answer a && fills s e.call) in
    let here = subst A (sym l.0) (plates_by (reply t s e.machine e.call) t s e.machine e.call (plates-changed t s e.machine e.call p k)) in
    let rest = plates-counted t (next t s e.machine e.call) p (next_keeps t s e.machine e.call p k) h l.1 in
    omega (arith, here, rest)

-- ---- where no place is a source or a sink no plate comes or goes

no_end : (a b : Bool) → (a || b) ≡ true → a ≡ false → b ≡ false → ⊥
no_end true b e f g = cc
no_end false true e f g = cc
no_end false false e f g = cc

none_by : (a : Answer) (t : PlanTable) (s : State) (n : ℕ) (c : Call) → a ≡ reply t s n c → HasNoEnds t → (one_if (is_done_answer a && fills s c) ≡ 0) × (one_if (is_done_answer a && empties s c) ≡ 0)
none_by Done t s n (Advance p) is none =
    let d = advance_done t s n p (done_none _ _ (sym is)) in
    let ends = none p d.there in
    absurd (no_end (is_source t p) (is_sink t p) d.ends ends.0 ends.1)
none_by Done t s n _ is none = (refl, refl)
none_by (Shown o f q) t s n c is none = (refl, refl)
none_by (Refused r) t s n c is none = (refl, refl)

none_comes_or_goes : (t : PlanTable) (s : State) (h : List Event) → HasNoEnds t → IsLegal t s h → (come t s h ≡ 0) × (gone t s h ≡ 0)
none_comes_or_goes t s [] none l = (refl, refl)
none_comes_or_goes t s (e ∷ h) none l =
    let here = none_by e.answer t s e.machine e.call l.0 none in
    let rest = none_comes_or_goes t (next t s e.machine e.call) h none l.1 in
    (omega (arith, here.0, rest.0), omega (arith, here.1, rest.1))

pub plates-kept : (t : PlanTable) (s : State) → IsPlan t → IsSound t s → (h : List Event) → IsLegal t s h → PlatesAreKept t s h
plates-kept t s p k h l none =
    let counted = plates-counted t s p k h l in
    let all = none_comes_or_goes t s h none l in
    omega (arith, counted, all.0, all.1)

-- tables without sources and sinks have none
no_end_in : (keepers : List ℕ) (p : ℕ) → ((get_or (map kept_by keepers) p no_place).source ≡ false) × ((get_or (map kept_by keepers) p no_place).sink ≡ false)
no_end_in [] p = (refl, refl)
no_end_in (k ∷ keepers) zero = (refl, refl)
no_end_in (k ∷ keepers) (suc p) = no_end_in keepers p

pub has_no_ends : (machines : ℕ) (zones : List PlanZone) (poses : List PlanPose) (keepers : List ℕ) → HasNoEnds (plan_table machines zones poses keepers)
has_no_ends machines zones poses keepers p below = no_end_in keepers p
