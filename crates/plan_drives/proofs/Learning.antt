-- What a machine knows by its own done calls, and by owning a zone, is so.
use Rattle.std.proofs.Common.{◌≡◌, ◌≢◌, ℕ, ◌<◌, Bool, true, false, ◌&&◌, ◌||◌, not, nat_eq, if◌then◌else◌, Option, Some, None, is_some, length, get_or, set, refl, sym, ap, ap₂, ◌∙◌, subst, arith, IsTrue, unwrap_or}
use Rattle.std.proofs.lemmas.Bool.{eqb-true, eq-eqb, lt-ltb, and_parts}
use Rattle.std.specs.Option.{option_or}
use Rattle.std.proofs.lemmas.List.{get_or-replicate}
use Rattle.std.proofs.lemmas.List.FromFn.{get_or-map-range_with_len}
use Rattle.plan_types.specs.declared.posture.Posture.{Posture}
use Rattle.plan_types.specs.declared.posture.Posture.TheVariants.{Closed, Moving, OpenIn, OpenOut}
use Rattle.plan_types.specs.declared.table.Way.{Way}
use Rattle.plan_types.specs.declared.table.Transfer.{Transfer}
use Rattle.plan_types.specs.declared.call.Call.{Call}
use Rattle.plan_types.specs.declared.call.Call.TheVariants.{Claim, Give, Yield, Take, Release, SetPose, Inquire, Stop, Resume, Advance}
use Rattle.plan_types.specs.declared.answer.Answer.TheVariants.{Done}
use Rattle.plan_types.specs.Same.{same_posture}
use Rattle.plan_types.specs.Table.{guest_of, PlanTable, zone_count, place_count, host_of, keeper_of, zone_row, posture_of, is_hosted, is_place_of, is_moving_pose, transfer_of, transfer_by, is_source, is_sink, space_of, same_space}
use Rattle.plan_types.specs.Plan.{IsPlan}
use Rattle.plan_rules.specs.declared.state.ZoneState.{ZoneState}
use Rattle.plan_rules.specs.declared.state.State.{State}
use Rattle.plan_rules.specs.State.{zone_at, posture_at, is_full, free_zone}
use Rattle.plan_rules.specs.Sound.{IsSound, implies, is_owned_by, is_open}
use Rattle.plan_rules.specs.Refusals.{owns}
use Rattle.plan_rules.specs.Reply.{reply, changed, other_party, with_owner, emptied, filled}
use Rattle.plan_rules.proofs.lemmas.Puts.{put_cases, nat_eq-self, nat_eq-apart}
use Rattle.plan_rules.proofs.lemmas.Spaces.{by_same, same_inside, shared_owner, handed_here, handed_other, zone_at-handed}
use Rattle.plan_rules.proofs.lemmas.Zones.{some_is, gives_way, implied}
use Rattle.plan_rules.proofs.lemmas.DoneCalls.{claim_done, give_done, take_done, pose_done, advance_done}
use Rattle.plan_rules.proofs.lemmas.Advancing.{comes, goes}
use Rattle.plan_rules.proofs.lemmas.Ways.{way_leads}
use Rattle.plan_rules.proofs.lemmas.Soundness.{done_none, never_done, in_ten, in_sixteen, plate_comes, zone_after_pose, changed_keeps}
use Rattle.plan_motors.specs.declared.motor.ZoneNeed.{ZoneNeed}
use Rattle.plan_motors.specs.declared.motor.Motor.{Motor}
use Rattle.plan_motors.specs.Motor.{no_need, need_of, place_need, has_posture, meets, meets_place}
use Rattle.plan_drives.specs.Facts.{OpensByPoses, some_gives, one_way, posture_owned, no_facts, way_given, way_taken, posture_taken, zone_owned, zone_left, zone_given, zone_taken, zone_posed, zone_facts, begins_at, ends_at, place_turned, place_facts, facts_after}

-- a zone whose posture is known is held or hosted
abbrev IsKept : PlanTable → ℕ → ZoneNeed → ℕ → Type 0
IsKept t m need z = is_some need.posture ≡ true → (need.holds || is_hosted t z m) ≡ true

-- a machine knows this: it is so, and no other machine can change it
pub record Knows (t : PlanTable) (s : State) (f : Motor) : Type 0 where
  pub zones : (z : ℕ) → z < zone_count t → IsTrue (meets f.machine (need_of f z) (zone_at s z))
  pub places : (p : ℕ) → p < place_count t → IsTrue (meets_place (place_need f p) (is_full s p))
  pub kept : (z : ℕ) → z < zone_count t → IsKept t f.machine (need_of f z) z
  pub own : (p : ℕ) → p < place_count t → is_some (place_need f p) ≡ true → is_place_of t p f.machine ≡ true

ten : (t : PlanTable) (z : ℕ) → IsPlan t → z < zone_count t → z < 10
ten t z p l = let few = p.zones_at_most in omega (arith, few, l)

sixteen : (t : PlanTable) (q : ℕ) → IsPlan t → q < place_count t → q < 16
sixteen t q p l = let few = p.places_at_most in omega (arith, few, l)

-- ---- at first nothing is known

pub knows_nothing : (t : PlanTable) (s : State) (m : ℕ) → IsPlan t → Knows t s (no_facts m)
knows_nothing t s m p =
    let zone : (z : ℕ) → z < zone_count t → no_need ≡ need_of (no_facts m) z = λ z l. sym (get_or-replicate 10 z no_need no_need (ten t z p l)) in
    let place : (q : ℕ) → q < place_count t → None ≡ place_need (no_facts m) q = λ q l. sym (get_or-replicate 16 q None None (sixteen t q p l)) in
    record {
      zones = λ z l. subst (λ n. IsTrue (meets m n (zone_at s z))) (zone z l) refl;
      places = λ q l. subst (λ n. IsTrue (meets_place n (is_full s q))) (place q l) refl;
      kept = λ z l. subst (λ n. IsKept t m n z) (zone z l) (λ e. cc);
      own = λ q l. subst (λ n. is_some n ≡ true → is_place_of t q m ≡ true) (place q l) (λ e. cc);
    }

-- ---- what the machine's own call tells it of zones

same_self : (q : Posture) → same_posture q q ≡ true
same_self Closed = refl
same_self Moving = refl
same_self OpenIn = refl
same_self OpenOut = refl

posture_part : (m : ℕ) (n : ZoneNeed) (v : ZoneState) → meets m n v ≡ true → has_posture n.posture v.posture ≡ true
posture_part m n v e = (and_parts _ _ e).1

told_or_known : (known told : Option Posture) (q : Posture) → has_posture known q ≡ true → has_posture told q ≡ true → has_posture (option_or known told) q ≡ true
told_or_known None told q e f = f
told_or_known (Some r) told q e f = e

meets_owned : (m : ℕ) (told : Option Posture) (n : ZoneNeed) (v : ZoneState) → is_owned_by v.owner m ≡ true → has_posture n.posture v.posture ≡ true → has_posture told v.posture ≡ true → meets m (zone_owned told n) v ≡ true
meets_owned m told n v o e f = rw (o, told_or_known n.posture told v.posture e f) refl

-- an open zone is open the one way in which the poses open it
way_is : (inward outward : Bool) (q : Posture) → is_open q ≡ true → (q ≡ OpenIn → inward ≡ true) → (q ≡ OpenOut → outward ≡ true) → has_posture (one_way inward outward) q ≡ true
way_is true true q e a b = refl
way_is false false q e a b = refl
way_is true false OpenIn e a b = refl
way_is true false OpenOut e a b = let no = b refl in cc
way_is true false Closed e a b = cc
way_is true false Moving e a b = cc
way_is false true OpenOut e a b = refl
way_is false true OpenIn e a b = let no = a refl in cc
way_is false true Closed e a b = cc
way_is false true Moving e a b = cc

opens_if : (a b : Bool) → (a && not b) ≡ false → a ≡ true → b ≡ true
opens_if true true e f = refl
opens_if true false e f = cc
opens_if false b e f = cc

owner_tells : (t : PlanTable) (s : State) (m z : ℕ) → OpensByPoses t s → z < zone_count t → (nat_eq m (guest_of t z) && not (is_open (posture_at s z))) ≡ false → has_posture (posture_owned t m z) (posture_at s z) ≡ true
owner_tells t s m z opens l e = by (nat_eq m (guest_of t z)) refl
  where
    by : (b : Bool) → nat_eq m (guest_of t z) ≡ b → has_posture (if b then one_way (some_gives t z OpenIn) (some_gives t z OpenOut) else None) (posture_at s z) ≡ true
    by false is = refl
    by true is =
        let open_now = opens_if (nat_eq m (guest_of t z)) (is_open (posture_at s z)) e is in
        let given = opens z l open_now in
        way_is (some_gives t z OpenIn) (some_gives t z OpenOut) (posture_at s z) open_now
        (λ q. subst (λ x. some_gives t z x ≡ true) q given) (λ q. subst (λ x. some_gives t z x ≡ true) q given)

meets_left : (m : ℕ) (hosted : Bool) (n : ZoneNeed) (v : ZoneState) (o : Option ℕ) (b : Bool) → meets m n v ≡ true → meets m (zone_left hosted n) (record v { owner = o; flag = b }) ≡ true
meets_left m true n v o b e = posture_part m n v e
meets_left m false n v o b e = refl

meets_given : (m : ℕ) (here hosted : Bool) (n : ZoneNeed) (v : ZoneState) (o : Option ℕ) (b : Bool) → (here ≡ true → hosted ≡ true → v.posture ≡ OpenOut) → meets m n v ≡ true
    → meets m (zone_given here hosted n) (record v { owner = o; flag = b }) ≡ true
meets_given m true true n v o b is e = ap (λ q. same_posture q OpenOut) (is refl refl)
meets_given m true false n v o b is e = refl
meets_given m false hosted n v o b is e = meets_left m hosted n v o b e

meets_taken : (m : ℕ) (here : Bool) (q : Posture) (n : ZoneNeed) (v : ZoneState) (b : Bool) → is_owned_by v.owner m ≡ true → (here ≡ true → v.posture ≡ q) → meets m n v ≡ true
    → meets m (zone_taken here q n) (record v { flag = b }) ≡ true
meets_taken m true q n v b o is e = rw (o, is refl, same_self q) refl
meets_taken m false q n v b o is e = rw (o, posture_part m n v e) refl

meets_posed : (m : ℕ) (owned holds : Bool) (given known : Option Posture) (v : ZoneState) → (owned ≡ true → is_owned_by v.owner m ≡ true)
    → meets m (record { holds = holds; posture = known }) v ≡ true
    → meets m (zone_posed owned given (record { holds = holds; posture = known })) (record v { posture = unwrap_or given v.posture }) ≡ true
meets_posed m true holds (Some q) known v o e = rw (o refl, same_self q) refl
meets_posed m true holds None known v o e = rw (o refl, posture_part m (record { holds = holds; posture = known }) v e) refl
meets_posed m false true (Some q) known v o e =
    let mine : is_owned_by v.owner m ≡ true = (and_parts (is_owned_by v.owner m) (has_posture known v.posture) e).0 in
    rw (mine, same_self q) refl
meets_posed m false false (Some q) known v o e = same_self q
meets_posed m false holds None known v o e = e

-- a space is handed over, and what is known of its zones changes
put_known : (t : PlanTable) (s : State) (f : Motor) (y : ℕ) (o : Option ℕ) (plate : Bool) (n : ℕ → ZoneNeed) → IsPlan t
    → ((z : ℕ) → z < zone_count t → same_space t y z ≡ true → IsTrue (meets f.machine (n z) (get_or (with_owner t s y o plate) z free_zone)))
    → ((z : ℕ) → z < zone_count t → IsTrue (meets f.machine (need_of f z) (zone_at s z)))
    → (z : ℕ) → z < zone_count t → IsTrue (meets f.machine (if same_space t y z then n z else need_of f z) (get_or (with_owner t s y o plate) z free_zone))
put_known t s f y o plate n p here others z l = by (same_space t y z) refl
  where
    by : (b : Bool) → same_space t y z ≡ b → IsTrue (meets f.machine (if b then n z else need_of f z) (get_or (with_owner t s y o plate) z free_zone))
    by true e = here z l e
    by false e = subst (λ v. IsTrue (meets f.machine (need_of f z) v)) (sym (zone_at-handed t s y o plate z (ten t z p l) ∙ handed_other t s y o plate z e)) (others z l)

-- a zone of a space that is handed over
handed_is : (t : PlanTable) (s : State) (y : ℕ) (o : Option ℕ) (plate : Bool) (z : ℕ) → IsPlan t → z < zone_count t → same_space t y z ≡ true
    → get_or (with_owner t s y o plate) z free_zone ≡ record (zone_at s z) { owner = o; flag = (plate && nat_eq z y) || (zone_at s z).flag }
handed_is t s y o plate z p l e = zone_at-handed t s y o plate z (ten t z p l) ∙ handed_here t s y o plate z e

-- a pose that moves is taken by the owner of all zones that it hosts
owned_by_pose : (a b c d : Bool) → ((a && (b || c)) && not d) ≡ false → a ≡ true → b ≡ true → d ≡ true
owned_by_pose true true c true e f g = refl
owned_by_pose true true c false e f g = cc
owned_by_pose false b c d e f g = cc
owned_by_pose true false c d e f g = cc

-- the posture of a zone from which a plate was taken
taken_way : (g r : ℕ) (w : Option Way) (way : Transfer) → transfer_by g r w ≡ Some way → (way.giver ≡ g) × (way.receiver ≡ r) × ((p : ℕ) → begins_at w p ≡ nat_eq way.from p) × ((p : ℕ) → ends_at w p ≡ nat_eq way.to p)
taken_way g r None way e = cc
taken_way g r (Some w) way e =
    let x : Transfer = record { giver = g; receiver = r; from = w.from; to = w.to } in
    let same : x ≡ way = some_is x way e in
    (sym (ap (λ (y : Transfer). y.giver) same), sym (ap (λ (y : Transfer). y.receiver) same), λ p. ap (λ (y : Transfer). nat_eq y.from p) same, λ p. ap (λ (y : Transfer). nat_eq y.to p) same)

pub record Taken (t : PlanTable) (m z : ℕ) (q : Posture) (way : Transfer) : Type 0 where
  posture : q ≡ posture_taken t m z
  ends : (p : ℕ) → ends_at (way_taken t m z) p ≡ nat_eq way.to p

when : {A : Type 0} (b c : Bool) (x y : A) → b ≡ c → (if c then x else y) ≡ (if b then x else y)
when b c x y e = ap (λ d. if d then x else y) (sym e)

takes_way : (t : PlanTable) (m z : ℕ) (q : Posture) (way : Transfer) → host_of t z ≢ guest_of t z → transfer_of t z q ≡ Some way → way.receiver ≡ m → Taken t m z q way
takes_way t m z Closed way two e r = cc
takes_way t m z Moving way two e r = cc
takes_way t m z OpenIn way two e r =
    let w = taken_way (guest_of t z) (host_of t z) (zone_row t z).inward way e in
    let is : nat_eq m (host_of t z) ≡ true = eq-eqb m (host_of t z) (sym r ∙ w.1) in
    record {
      posture = ap (λ b. if b then OpenIn else OpenOut) (sym is);
      ends = λ p. ap (λ b. ends_at (if b then (zone_row t z).inward else (zone_row t z).outward) p) is ∙ w.3 p;
    }
takes_way t m z OpenOut way two e r =
    let w = taken_way (host_of t z) (guest_of t z) (zone_row t z).outward way e in
    let isnt : nat_eq m (host_of t z) ≡ false = nat_eq-apart m (host_of t z) (λ x. two (sym x ∙ sym r ∙ w.1)) in
    record {
      posture = ap (λ b. if b then OpenIn else OpenOut) (sym isnt);
      ends = λ p. ap (λ b. ends_at (if b then (zone_row t z).inward else (zone_row t z).outward) p) isnt ∙ w.3 p;
    }

given_begins : (t : PlanTable) (m z : ℕ) (q : Posture) (way : Transfer) → host_of t z ≢ guest_of t z → transfer_of t z q ≡ Some way → way.giver ≡ m → (p : ℕ) → begins_at (way_given t m z) p ≡ nat_eq way.from p
given_begins t m z Closed way two e r p = cc
given_begins t m z Moving way two e r p = cc
given_begins t m z OpenIn way two e r p =
    let w = taken_way (guest_of t z) (host_of t z) (zone_row t z).inward way e in
    let isnt : nat_eq m (host_of t z) ≡ false = nat_eq-apart m (host_of t z) (λ x. two (sym x ∙ sym r ∙ w.0)) in
    ap (λ b. begins_at (if b then (zone_row t z).outward else (zone_row t z).inward) p) isnt ∙ w.2 p
given_begins t m z OpenOut way two e r p =
    let w = taken_way (host_of t z) (guest_of t z) (zone_row t z).outward way e in
    let is : nat_eq m (host_of t z) ≡ true = eq-eqb m (host_of t z) (sym r ∙ w.0) in
    ap (λ b. begins_at (if b then (zone_row t z).outward else (zone_row t z).inward) p) is ∙ w.2 p

-- a host gives only outward
gives_outward : (t : PlanTable) (m z : ℕ) (q : Posture) (way : Transfer) → host_of t z ≢ guest_of t z → transfer_of t z q ≡ Some way → way.giver ≡ m → host_of t z ≡ m → q ≡ OpenOut
gives_outward t m z Closed way two e r h = cc
gives_outward t m z Moving way two e r h = cc
gives_outward t m z OpenOut way two e r h = refl
gives_outward t m z OpenIn way two e r h =
    let w = taken_way (guest_of t z) (host_of t z) (zone_row t z).inward way e in
    absurd (two (h ∙ sym r ∙ w.0))

-- a machine that owns a zone owns its space, and knows the posture where it is a guest: of an open zone
not_shut : (guest opens owned : Bool) → (guest ≡ true → owned ≡ true) → (owned ≡ true → opens ≡ true) → (guest && not opens) ≡ false
not_shut false opens owned o l = refl
not_shut true opens owned o l = ap not (l (o refl))

owned_space : (t : PlanTable) (s : State) (m y z : ℕ) → IsSound t s → z < zone_count t → same_space t y z ≡ true → owns s m y ≡ true → owns s m z ≡ true
owned_space t s m y z k l same mine =
    let is = by_same t y z same in
    let inside = same_inside t z y l (sym is) in
    ap (λ (o : Option ℕ). is_owned_by o m) (sym (shared_owner t s y z k inside l is)) ∙ mine

finds_zone : (t : PlanTable) (s : State) (f : Motor) (y z : ℕ) → IsSound t s → OpensByPoses t s → z < zone_count t → same_space t y z ≡ true → owns s f.machine y ≡ true
    → IsTrue (meets f.machine (need_of f z) (zone_at s z)) → IsTrue (meets f.machine (zone_owned (posture_owned t f.machine z) (need_of f z)) (zone_at s z))
finds_zone t s f y z k opens l same mine old =
    let m = f.machine in
    let o = owned_space t s m y z k l same mine in
    let shut = not_shut (nat_eq m (guest_of t z)) (is_open (posture_at s z)) (owns s (guest_of t z) z)
    (λ g. subst (λ x. owns s x z ≡ true) (eqb-true m (guest_of t z) g) o)
    (implied (owns s (guest_of t z) z) (is_open (posture_at s z)) (k.zone_is_lawful z l).guest_only_while_open) in
    meets_owned m (posture_owned t m z) (need_of f z) (zone_at s z) o (posture_part m (need_of f z) (zone_at s z) old) (owner_tells t s m z opens l shut)

-- what was known of a zone is so while the machine itself gets its space
meets_mine : (m : ℕ) (n : ZoneNeed) (v : ZoneState) (b : Bool) → meets m n v ≡ true → meets m n (record v { owner = Some m; flag = b }) ≡ true
meets_mine m n v b e = ap₂ (λ x y. implies n.holds x && y) (nat_eq-self m) (posture_part m n v e) ∙ any n.holds
  where
    any : (b : Bool) → (implies b true && true) ≡ true
    any true = refl
    any false = refl

left_known : (t : PlanTable) (s : State) (f : Motor) (y : ℕ) (o : Option ℕ) → IsPlan t → Knows t s f
    → (z : ℕ) → z < zone_count t → IsTrue (meets f.machine (if same_space t y z then zone_left (is_hosted t z f.machine) (need_of f z) else need_of f z) (get_or (with_owner t s y o false) z free_zone))
left_known t s f y o p known =
    put_known t s f y o false (λ z. zone_left (is_hosted t z f.machine) (need_of f z)) p
    (λ z l same.
    subst (λ v. IsTrue (meets f.machine (zone_left (is_hosted t z f.machine) (need_of f z)) v)) (sym (handed_is t s y o false z p l same))
    (meets_left f.machine (is_hosted t z f.machine) (need_of f z) (zone_at s z) o (zone_at s z).flag (known.zones z l)))
    known.zones

if_either : (m : ℕ) (a b : ZoneNeed) (v : ZoneState) (test : Bool) → (test ≡ true → meets m a v ≡ true) → meets m b v ≡ true → meets m (if test then a else b) v ≡ true
if_either m a b v true x y = x refl
if_either m a b v false x y = y

-- after a done call each zone is as the machine has learned
zones_learned : (t : PlanTable) (s : State) (f : Motor) (c : Call) → IsPlan t → IsSound t s → OpensByPoses t s → Knows t s f → reply t s f.machine c ≡ Done
    → (z : ℕ) → z < zone_count t → IsTrue (meets f.machine (zone_facts t f c z) (zone_at (changed t s f.machine c) z))
zones_learned t s f (Claim y) p k opens known e =
    let m = f.machine in
    let after = changed t s m (Claim y) in
    let there = (claim_done t s m y (done_none _ _ e)).caller.there in
    let still : (z : ℕ) → z < zone_count t → posture_at after z ≡ posture_at s z = λ z l. ap (λ (v : ZoneState). v.posture) (zone_at-handed t s y (Some m) false z (ten t z p l)) in
    let opens_still : OpensByPoses t after = λ z l. subst (λ q. IsTrue (is_open q) → IsTrue (some_gives t z q)) (sym (still z l)) (opens z l) in
    let mine : owns after m y ≡ true = ap (λ (v : ZoneState). is_owned_by v.owner m) (handed_is t s y (Some m) false y p there (nat_eq-self (space_of t y))) ∙ nat_eq-self m in
    put_known t s f y (Some m) false (λ z. zone_owned (posture_owned t m z) (need_of f z)) p
    (λ z l same.
    finds_zone t after f y z (changed_keeps t s m (Claim y) p k e) opens_still l same mine
    (subst (λ v. IsTrue (meets m (need_of f z) v)) (sym (handed_is t s y (Some m) false z p l same)) (meets_mine m (need_of f z) (zone_at s z) (zone_at s z).flag (known.zones z l))))
    known.zones
zones_learned t s f (Give y) p k opens known e =
    let m = f.machine in
    let d = give_done t s m y (done_none _ _ e) in
    let there = d.holder.caller.there in
    let g = gives_way t m y (posture_at s y) d.way (p.host_is_not_guest y there) d.is in
    let outward = gives_outward t m y (posture_at s y) d.way (p.host_is_not_guest y there) g.is g.giver in
    let to = Some (other_party t m y) in
    put_known t s f y to true (λ z. zone_given (nat_eq y z) (is_hosted t z m) (need_of f z)) p
    (λ z l same.
    subst (λ v. IsTrue (meets m (zone_given (nat_eq y z) (is_hosted t z m) (need_of f z)) v)) (sym (handed_is t s y to true z p l same))
    (meets_given m (nat_eq y z) (is_hosted t z m) (need_of f z) (zone_at s z) to ((true && nat_eq z y) || (zone_at s z).flag)
    (λ at h. let is = eqb-true y z at in ap (posture_at s) (sym is) ∙ outward (ap (host_of t) is ∙ eqb-true _ _ (and_parts _ _ h).1)) (known.zones z l)))
    known.zones
zones_learned t s f (Yield y) p k opens known e = left_known t s f y (Some (other_party t f.machine y)) p known
zones_learned t s f (Take y) p k opens known e =
    let m = f.machine in
    let d = take_done t s m y (done_none _ _ e) in
    let there = d.holder.caller.there in
    let comes = plate_comes t s y k there d.plate in
    let receiver : comes.way.receiver ≡ m = ap (λ o. unwrap_or o m) (sym comes.receiver ∙ d.holder.owner) in
    let way = takes_way t m y (posture_at s y) comes.way (p.host_is_not_guest y there) comes.is receiver in
    let v : ZoneState = record (zone_at s y) { flag = false } in
    put_cases (λ z u. z < zone_count t → IsTrue (meets m (zone_facts t f (Take y) z) u)) s.zones v free_zone y (in_ten t s y p k there)
    (λ _. subst (λ b. IsTrue (meets m (if b then zone_taken (nat_eq y y) (posture_taken t m y) (need_of f y) else need_of f y) v)) (sym (nat_eq-self (space_of t y)))
    (meets_taken m (nat_eq y y) (posture_taken t m y) (need_of f y) (zone_at s y) false d.holder.owns (λ _. way.posture) (known.zones y there)))
    (λ z ne l. if_either m (zone_taken (nat_eq y z) (posture_taken t m z) (need_of f z)) (need_of f z) (zone_at s z) (same_space t y z)
    (λ same. meets_taken m (nat_eq y z) (posture_taken t m z) (need_of f z) (zone_at s z) (zone_at s z).flag (owned_space t s m y z k l same d.holder.owns)
    (λ at. absurd (ne (sym (eqb-true y z at)))) (known.zones z l)) (known.zones z l))
zones_learned t s f (Release y) p k opens known e = left_known t s f y None p known
zones_learned t s f (SetPose q) p k opens known e = λ z l.
    let d = pose_done t s f.machine q (done_none _ _ e) in
    let owned : (is_moving_pose t q && is_hosted t z f.machine) ≡ true → owns s f.machine z ≡ true = λ h.
    let parts = and_parts (is_moving_pose t q) (is_hosted t z f.machine) h in
    owned_by_pose (nat_eq (host_of t z) f.machine) (is_moving_pose t q) _ (owns s f.machine z) (d.owned z l) (and_parts _ _ parts.1).1 parts.0 in
    subst (λ v. IsTrue (meets f.machine (zone_facts t f (SetPose q) z) v)) (sym (zone_after_pose t s q z p l))
    (meets_posed f.machine (is_moving_pose t q && is_hosted t z f.machine) (need_of f z).holds (posture_of t q z) (need_of f z).posture (zone_at s z) owned (known.zones z l))
zones_learned t s f (Inquire y) p k opens known e = never_done t s f.machine y e
zones_learned t s f Stop p k opens known e = known.zones
zones_learned t s f Resume p k opens known e = known.zones
zones_learned t s f (Advance y) p k opens known e = known.zones

-- ---- and of places

place_set : (t : PlanTable) (s : State) (f : Motor) (y : ℕ) (b : Bool) (tells : ℕ → Bool) → ((q : ℕ) → tells q ≡ nat_eq y q) → y < length s.full
    → ((q : ℕ) → q < place_count t → IsTrue (meets_place (place_need f q) (is_full s q)))
    → (q : ℕ) → q < place_count t → IsTrue (meets_place (if tells q then Some b else place_need f q) (get_or (set s.full y b) q false))
place_set t s f y b tells same l others q m =
    subst (λ x. IsTrue (meets_place (if x then Some b else place_need f q) (get_or (set s.full y b) q false))) (sym (same q))
    (put_cases (λ z u. z < place_count t → IsTrue (meets_place (if nat_eq y z then Some b else place_need f z) u)) s.full b false y l
    (λ _. subst (λ x. IsTrue (meets_place (if x then Some b else place_need f y) b)) (sym (nat_eq-self y)) (meets_itself b))
    (λ z ne n. subst (λ x. IsTrue (meets_place (if x then Some b else place_need f z) (is_full s z))) (sym (nat_eq-apart y z (λ e. ne (sym e)))) (others z n))
    q m)
  where
    meets_itself : (c : Bool) → IsTrue (meets_place (Some c) c)
    meets_itself true = refl
    meets_itself false = refl

-- a place that was filled is a source, and one that was emptied a sink
meets_turned : (source sink : Bool) (known : Option Bool) (full : Bool) → (full ≡ false → source ≡ true) → (full ≡ true → sink ≡ true) → IsTrue (meets_place known full)
    → IsTrue (meets_place (place_turned source sink known) (not full))
meets_turned true true None full g h k = refl
meets_turned true true (Some true) true g h k = refl
meets_turned true true (Some true) false g h k = cc
meets_turned true true (Some false) true g h k = cc
meets_turned true true (Some false) false g h k = refl
meets_turned true false known true g h k = let e : false ≡ true = h refl in cc
meets_turned true false known false g h k = refl
meets_turned false true known true g h k = refl
meets_turned false true known false g h k = let e : false ≡ true = g refl in cc
meets_turned false false known true g h k = let e : false ≡ true = h refl in cc
meets_turned false false known false g h k = let e : false ≡ true = g refl in cc

places_learned : (t : PlanTable) (s : State) (f : Motor) (c : Call) → IsPlan t → IsSound t s → Knows t s f → reply t s f.machine c ≡ Done
    → (q : ℕ) → q < place_count t → IsTrue (meets_place (place_facts t f c q) (is_full (changed t s f.machine c) q))
places_learned t s f (Give y) p k known e = λ q m.
    let d = give_done t s f.machine y (done_none _ _ e) in
    let l = d.holder.caller.there in
    let g = gives_way t f.machine y (posture_at s y) d.way (p.host_is_not_guest y l) d.is in
    let leads = way_leads t p y (posture_at s y) d.way l g.is in
    let begins = given_begins t f.machine y (posture_at s y) d.way (p.host_is_not_guest y l) g.is g.giver in
    subst (λ o. IsTrue (meets_place (place_facts t f (Give y) q) (get_or (emptied s.full o) q false))) (sym d.is)
    (place_set t s f d.way.from false (begins_at (way_given t f.machine y)) begins (in_sixteen t s d.way.from p k leads.from) known.places q m)
places_learned t s f (Take y) p k known e = λ q m.
    let d = take_done t s f.machine y (done_none _ _ e) in
    let l = d.holder.caller.there in
    let comes = plate_comes t s y k l d.plate in
    let leads = way_leads t p y (posture_at s y) comes.way l comes.is in
    let mine : comes.way.receiver ≡ f.machine = ap (λ o. unwrap_or o f.machine) (sym comes.receiver ∙ d.holder.owner) in
    let way = takes_way t f.machine y (posture_at s y) comes.way (p.host_is_not_guest y l) comes.is mine in
    subst (λ o. IsTrue (meets_place (place_facts t f (Take y) q) (get_or (filled s.full o) q false))) (sym comes.is)
    (place_set t s f comes.way.to true (ends_at (way_taken t f.machine y)) way.ends (in_sixteen t s comes.way.to p k leads.to) known.places q m)
places_learned t s f (Advance y) p k known e = λ q m.
    let d = advance_done t s f.machine y (done_none _ _ e) in
    let turned : ℕ → Option Bool = λ z. place_turned (is_source t y) (is_sink t y) (place_need f z) in
    let full = not (is_full s y) in
    let here = meets_turned (is_source t y) (is_sink t y) (place_need f y) (is_full s y) (λ none. (comes t s f.machine y d none).0) (λ some. goes t s f.machine y d some) (known.places y d.there) in
    put_cases (λ z u. z < place_count t → IsTrue (meets_place (if nat_eq y z then turned z else place_need f z) u)) s.full full false y (in_sixteen t s y p k d.there)
    (λ _. subst (λ x. IsTrue (meets_place (if x then turned y else place_need f y) full)) (sym (nat_eq-self y)) here)
    (λ z ne n. subst (λ x. IsTrue (meets_place (if x then turned z else place_need f z) (is_full s z))) (sym (nat_eq-apart y z (λ e. ne (sym e)))) (known.places z n))
    q m
places_learned t s f (Inquire y) p k known e = never_done t s f.machine y e
places_learned t s f _ p k known e = known.places

-- ---- what is learned no other machine can change

kept_left : (t : PlanTable) (m : ℕ) (n : ZoneNeed) (z : ℕ) → (b : Bool) → is_hosted t z m ≡ b → IsKept t m (zone_left b n) z
kept_left t m n z true h some = h
kept_left t m n z false h some = cc

kept_given : (t : PlanTable) (m : ℕ) (here : Bool) (n : ZoneNeed) (z : ℕ) → (b : Bool) → is_hosted t z m ≡ b → IsKept t m (zone_given here b n) z
kept_given t m here n z true h some = h
kept_given t m here n z false h some = cc

kept_if : (t : PlanTable) (m : ℕ) (a b : ZoneNeed) (z : ℕ) (test : Bool) → IsKept t m a z → IsKept t m b z → IsKept t m (if test then a else b) z
kept_if t m a b z true x y = x
kept_if t m a b z false x y = y

kept_posed : (t : PlanTable) (m : ℕ) (owned holds : Bool) (given known : Option Posture) (z : ℕ) → (is_some given ≡ true → is_hosted t z m ≡ true)
    → IsKept t m (record { holds = holds; posture = known }) z → IsKept t m (zone_posed owned given (record { holds = holds; posture = known })) z
kept_posed t m true holds given known z host k some = refl
kept_posed t m false holds None known z host k some = k some
kept_posed t m false true (Some q) known z host k some = refl
kept_posed t m false false (Some q) known z host k some = host refl

given_posture : (o : Option Posture) → is_some o ≡ true → (q : Posture) × (o ≡ Some q)
given_posture None e = cc
given_posture (Some q) e = (q, refl)

zones_kept : (t : PlanTable) (s : State) (f : Motor) (c : Call) → IsPlan t → Knows t s f → reply t s f.machine c ≡ Done → (z : ℕ) → z < zone_count t → IsKept t f.machine (zone_facts t f c z) z
zones_kept t s f (Claim y) p known e = λ z l. kept_if t f.machine (zone_owned (posture_owned t f.machine z) (need_of f z)) (need_of f z) z (same_space t y z) (λ _. refl) (known.kept z l)
zones_kept t s f (Give y) p known e = λ z l. kept_if t f.machine (zone_given (nat_eq y z) (is_hosted t z f.machine) (need_of f z)) (need_of f z) z (same_space t y z) (kept_given t f.machine (nat_eq y z) (need_of f z) z _ refl) (known.kept z l)
zones_kept t s f (Yield y) p known e = λ z l. kept_if t f.machine (zone_left (is_hosted t z f.machine) (need_of f z)) (need_of f z) z (same_space t y z) (kept_left t f.machine (need_of f z) z _ refl) (known.kept z l)
zones_kept t s f (Take y) p known e = λ z l. kept_if t f.machine (zone_taken (nat_eq y z) (posture_taken t f.machine z) (need_of f z)) (need_of f z) z (same_space t y z) (λ _. refl) (known.kept z l)
zones_kept t s f (Release y) p known e = λ z l. kept_if t f.machine (zone_left (is_hosted t z f.machine) (need_of f z)) (need_of f z) z (same_space t y z) (kept_left t f.machine (need_of f z) z _ refl) (known.kept z l)
zones_kept t s f (SetPose q) p known e = λ z l.
    let d = pose_done t s f.machine q (done_none _ _ e) in
    let host : is_some (posture_of t q z) ≡ true → is_hosted t z f.machine ≡ true = λ some.
    let given = given_posture (posture_of t q z) some in
    let fits = p.pose_of_host q z given.0 d.there (ten t z p l) given.1 in
    rw (lt-ltb z (zone_count t) l, eq-eqb (host_of t z) f.machine (fits.1 ∙ d.machine)) refl in
    kept_posed t f.machine (is_moving_pose t q && is_hosted t z f.machine) (need_of f z).holds (posture_of t q z) (need_of f z).posture z host (known.kept z l)
zones_kept t s f (Inquire y) p known e = known.kept
zones_kept t s f Stop p known e = known.kept
zones_kept t s f Resume p known e = known.kept
zones_kept t s f (Advance y) p known e = known.kept

place_kept : (t : PlanTable) (f : Motor) (y : ℕ) (b : Bool) (tells : Bool) (q : ℕ) → tells ≡ nat_eq y q → y < place_count t → keeper_of t y ≡ f.machine
    → (is_some (place_need f q) ≡ true → is_place_of t q f.machine ≡ true) → is_some (if tells then Some b else place_need f q) ≡ true → is_place_of t q f.machine ≡ true
place_kept t f y b true q same l mine old some =
    let is : y ≡ q = eqb-true y q (sym same) in
    subst (λ x. is_place_of t x f.machine ≡ true) is (rw (lt-ltb y (place_count t) l, eq-eqb (keeper_of t y) f.machine mine) refl)
place_kept t f y b false q same l mine old some = old some

advanced_own : (t : PlanTable) (f : Motor) (y : ℕ) (o : Option Bool) (tells : Bool) (q : ℕ) → tells ≡ nat_eq y q → y < place_count t → keeper_of t y ≡ f.machine
    → (is_some (place_need f q) ≡ true → is_place_of t q f.machine ≡ true) → is_some (if tells then o else place_need f q) ≡ true → is_place_of t q f.machine ≡ true
advanced_own t f y o true q same l mine old some =
    let is : y ≡ q = eqb-true y q (sym same) in
    subst (λ x. is_place_of t x f.machine ≡ true) is (rw (lt-ltb y (place_count t) l, eq-eqb (keeper_of t y) f.machine mine) refl)
advanced_own t f y o false q same l mine old some = old some

places_own : (t : PlanTable) (s : State) (f : Motor) (c : Call) → IsPlan t → IsSound t s → Knows t s f → reply t s f.machine c ≡ Done
    → (q : ℕ) → q < place_count t → is_some (place_facts t f c q) ≡ true → is_place_of t q f.machine ≡ true
places_own t s f (Give y) p k known e = λ q m.
    let d = give_done t s f.machine y (done_none _ _ e) in
    let l = d.holder.caller.there in
    let g = gives_way t f.machine y (posture_at s y) d.way (p.host_is_not_guest y l) d.is in
    let leads = way_leads t p y (posture_at s y) d.way l g.is in
    let begins = given_begins t f.machine y (posture_at s y) d.way (p.host_is_not_guest y l) g.is g.giver in
    place_kept t f d.way.from false (begins_at (way_given t f.machine y) q) q (begins q) leads.from (leads.from_giver ∙ g.giver) (known.own q m)
places_own t s f (Take y) p k known e = λ q m.
    let d = take_done t s f.machine y (done_none _ _ e) in
    let l = d.holder.caller.there in
    let comes = plate_comes t s y k l d.plate in
    let leads = way_leads t p y (posture_at s y) comes.way l comes.is in
    let mine : comes.way.receiver ≡ f.machine = ap (λ o. unwrap_or o f.machine) (sym comes.receiver ∙ d.holder.owner) in
    let way = takes_way t f.machine y (posture_at s y) comes.way (p.host_is_not_guest y l) comes.is mine in
    place_kept t f comes.way.to true (ends_at (way_taken t f.machine y) q) q (way.ends q) leads.to (leads.to_receiver ∙ mine) (known.own q m)
places_own t s f (Advance y) p k known e = λ q m.
    let d = advance_done t s f.machine y (done_none _ _ e) in
    advanced_own t f y (place_turned (is_source t y) (is_sink t y) (place_need f q)) (nat_eq y q) q refl d.there d.keeper (known.own q m)
places_own t s f _ p k known e = known.own

-- ---- after a done call of its own the machine knows what it has learned

-- what is so of each zone and place is what is known
learned : (t : PlanTable) (s : State) (f : Motor) (c : Call) → IsPlan t
    → ((z : ℕ) → z < zone_count t → IsTrue (meets f.machine (zone_facts t f c z) (zone_at s z)))
    → ((q : ℕ) → q < place_count t → IsTrue (meets_place (place_facts t f c q) (is_full s q)))
    → ((z : ℕ) → z < zone_count t → IsKept t f.machine (zone_facts t f c z) z)
    → ((q : ℕ) → q < place_count t → is_some (place_facts t f c q) ≡ true → is_place_of t q f.machine ≡ true)
    → Knows t s (facts_after t f c)
learned t s f c p zones places kept own =
    let zone : (z : ℕ) → z < zone_count t → zone_facts t f c z ≡ need_of (facts_after t f c) z = λ z l. sym (get_or-map-range_with_len (zone_facts t f c) 0 10 z z no_need (ten t z p l) (omega arith)) in
    let place : (q : ℕ) → q < place_count t → place_facts t f c q ≡ place_need (facts_after t f c) q = λ q l. sym (get_or-map-range_with_len (place_facts t f c) 0 16 q q None (sixteen t q p l) (omega arith)) in
    record {
      zones = λ z l. subst (λ n. IsTrue (meets f.machine n (zone_at s z))) (zone z l) (zones z l);
      places = λ q l. subst (λ n. IsTrue (meets_place n (is_full s q))) (place q l) (places q l);
      kept = λ z l. subst (λ n. IsKept t f.machine n z) (zone z l) (kept z l);
      own = λ q l. subst (λ n. is_some n ≡ true → is_place_of t q f.machine ≡ true) (place q l) (own q l);
    }

pub learns : (t : PlanTable) (s : State) (f : Motor) (c : Call) → IsPlan t → IsSound t s → OpensByPoses t s → Knows t s f → reply t s f.machine c ≡ Done → Knows t (changed t s f.machine c) (facts_after t f c)
learns t s f c p k opens known e =
    learned t (changed t s f.machine c) f c p (zones_learned t s f c p k opens known e) (places_learned t s f c p k known e) (zones_kept t s f c p known e) (places_own t s f c p k known e)

-- ---- a zone that it owns, as it has found out

pub finds : (t : PlanTable) (s : State) (f : Motor) (y : ℕ) → IsPlan t → IsSound t s → OpensByPoses t s → Knows t s f → owns s f.machine y ≡ true → Knows t s (facts_after t f (Claim y))
finds t s f y p k opens known mine =
    let m = f.machine in
    learned t s f (Claim y) p
    (λ z l. if_either m (zone_owned (posture_owned t m z) (need_of f z)) (need_of f z) (zone_at s z) (same_space t y z) (λ same. finds_zone t s f y z k opens l same mine (known.zones z l)) (known.zones z l))
    known.places
    (λ z l. kept_if t m (zone_owned (posture_owned t m z) (need_of f z)) (need_of f z) z (same_space t y z) (λ _. refl) (known.kept z l))
    known.own
