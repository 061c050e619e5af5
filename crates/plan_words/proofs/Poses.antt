-- A pose of the plan is answered as the pose on its group's word; and so is each call.
use Rattle.std.proofs.Common.{◌≡◌, ℕ, ◌<◌, inl, inr, Bool, true, false, ◌&&◌, ◌||◌, not, nat_eq, nat_lt, length, Option, Some, None, option_map, unwrap_or, refl, sym, ap, ◌∙◌}
use Rattle.std.proofs.lemmas.Bool.{lt-ltb, eqb-true, and_parts, false_from_ne_true}
use Rattle.std.specs.Bool.{then_some}
use Rattle.plan_types.specs.declared.posture.Posture.{Posture}
use Rattle.plan_types.specs.declared.posture.Posture.TheVariants.{Closed, Moving, OpenIn, OpenOut}
use Rattle.plan_types.specs.declared.answer.Refusal.{Refusal}
use Rattle.plan_types.specs.declared.answer.Refusal.TheVariants.{NotParty, NotOwner, PlateInZone, NoPlate, PlaceFull, Jump, NoPose, Worn, Stopped, NotStopped}
use Rattle.plan_types.specs.declared.answer.Answer.{Answer}
use Rattle.plan_types.specs.declared.answer.Answer.TheVariants.{Shown}
use Rattle.plan_types.specs.declared.call.Call.{Call}
use Rattle.plan_types.specs.declared.call.Call.TheVariants.{Claim, Give, Yield, Take, Release, SetPose, Inquire, Stop, Resume, Advance}
use Rattle.plan_types.specs.Same.{same_posture}
use Rattle.plan_types.specs.Below.{first_below, any_below}
use Rattle.plan_types.specs.Table.{PlanTable, zone_count, pose_count, host_of, machine_of, pose_row, posture_of, transfer_of, has_pose, is_moving_pose}
use Rattle.plan_types.specs.Plan.{IsPlan}
use Rattle.plan_rules.specs.declared.state.ZoneState.{ZoneState}
use Rattle.plan_rules.specs.declared.state.State.{State}
use Rattle.plan_rules.specs.State.{owner_of, posture_at, space_has_plate}
use Rattle.plan_rules.specs.Sound.{is_owned_by}
use Rattle.plan_rules.specs.Refusals.{owns, take_refusal, inquire_refusal, pose_refusal, first_zone, unowned_by_pose, plate_under_pose, jump, opens_onto_plate, is_concerned, posture_with, stands_at, is_onto_taken}
use Rattle.plan_rules.specs.Reply.{refusal, accepted, answer_by}
use Rattle.plan_words.specs.Group.{Group, zone_out, pose_out, LooksAt, IsGroup, IsTableOf}
use Rattle.plan_words.specs.Words.{call_out, IsCallOf, refusal_out, answer_out, IsIn, seen_by, AnsweredAlike}
use Rattle.plan_words.proofs.Below.{Misses, tests_alike, firsts_alike}
use Rattle.plan_words.proofs.Answers.{Given, Alike, either, then_same, fixed, on, host_same, transfer_same, ways_in, onto_same, rising_zones, space_plate_same, lt_true, not_party_same, owner_same, claim_same, give_same, yield_same, release_same, advance_same}

pub take_same : (t : PlanTable) (g : Group) (u : PlanTable) (s whole : State) → Given t g u s whole → (m i : ℕ) → i < length g.zones
    → Alike g (take_refusal t (seen_by s whole) m (zone_out g i)) (take_refusal u s m i)
take_same t g u s whole k m i l =
    either (either (either
    (not_party_same t g u s whole k m i l)
    (owner_same t g u s whole k m i l))
    (fixed g _ _ NoPlate (ap (λ (v : ZoneState). not v.flag) (k.is_in.zone i l)) refl))
    (fixed g _ _ Worn refl refl)

inquire_same : (t : PlanTable) (g : Group) (u : PlanTable) → IsGroup t g → IsTableOf t g u → (i : ℕ) → i < length g.zones → Alike g (inquire_refusal t (zone_out g i)) (inquire_refusal u i)
inquire_same t g u k b i l = fixed g _ _ NotParty (ap not (lt-ltb (zone_out g i) (zone_count t) (k.zones.below i l) ∙ sym (lt_true i (length g.zones) (zone_count u) l b.zone_count))) refl

-- ---- a zone that isn't the group's, by a pose of the group that the caller has

-- what the pose doesn't do there
pub record Leaves (t : PlanTable) (m p z : ℕ) : Type 0 where
  pub posture : posture_of t p z ≡ None
  pub moves : nat_eq (host_of t z) m ≡ true → is_moving_pose t p ≡ false
  pub jumps : nat_eq (host_of t z) m ≡ true → (pose_row t p).after_moving ≡ false

none_or : {A : Type 0} (o : Option A) → ((a : A) → o ≡ Some a → ⊥) → o ≡ None
none_or None h = refl
none_or (Some a) h = absurd (h a refl)

pub leaves : (t : PlanTable) (g : Group) (m k z : ℕ) → IsGroup t g → k < length g.poses → machine_of t (pose_out g k) ≡ m → z < zone_count t
    → Misses (zone_out g) (length g.zones) z → Leaves t m (pose_out g k) z
leaves t g m k z is l own in_plan miss =
    let p = pose_out g k in
    let not_looked : LooksAt t p z → ⊥ = λ looks. let has = is.by_pose p z (k, l, refl) in_plan looks in miss (has.0) (has.1) (has.2) in
    record {
      posture = none_or (posture_of t p z) (λ q e. not_looked (inl (q, e)));
      moves = λ host. false_from_ne_true (is_moving_pose t p) (λ e. not_looked (inr (inl e, eqb-true _ _ host ∙ sym own)));
      jumps = λ host. false_from_ne_true (pose_row t p).after_moving (λ e. not_looked (inr (inr e, eqb-true _ _ host ∙ sym own)));
    }

same_self : (q : Posture) → same_posture q q ≡ true
same_self Closed = refl
same_self Moving = refl
same_self OpenIn = refl
same_self OpenOut = refl

unconcerned_by : (b moving : Bool) (given : Option Posture) (q : Posture) → given ≡ None → (b ≡ true → moving ≡ false)
    → (b && (moving || not (same_posture (unwrap_or given q) q))) ≡ false
unconcerned_by false moving given q e f = refl
unconcerned_by true moving given q e f = rw (f refl, e, same_self q) refl

unconcerned : (t : PlanTable) (s : State) (m p z : ℕ) → Leaves t m p z → is_concerned t s m p z ≡ false
unconcerned t s m p z k = unconcerned_by (nat_eq (host_of t z) m) (is_moving_pose t p) (posture_of t p z) (posture_at s z) k.posture k.moves

unopened_by : (given : Option Posture) (q : Posture) (taken : Bool) → given ≡ None → (same_posture (unwrap_or given q) OpenIn && not (same_posture q OpenIn) && taken) ≡ false
unopened_by given q taken e = rw e (by q taken)
  where
    by : (q : Posture) (taken : Bool) → (same_posture q OpenIn && not (same_posture q OpenIn) && taken) ≡ false
    by Closed taken = refl
    by Moving taken = refl
    by OpenIn taken = refl
    by OpenOut taken = refl

-- ---- the same, zone by zone of the group

pub posture_same : (t : PlanTable) (g : Group) (u : PlanTable) (s whole : State) → Given t g u s whole → (k i : ℕ) → k < length g.poses → i < length g.zones
    → posture_with t (seen_by s whole) (pose_out g k) (zone_out g i) ≡ posture_with u s k i
posture_same t g u s whole v k i l h =
    ap (λ x. unwrap_or x (posture_at whole (zone_out g i))) (v.table.gives k i l h) ∙ ap (λ (x : ZoneState). unwrap_or (posture_of u k i) x.posture) (v.is_in.zone i h)

concern_by : (m a b : ℕ) (c d : Bool) (e f x y : Posture) → a ≡ b → c ≡ d → e ≡ f → x ≡ y
    → (nat_eq a m && (c || not (same_posture e x))) ≡ (nat_eq b m && (d || not (same_posture f y)))
concern_by m a b c d e f x y host moves with_it now =
    ap (λ n. nat_eq n m && (c || not (same_posture e x))) host
    ∙ (ap (λ w. nat_eq b m && (w || not (same_posture e x))) moves
    ∙ (ap (λ w. nat_eq b m && (d || not (same_posture w x))) with_it
    ∙ ap (λ w. nat_eq b m && (d || not (same_posture f w))) now))

open_by : (c d : Bool) (e f x y : Posture) → c ≡ d → e ≡ f → x ≡ y
    → (same_posture e OpenIn && not (same_posture x OpenIn) && c) ≡ (same_posture f OpenIn && not (same_posture y OpenIn) && d)
open_by c d e f x y onto with_it now =
    ap (λ w. same_posture w OpenIn && not (same_posture x OpenIn) && c) with_it
    ∙ (ap (λ w. same_posture f OpenIn && not (same_posture w OpenIn) && c) now
    ∙ ap (λ w. same_posture f OpenIn && not (same_posture y OpenIn) && w) onto)

concerned_same : (t : PlanTable) (g : Group) (u : PlanTable) (s whole : State) → Given t g u s whole → (m k i : ℕ) → k < length g.poses → i < length g.zones
    → is_concerned t (seen_by s whole) m (pose_out g k) (zone_out g i) ≡ is_concerned u s m k i
concerned_same t g u s whole v m k i l h =
    concern_by m _ _ _ _ _ _ _ _ (host_same t g u v.table i h) (v.table.moves k l) (posture_same t g u s whole v k i l h) (ap (λ (x : ZoneState). x.posture) (v.is_in.zone i h))

unowned_same : (t : PlanTable) (g : Group) (u : PlanTable) (s whole : State) → Given t g u s whole → (m k i : ℕ) → k < length g.poses → i < length g.zones
    → Alike g (unowned_by_pose t (seen_by s whole) m (pose_out g k) (zone_out g i)) (unowned_by_pose u s m k i)
unowned_same t g u s whole v m k i l h =
    then_same g _ _ _ (NotOwner (owner_of s i)) (ap (λ x. x && not (owns (seen_by s whole) m (zone_out g i))) (concerned_same t g u s whole v m k i l h)
    ∙ ap (λ (z : ZoneState). is_concerned u s m k i && not (is_owned_by z.owner m)) (v.is_in.zone i h)) (ap (λ (z : ZoneState). NotOwner z.owner) (v.is_in.zone i h))

plate_under_same : (t : PlanTable) (g : Group) (u : PlanTable) (s whole : State) → Given t g u s whole → (m k i : ℕ) → k < length g.poses → i < length g.zones
    → Alike g (plate_under_pose t (seen_by s whole) m (pose_out g k) (zone_out g i)) (plate_under_pose u s m k i)
plate_under_same t g u s whole v m k i l h =
    then_same g _ _ (PlateInZone (zone_out g i)) (PlateInZone i) (ap (λ x. x && space_has_plate t (seen_by s whole) (zone_out g i)) (concerned_same t g u s whole v m k i l h)
    ∙ ap (λ x. is_concerned u s m k i && x) (space_plate_same t g u s whole v i h)) refl

opens_same : (t : PlanTable) (g : Group) (u : PlanTable) (s whole : State) → Given t g u s whole → (k i : ℕ) → k < length g.poses → i < length g.zones
    → Alike g (opens_onto_plate t (seen_by s whole) (pose_out g k) (zone_out g i)) (opens_onto_plate u s k i)
opens_same t g u s whole v k i l h =
    let onto = ap (is_onto_taken t (seen_by s whole)) (transfer_same t g u v.table i OpenIn h) ∙ onto_same t g u s whole v (transfer_of u i OpenIn) (λ way is. (ways_in t g u v.table v.plan i OpenIn way h is).1) in
    fixed g _ _ PlaceFull (open_by _ _ _ _ _ _ onto (posture_same t g u s whole v k i l h) (ap (λ (x : ZoneState). x.posture) (v.is_in.zone i h))) refl

first_same : (t : PlanTable) (g : Group) (u : PlanTable) (s whole : State) → Given t g u s whole → (f h : ℕ → Option Refusal)
    → ((i : ℕ) → i < length g.zones → Alike g (f (zone_out g i)) (h i)) → ((z : ℕ) → z < zone_count t → Misses (zone_out g) (length g.zones) z → f z ≡ None)
    → Alike g (first_zone t f) (first_zone u h)
first_same t g u s whole v f h same none = record {
  is = firsts_alike (refusal_out g) f h (zone_out g) (zone_count t) (length g.zones) (rising_zones t g v.group) (λ i l. (same i l).is) none
      ∙ ap (λ n. option_map (refusal_out g) (first_below h n)) (sym v.table.zone_count);
}

jump_by : (g : Group) (after there here : Bool) → (after ≡ true → there ≡ here) → Alike g (then_some (after && there) Jump) (then_some (after && here) Jump)
jump_by g true there here e = fixed g _ _ Jump (e refl) refl
jump_by g false there here e = fixed g false false Jump refl refl

stands_by : (b : Bool) (x : Bool) → (b ≡ true → ⊥) → (b && x) ≡ false
stands_by true x never = absurd (never refl)
stands_by false x never = refl

jump_same : (t : PlanTable) (g : Group) (u : PlanTable) (s whole : State) → Given t g u s whole → (m k : ℕ) → k < length g.poses → machine_of t (pose_out g k) ≡ m
    → Alike g (jump t (seen_by s whole) m (pose_out g k)) (jump u s m k)
jump_same t g u s whole v m k l own =
    let there = any_below (stands_at t (seen_by s whole) m) (zone_count t) in
    let here = any_below (stands_at u s m) (zone_count u) in
    let same : (pose_row u k).after_moving ≡ true → there ≡ here = λ after.
    tests_alike (stands_at t (seen_by s whole) m) (stands_at u s m) (zone_out g) (zone_count t) (length g.zones) (rising_zones t g v.group)
    (λ i h. ap (λ n. nat_eq n m && not (same_posture (posture_at whole (zone_out g i)) Moving)) (host_same t g u v.table i h)
    ∙ ap (λ (x : ZoneState). nat_eq (host_of u i) m && not (same_posture x.posture Moving)) (v.is_in.zone i h))
    (λ z in_plan miss. stands_by (nat_eq (host_of t z) m) (not (same_posture (posture_at whole z) Moving)) (λ host.
    let left = (leaves t g m k z v.group l own in_plan miss).jumps host in
    let after_there = v.table.after_moving k l ∙ after in
    true_false _ after_there left))
    ∙ ap (any_below (stands_at u s m)) (sym v.table.zone_count) in
    on g (λ x. then_some (x && there) Jump) _ _ _ (v.table.after_moving k l) (jump_by g (pose_row u k).after_moving there here same)
  where
    true_false : (b : Bool) → b ≡ true → b ≡ false → ⊥
    true_false b e f = let h = sym e ∙ f in cc

-- the caller has the pose, or hasn't
has_same : (t : PlanTable) (g : Group) (u : PlanTable) → IsGroup t g → IsTableOf t g u → (m k : ℕ) → k < length g.poses → has_pose t m (pose_out g k) ≡ has_pose u m k
has_same t g u v b m k l =
    rw (lt-ltb (pose_out g k) (pose_count t) (v.poses.below k l), lt_true k (length g.poses) (pose_count u) l b.pose_count, b.machine k l) refl

own_pose : (t : PlanTable) (m p : ℕ) → has_pose t m p ≡ true → machine_of t p ≡ m
own_pose t m p e = eqb-true _ _ (and_parts (nat_lt p (pose_count t)) (nat_eq (machine_of t p) m) e).1

pose_by : (t : PlanTable) (g : Group) (u : PlanTable) (s whole : State) → Given t g u s whole → (m k : ℕ) → k < length g.poses → (b : Bool) → has_pose t m (pose_out g k) ≡ b
    → Alike g (pose_refusal t (seen_by s whole) m (pose_out g k)) (pose_refusal u s m k)
pose_by t g u s whole v m k l false lacks =
    let lacks_too : has_pose u m k ≡ false = sym (has_same t g u v.group v.table m k l) ∙ lacks in
    record { is = rw (lacks, lacks_too) refl }
pose_by t g u s whole v m k l true has =
    let p = pose_out g k in
    let own = own_pose t m p has in
    let left : (z : ℕ) → z < zone_count t → Misses (zone_out g) (length g.zones) z → Leaves t m p z = λ z in_plan miss. leaves t g m k z v.group l own in_plan miss in
    let w = seen_by s whole in
    either (either (either (either (either (either
    (fixed g _ _ NoPose (ap not (has_same t g u v.group v.table m k l)) refl)
    (fixed g _ _ Stopped (ap (λ x. x && s.stopped) (v.table.moves k l)) refl))
    (first_same t g u s whole v (unowned_by_pose t w m p) (unowned_by_pose u s m k) (λ i h. unowned_same t g u s whole v m k i l h)
    (λ z n miss. ap (λ x. then_some (x && not (owns w m z)) (NotOwner (owner_of w z))) (unconcerned t w m p z (left z n miss)))))
    (first_same t g u s whole v (plate_under_pose t w m p) (plate_under_pose u s m k) (λ i h. plate_under_same t g u s whole v m k i l h)
    (λ z n miss. ap (λ x. then_some (x && space_has_plate t w z) (PlateInZone z)) (unconcerned t w m p z (left z n miss)))))
    (jump_same t g u s whole v m k l own))
    (first_same t g u s whole v (opens_onto_plate t w p) (opens_onto_plate u s k) (λ i h. opens_same t g u s whole v k i l h)
    (λ z n miss. ap (λ x. then_some x PlaceFull) (unopened_by (posture_of t p z) (posture_at w z) (is_onto_taken t w (transfer_of t z OpenIn)) (left z n miss).posture))))
    (fixed g _ _ Worn refl refl)

-- ---- each call

refusal_same : (t : PlanTable) (g : Group) (u : PlanTable) (s whole : State) → Given t g u s whole → (m : ℕ) (c : Call) → IsCallOf g c
    → Alike g (refusal t (seen_by s whole) m (call_out g c)) (refusal u s m c)
refusal_same t g u s whole v m (Claim i) l = claim_same t g u s whole v m i l
refusal_same t g u s whole v m (Give i) l = give_same t g u s whole v m i l
refusal_same t g u s whole v m (Yield i) l = yield_same t g u s whole v m i l
refusal_same t g u s whole v m (Take i) l = take_same t g u s whole v m i l
refusal_same t g u s whole v m (Release i) l = release_same t g u s whole v m i l
refusal_same t g u s whole v m (SetPose k) l = pose_by t g u s whole v m k l (has_pose t m (pose_out g k)) refl
refusal_same t g u s whole v m (Inquire i) l = inquire_same t g u v.group v.table i l
refusal_same t g u s whole v m Stop l = either (either (fixed g _ _ NotParty refl refl) (fixed g s.stopped s.stopped Stopped refl refl)) (fixed g _ _ Worn refl refl)
refusal_same t g u s whole v m Resume l = either (either (fixed g _ _ NotParty refl refl) (fixed g _ _ NotStopped refl refl)) (fixed g _ _ Worn refl refl)
refusal_same t g u s whole v m (Advance j) l = advance_same t g u s whole v m j l

accepted_same : (g : Group) (s whole : State) → IsIn g s whole → (c : Call) → IsCallOf g c → accepted (seen_by s whole) (call_out g c) ≡ answer_out g (accepted s c)
accepted_same g s whole v (Inquire i) l = ap (λ (z : ZoneState). Shown z.owner z.flag z.posture) (v.zone i l)
accepted_same g s whole v (Claim i) l = refl
accepted_same g s whole v (Give i) l = refl
accepted_same g s whole v (Yield i) l = refl
accepted_same g s whole v (Take i) l = refl
accepted_same g s whole v (Release i) l = refl
accepted_same g s whole v (SetPose k) l = refl
accepted_same g s whole v Stop l = refl
accepted_same g s whole v Resume l = refl
accepted_same g s whole v (Advance j) l = refl

answer_same : (g : Group) (r q : Option Refusal) (a b : Answer) → Alike g r q → a ≡ answer_out g b → answer_by r a ≡ answer_out g (answer_by q b)
answer_same g r None a b e f = ap (λ x. answer_by x a) e.is ∙ f
answer_same g r (Some q) a b e f = ap (λ x. answer_by x a) e.is

pub answered_alike : (t : PlanTable) (g : Group) (u : PlanTable) → IsGroup t g → IsTableOf t g u → IsPlan u → AnsweredAlike t g u
answered_alike t g u k b p s whole m c is_in l =
    let v : Given t g u s whole = record { group = k; table = b; plan = p; is_in = is_in } in
    answer_same g (refusal t (seen_by s whole) m (call_out g c)) (refusal u s m c) (accepted (seen_by s whole) (call_out g c)) (accepted s c)
    (refusal_same t g u s whole v m c l) (accepted_same g s whole is_in c l)
