-- What holds in the state before a Done event.
use Rattle.std.proofs.Common.{◌≡◌, ◌≢◌, ℕ, ◌<◌, Bool, true, false, ◌&&◌, ◌||◌, not, nat_eq, Some, None, unwrap_or, List, ◌∷◌, ◌++◌, refl, sym, ap, ◌∙◌, subst}
use Rattle.std.proofs.lemmas.Bool.{false_from_ne_true}
use Rattle.plan_types.specs.declared.posture.Posture.TheVariants.{Moving, OpenIn}
use Rattle.plan_types.specs.declared.table.Transfer.{Transfer}
use Rattle.plan_types.specs.declared.call.Call.{Call}
use Rattle.plan_types.specs.declared.call.Call.TheVariants.{Give, Yield, Take, Release, SetPose, Advance}
use Rattle.plan_types.specs.declared.answer.Refusal.TheVariants.{PlaceFull}
use Rattle.plan_types.specs.declared.answer.Event.{Event}
use Rattle.plan_types.specs.Same.{same_posture, one_posture}
use Rattle.plan_types.specs.Below.{any_below}
use Rattle.plan_types.specs.Table.{PlanTable, zone_count, host_of, transfer_of, posture_of, pose_row, is_moving_pose}
use Rattle.plan_types.specs.Plan.{IsPlan}
use Rattle.plan_rules.specs.declared.state.State.{State}
use Rattle.plan_rules.specs.State.{owner_of, posture_at, plates_for, space_has_plate}
use Rattle.plan_rules.specs.Sound.{IsSound}
use Rattle.plan_rules.specs.Refusals.{owns, posture_with, is_concerned, stands_at, is_onto_taken, opens_onto_plate}
use Rattle.plan_rules.specs.History.{after, IsLegal}
use Rattle.plan_rules.specs.Laws.{PosesFit, HandoverByHolder, AdvancesFit, HasZone, done}
use Rattle.plan_rules.proofs.lemmas.Below.{any_below_none}
use Rattle.plan_rules.proofs.lemmas.Puts.{nat_eq-self}
use Rattle.plan_rules.proofs.lemmas.Zones.{owner_is}
use Rattle.plan_rules.proofs.lemmas.Spaces.{clear_zone}
use Rattle.plan_rules.proofs.Given.{gives_moving}
use Rattle.plan_rules.proofs.lemmas.DoneCalls.{none_then, pose_done, give_done, yield_done, take_done, release_done, advance_done, Poses, Holder, Advances}
use Rattle.plan_rules.proofs.lemmas.Advancing.{comes, goes}
use Rattle.plan_rules.proofs.lemmas.Plates.{no_plates}
use Rattle.plan_rules.proofs.lemmas.Soundness.{done_none, unless}
use Rattle.plan_rules.proofs.Histories.{legal-left, replies_done}
use Rattle.plan_rules.proofs.Holders.{holds_iff_owns}

-- ---- poses

moves : (a b : Bool) → (a && not b) ≡ false → a ≡ true → b ≡ true
moves true true e f = refl
moves true false e f = cc
moves false b e f = cc

pub no_jump : (t : PlanTable) (s : State) (m p : ℕ) → Poses t s m p → (pose_row t p).after_moving ≡ true → (z : ℕ) → z < zone_count t → host_of t z ≡ m → posture_at s z ≡ Moving
no_jump t s m p f after_moving z l host =
    let none = unless (pose_row t p).after_moving (any_below (stands_at t s m) (zone_count t)) f.no_jump after_moving in
    let own : nat_eq (host_of t z) m ≡ true = ap (nat_eq (host_of t z)) (sym host) ∙ nat_eq-self (host_of t z) in
    one_posture _ _ (moves (nat_eq (host_of t z) m) (same_posture (posture_at s z) Moving) (any_below_none (stands_at t s m) (zone_count t) none z l) own)

-- a pose that moves concerns every zone that its machine hosts
both : (a b c : Bool) → a ≡ true → b ≡ true → (a && (b || c)) ≡ true
both true true c e f = refl
both true false c e f = cc
both false b c e f = cc

pub concerned : (t : PlanTable) (s : State) (m p y z : ℕ) → posture_of t p y ≡ Some Moving → host_of t z ≡ m → is_concerned t s m p z ≡ true
concerned t s m p y z given host =
    let own : nat_eq (host_of t z) m ≡ true = ap (nat_eq (host_of t z)) (sym host) ∙ nat_eq-self (host_of t z) in
    both (nat_eq (host_of t z) m) (is_moving_pose t p) (not (same_posture (posture_with t s p z) (posture_at s z))) own (gives_moving t p y given)

pub held : (t : PlanTable) (s : State) (m p y z : ℕ) → Poses t s m p → posture_of t p y ≡ Some Moving → z < zone_count t → host_of t z ≡ m → owner_of s z ≡ Some m
held t s m p y z f given l host = owner_is (owner_of s z) m (moves (is_concerned t s m p z) (owns s m z) (f.owned z l) (concerned t s m p y z given host))

pub clear : (t : PlanTable) (s : State) (m p y z : ℕ) → Poses t s m p → posture_of t p y ≡ Some Moving → z < zone_count t → host_of t z ≡ m → space_has_plate t s z ≡ false
clear t s m p y z f given l host = unless (is_concerned t s m p z) (space_has_plate t s z) (f.clear z l) (concerned t s m p y z given host)

third : (a b c : Bool) → (a && not b && c) ≡ false → a ≡ true → b ≡ false → c ≡ false
third true false c e f g = e
third true true c e f g = cc
third false b c e f g = cc

pub room : (t : PlanTable) (s : State) (p z : ℕ) (way : Transfer) → opens_onto_plate t s p z ≡ None → posture_of t p z ≡ Some OpenIn → posture_at s z ≢ OpenIn → transfer_of t z OpenIn ≡ Some way → plates_for t s way.to ≡ 0
room t s p z way e gives other is =
    let opens : same_posture (posture_with t s p z) OpenIn ≡ true = ap (λ o. same_posture (unwrap_or o (posture_at s z)) OpenIn) gives in
    let shut = false_from_ne_true (same_posture (posture_at s z) OpenIn) (λ same. other (one_posture _ _ same)) in
    let empty = third (same_posture (posture_with t s p z) OpenIn) (same_posture (posture_at s z) OpenIn) (is_onto_taken t s (transfer_of t z OpenIn)) (none_then _ PlaceFull e) opens shut in
    no_plates (plates_for t s way.to) (sym (ap (is_onto_taken t s) is) ∙ empty)

pub poses_fit : (t : PlanTable) (s : State) (h : List Event) → IsLegal t s h → PosesFit t s h
poses_fit t s h l =
    let found : (before rest : List Event) (m p : ℕ) → h ≡ before ++ done m (SetPose p) ∷ rest → Poses t (after t s before) m p
    = λ before rest m p split. pose_done t (after t s before) m p (done_none _ _ (replies_done t s h before m (SetPose p) rest l split)) in
    record {
      own = λ before rest m p split. let f = found before rest m p split in (f.there, f.machine);
      no_jump = λ before rest m p split. no_jump t (after t s before) m p (found before rest m p split);
      all_held = λ before rest m p y split given z. held t (after t s before) m p y z (found before rest m p split) given;
      all_clear = λ before rest m p y split given z l host. clear_zone t (after t s before) z (clear t (after t s before) m p y z (found before rest m p split) given l host) z l refl;
      opens_onto_empty = λ before rest m p split z way there. room t (after t s before) p z way ((found before rest m p split).room z there);
    }

-- ---- handovers

has_zone : (t : PlanTable) (s : State) (h before : List Event) (m : ℕ) (c : Call) (rest : List Event) (z : ℕ) → IsPlan t → IsSound t s → IsLegal t s h → h ≡ before ++ done m c ∷ rest
    → Holder t (after t s before) m z → HasZone t s before m z
has_zone t s h before m c rest z p k l split f =
    (f.caller.there, (holds_iff_owns t s before m z p k (legal-left t s before (done m c ∷ rest) (subst (IsLegal t s) split l))).1 f.owns, f.owner)

pub handover_by_holder : (t : PlanTable) (s : State) → IsPlan t → IsSound t s → (h : List Event) → IsLegal t s h → HandoverByHolder t s h
handover_by_holder t s p k h l = record {
  give = λ before rest m z split. has_zone t s h before m (Give z) rest z p k l split (give_done t (after t s before) m z (done_none _ _ (replies_done t s h before m (Give z) rest l split))).holder;
  yield = λ before rest m z split. has_zone t s h before m (Yield z) rest z p k l split (yield_done t (after t s before) m z (done_none _ _ (replies_done t s h before m (Yield z) rest l split))).holder;
  take = λ before rest m z split. has_zone t s h before m (Take z) rest z p k l split (take_done t (after t s before) m z (done_none _ _ (replies_done t s h before m (Take z) rest l split))).holder;
  release = λ before rest m z split. has_zone t s h before m (Release z) rest z p k l split (release_done t (after t s before) m z (done_none _ _ (replies_done t s h before m (Release z) rest l split))).holder;
}

-- ---- advances

pub advances_fit : (t : PlanTable) (s : State) (h : List Event) → IsLegal t s h → AdvancesFit t s h
advances_fit t s h l =
    let found : (before rest : List Event) (m p : ℕ) → h ≡ before ++ done m (Advance p) ∷ rest → Advances t (after t s before) m p
    = λ before rest m p split. advance_done t (after t s before) m p (done_none _ _ (replies_done t s h before m (Advance p) rest l split)) in
    record {
      own = λ before rest m p split. let f = found before rest m p split in (f.there, f.keeper);
      comes = λ before rest m p split empty. comes t (after t s before) m p (found before rest m p split) empty;
      goes = λ before rest m p split full. goes t (after t s before) m p (found before rest m p split) full;
    }
