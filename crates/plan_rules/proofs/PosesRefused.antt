-- For what a pose is refused.
use Rattle.std.proofs.Common.{◌≡◌, inl, inr, ℕ, ◌≤◌, true, false, ◌&&◌, not, nat_eq, nat_lt, ◌∷◌, [], Option, Some, None, refl, ap, ◌∙◌, arith, ltb-true}
use Rattle.std.proofs.lemmas.Bool.{cases_lt, eqb-true, lt-ltb}
use Rattle.plan_types.specs.declared.call.Call.TheVariants.{SetPose}
use Rattle.plan_types.specs.declared.answer.Refusal.{Refusal}
use Rattle.plan_types.specs.declared.answer.Refusal.TheVariants.{NotOwner, PlateInZone, NoPose, Stopped, Jump, PlaceFull, Worn}
use Rattle.plan_types.specs.declared.answer.Answer.TheVariants.{Done}
use Rattle.plan_types.specs.Below.{any_below}
use Rattle.plan_types.specs.Table.{PlanTable, zone_count, pose_count, host_of, machine_of, pose_row, is_moving_pose, has_pose}
use Rattle.plan_types.proofs.lemmas.Below.{first_below_none}
use Rattle.plan_rules.specs.declared.state.State.{State}
use Rattle.plan_rules.specs.State.{owner_of, posture_at, space_has_plate}
use Rattle.plan_rules.specs.Refusals as refusals
use Rattle.plan_rules.specs.Refusals.{◌or◌, owns, is_concerned}
use Rattle.plan_rules.specs.Reply.{answer_by}
use Rattle.plan_rules.specs.SayLaws.{LacksRoom, Jumps}
use Rattle.plan_rules.specs.PoseLaws.{BarsByOwner, BarsByPlate, IsLowest, GivesMoving, IsOwnPose, IsPoseHeard, OwnsAll, HasAllClear, BarsPose, PosesAreRefusedExactly}
use Rattle.plan_rules.proofs.lemmas.Below.{any_below_none}
use Rattle.plan_rules.proofs.lemmas.DoneCalls.{none_then}
use Rattle.plan_rules.proofs.lemmas.Soundness.{unless}
use Rattle.plan_rules.proofs.lemmas.Zones.{both_true}
use Rattle.plan_rules.proofs.DoneExactly.{is_same, is_not_moving, none_of_both}
use Rattle.plan_rules.proofs.Fitting.{room}
use Rattle.plan_rules.proofs.Given.{gives_moving, moving_given}
use Rattle.plan_rules.proofs.Lowest.{unowned, covered, no_owner_bars, no_plate_bars}
use Rattle.plan_rules.proofs.Refusing.{refusal_of_reply}
use Rattle.plan_rules.proofs.RefusedExactly.{Sorts, test, in_turn, told, past, no_not, worn, worn_by}
use Rattle.plan_rules.proofs.Truth.{zones_say, is_not, not_both, jump_in_words, room_says_by}

-- a condition that says nothing isn't there; one that can't leave says what it says
none_of : {K : Type 0} (o : Option Refusal) → Sorts (λ _. ⊥) o K → o ≡ None
none_of None f = refl
none_of (Some r) f = absurd (f.says r refl)

some_of : {K : Type 0} (o : Option Refusal) (q : Refusal) → Sorts (λ r. r ≡ q) o K → ¬ K → o ≡ Some q
some_of None q f stays = absurd (stays (f.leaves refl))
some_of (Some r) q f stays = ap (λ x. Some x) (f.says r refl)

-- there is one lowest zone
one_lowest : (bars : ℕ → Type 0) (y z : ℕ) → IsLowest bars y → IsLowest bars z → y ≡ z
one_lowest bars y z f g = elim (cases_lt y z) [
  | inl l ↦ absurd (g.1 y l f.0)
  | inr k ↦ elim (cases_lt z y) [ inl l ↦ absurd (f.1 z l g.0) | inr n ↦ omega (arith, k, n) ]
]

module _ (t : PlanTable) (s : State) (m p : ℕ) where
  abbrev n : ℕ
  n = zone_count t

  abbrev lp : Option Refusal
  lp = refusals.lacks_pose t m p

  abbrev ms : Option Refusal
  ms = refusals.moves_while_stopped t s p

  abbrev un : Option Refusal
  un = refusals.first_zone t (refusals.unowned_by_pose t s m p)

  abbrev up : Option Refusal
  up = refusals.first_zone t (refusals.plate_under_pose t s m p)

  abbrev ju : Option Refusal
  ju = refusals.jump t s m p

  abbrev op : Option Refusal
  op = refusals.first_zone t (refusals.opens_onto_plate t s p)

  abbrev wo : Option Refusal
  wo = refusals.worn s

  -- ---- single conditions

  own : (P : Refusal → Type 0) → (¬ IsOwnPose t m p → P NoPose) → Sorts P lp (IsOwnPose t m p)
  own P says = test (not (has_pose t m p)) NoPose
      (λ yes. says (λ f. let has : has_pose t m p ≡ true = rw (lt-ltb p (pose_count t) f.0, is_same (machine_of t p) m f.1) refl in not_both (has_pose t m p) has (is_not (has_pose t m p) yes)))
      (λ has. let f = both_true (nat_lt p (pose_count t)) (nat_eq (machine_of t p) m) (no_not (has_pose t m p) has) in (ltb-true p (pose_count t) f.0, eqb-true (machine_of t p) m f.1))

  runs : (P : Refusal → Type 0) → (GivesMoving t p → s.stopped ≡ true → P Stopped) → Sorts P ms (GivesMoving t p → s.stopped ≡ false)
  runs P says = test (is_moving_pose t p && s.stopped) Stopped
      (λ yes. let f = both_true (is_moving_pose t p) s.stopped yes in says (moving_given t p f.0) f.1)
      (λ none moves. unless (is_moving_pose t p) s.stopped none (gives_moving t p moves.0 moves.1))

  owned : (P : Refusal → Type 0) → ((z : ℕ) → IsLowest (BarsByOwner t s m p) z → P (NotOwner (owner_of s z))) → Sorts P un ((z : ℕ) → ¬ BarsByOwner t s m p z)
  owned P says = record {
    says = unowned t s m p P says;
    leaves = λ e z bars. no_owner_bars t s m p z (none_then (is_concerned t s m p z && not (owns s m z)) (NotOwner (owner_of s z)) (first_below_none (refusals.unowned_by_pose t s m p) n e z bars.0.0)) bars;
  }

  clear : (P : Refusal → Type 0) → ((z : ℕ) → IsLowest (BarsByPlate t s m p) z → P (PlateInZone z)) → Sorts P up ((z : ℕ) → ¬ BarsByPlate t s m p z)
  clear P says = record {
    says = covered t s m p P says;
    leaves = λ e z bars. no_plate_bars t s m p z (none_then (is_concerned t s m p z && space_has_plate t s z) (PlateInZone z) (first_below_none (refusals.plate_under_pose t s m p) n e z bars.0.0)) bars;
  }

  jumps : (P : Refusal → Type 0) → (Jumps t s m (SetPose p) → P Jump) → Sorts P ju (¬ Jumps t s m (SetPose p))
  jumps P says = test ((pose_row t p).after_moving && any_below (refusals.stands_at t s m) n) Jump (λ yes. says (jump_in_words t s m p yes)) no_jump
    where
      no_jump : ((pose_row t p).after_moving && any_below (refusals.stands_at t s m) n) ≡ false → ¬ Jumps t s m (SetPose p)
      no_jump none f =
          let z = f.1 in
          let e = any_below_none (refusals.stands_at t s m) n (unless (pose_row t p).after_moving (any_below (refusals.stands_at t s m) n) none f.0) z f.2 in
          let stands : refusals.stands_at t s m z ≡ true = rw (is_same (host_of t z) m f.3, is_not_moving (posture_at s z) f.4) refl in
          not_both (refusals.stands_at t s m z) stands e

  roomy : (P : Refusal → Type 0) → (LacksRoom t s m (SetPose p) → P PlaceFull) → Sorts P op (¬ LacksRoom t s m (SetPose p))
  roomy P says = record {
    says = zones_say P (refusals.opens_onto_plate t s p) n (room_says_by t s m p P says);
    leaves = no_room;
  }
    where
      no_room : op ≡ None → ¬ LacksRoom t s m (SetPose p)
      no_room e f =
          let l = f.6 in
          let none = room t s p f.0 f.4 (first_below_none (refusals.opens_onto_plate t s p) n e f.0 f.1) f.2 f.3 f.5 in
          absurd (omega (arith, l, none))

  last : (P : Refusal → Type 0) → (1048575 ≤ s.stamp → P Worn) → Sorts P wo Unit
  last = worn t s m p

  -- ---- in their order

  pose : Sorts (BarsPose t s m p) (refusals.pose_refusal t s m p) Unit
  pose =
      let P : Refusal → Type 0 = BarsPose t s m p in
      let s1 : Sorts P (lp or ms) (IsPoseHeard t s m p) = in_turn lp ms (own P (λ f. f)) (λ f. let h = runs P (λ moves stopped. (f, moves, stopped)) in record { says = h.says; leaves = λ e. (f, h.leaves e) }) in
      let s2 : Sorts P (lp or ms or un) (OwnsAll t s m p) = in_turn (lp or ms) un s1 (λ f. let h = owned P (λ z low. (f, z, low, refl)) in record { says = h.says; leaves = λ e. (f, h.leaves e) }) in
      let s3 : Sorts P (lp or ms or un or up) (HasAllClear t s m p) = in_turn (lp or ms or un) up s2 (λ f. let h = clear P (λ z low. (f, low)) in record { says = h.says; leaves = λ e. (f, h.leaves e) }) in
      let s4 : Sorts P (lp or ms or un or up or ju) (HasAllClear t s m p × (¬ Jumps t s m (SetPose p))) = in_turn (lp or ms or un or up) ju s3 (λ f. let h = jumps P (λ g. (f, g)) in record { says = h.says; leaves = λ e. (f, h.leaves e) }) in
      let s5 : Sorts P (lp or ms or un or up or ju or op) (HasAllClear t s m p × (¬ Jumps t s m (SetPose p)) × (¬ LacksRoom t s m (SetPose p))) = in_turn (lp or ms or un or up or ju) op s4 (λ f. let h = roomy P (λ g. (f.0, f.1, g)) in record { says = h.says; leaves = λ e. (f.0, f.1, h.leaves e) }) in
      in_turn (lp or ms or un or up or ju or op) wo s5 (λ f. last P (λ g. (f.0, f.1, f.2, g)))

  heard_by : IsPoseHeard t s m p → (lp or ms) ≡ None
  heard_by f = none_of_both lp ms (none_of lp (own (λ _. ⊥) (λ other. other f.0)))
      (none_of ms (runs (λ _. ⊥) (λ moves stopped. not_both s.stopped stopped (f.1 moves))))

  owned_by : OwnsAll t s m p → (lp or ms or un) ≡ None
  owned_by f = none_of_both (lp or ms) un (heard_by f.0) (none_of un (owned (λ _. ⊥) (λ z low. f.1 z low.0)))

  clear_by : HasAllClear t s m p → (lp or ms or un or up) ≡ None
  clear_by f = none_of_both (lp or ms or un) up (owned_by f.0) (none_of up (clear (λ _. ⊥) (λ z low. f.1 z low.0)))

  steady_by : HasAllClear t s m p → ¬ Jumps t s m (SetPose p) → (lp or ms or un or up or ju) ≡ None
  steady_by f g = none_of_both (lp or ms or un or up) ju (clear_by f) (none_of ju (jumps (λ _. ⊥) g))

  pose_by : (r : Refusal) → BarsPose t s m p r → refusals.pose_refusal t s m p ≡ Some r
  pose_by NoPose f = told lp (ms ∷ un ∷ up ∷ ju ∷ op ∷ wo ∷ []) NoPose (some_of lp NoPose (own (λ r. r ≡ NoPose) (λ _. refl)) f)
  pose_by Stopped f = told (lp or ms) (un ∷ up ∷ ju ∷ op ∷ wo ∷ []) Stopped (past lp ms Stopped (none_of lp (own (λ _. ⊥) (λ other. other f.0)))
      (some_of ms Stopped (runs (λ r. r ≡ Stopped) (λ moves stopped. refl)) (λ g. not_both s.stopped f.2 (g f.1))))
  pose_by (NotOwner o) f = told (lp or ms or un) (up ∷ ju ∷ op ∷ wo ∷ []) (NotOwner o) (past (lp or ms) un (NotOwner o) (heard_by f.0)
      (some_of un (NotOwner o) (owned (λ r. r ≡ NotOwner o) (λ z low. ap (λ y. NotOwner (owner_of s y)) (one_lowest (BarsByOwner t s m p) z f.1 low f.2) ∙ ap (λ x. NotOwner x) f.3)) (λ g. g f.1 f.2.0)))
  pose_by (PlateInZone z) f = told (lp or ms or un or up) (ju ∷ op ∷ wo ∷ []) (PlateInZone z) (past (lp or ms or un) up (PlateInZone z) (owned_by f.0)
      (some_of up (PlateInZone z) (clear (λ r. r ≡ PlateInZone z) (λ y low. ap (λ x. PlateInZone x) (one_lowest (BarsByPlate t s m p) y z low f.1))) (λ g. g z f.1.0)))
  pose_by Jump f = told (lp or ms or un or up or ju) (op ∷ wo ∷ []) Jump (past (lp or ms or un or up) ju Jump (clear_by f.0) (some_of ju Jump (jumps (λ r. r ≡ Jump) (λ _. refl)) (λ g. g f.1)))
  pose_by PlaceFull f = told (lp or ms or un or up or ju or op) (wo ∷ []) PlaceFull (past (lp or ms or un or up or ju) op PlaceFull (steady_by f.0 f.1) (some_of op PlaceFull (roomy (λ r. r ≡ PlaceFull) (λ _. refl)) (λ g. g f.2)))
  pose_by Worn f = past (lp or ms or un or up or ju or op) wo Worn (none_of_both (lp or ms or un or up or ju) op (steady_by f.0 f.1) (none_of op (roomy (λ _. ⊥) f.2))) (worn_by t s m p f.3)
  pose_by _ f = absurd f

pub poses_are_refused_exactly : PosesAreRefusedExactly
poses_are_refused_exactly t s m p r = ((λ e. (pose t s m p).says r (refusal_of_reply t s m (SetPose p) r e)), λ f. ap (λ o. answer_by o Done) (pose_by t s m p r f))
