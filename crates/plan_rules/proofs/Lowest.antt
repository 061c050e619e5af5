-- A refused pose names the lowest zone that bars it.
use Rattle.std.proofs.Common.{◌≡◌, inl, inr, ℕ, zero, suc, ◌<◌, Bool, true, false, ◌&&◌, ◌||◌, not, nat_eq, Option, Some, None, unwrap_or, refl, sym, ap, ◌∙◌, arith, ⊎_elim}
use Rattle.std.specs.Bool.{then_some}
use Rattle.std.specs.Option.{option_or}
use Rattle.std.proofs.lemmas.Bool.{eqb-true}
use Rattle.plan_types.specs.declared.call.Call.TheVariants.{SetPose}
use Rattle.plan_types.specs.declared.answer.Refusal.{Refusal}
use Rattle.plan_types.specs.declared.answer.Refusal.TheVariants.{NotOwner, PlateInZone, NoPose, Stopped, Jump, PlaceFull, Worn}
use Rattle.plan_types.specs.Same.{same_posture}
use Rattle.plan_types.specs.Below.{first_below}
use Rattle.plan_types.specs.Table.{PlanTable, zone_count, host_of, posture_of, is_moving_pose}
use Rattle.plan_types.proofs.lemmas.Below.{first_below_none}
use Rattle.plan_rules.specs.declared.state.State.{State}
use Rattle.plan_rules.specs.State.{owner_of, posture_at, space_has_plate}
use Rattle.plan_rules.specs.Refusals as refusals
use Rattle.plan_rules.specs.Refusals.{◌or◌, owns, is_concerned, posture_with}
use Rattle.plan_rules.specs.PoseLaws.{Needs, BarsByOwner, BarsByPlate, IsLowest, PosesNameLowestZones}
use Rattle.plan_rules.proofs.lemmas.DoneCalls.{none_then}
use Rattle.plan_rules.proofs.lemmas.Soundness.{some_or_none}
use Rattle.plan_rules.proofs.lemmas.Zones.{both_true, owner_is}
use Rattle.plan_rules.proofs.DoneExactly.{either, itself, differs, owner_by, concerned_by_change}
use Rattle.plan_rules.proofs.Fitting.{concerned}
use Rattle.plan_rules.proofs.Given.{moving_given}
use Rattle.plan_rules.proofs.Refusing.{refusal_of_reply}
use Rattle.plan_rules.proofs.Truth.{both_say, one_says, zones_say, is_not, not_both}

-- a refusal of a zone, and none of a lower one
abbrev IsFirst : (ℕ → Option Refusal) → ℕ → Refusal → Type 0
IsFirst f n r = (z : ℕ) × (z < n) × (f z ≡ Some r) × ((y : ℕ) → y < z → f y ≡ None)

last_or_lower : (f : ℕ → Option Refusal) (n : ℕ) (r : Refusal) (o : Option Refusal) → first_below f n ≡ o → (first_below f n ≡ Some r → IsFirst f n r) → option_or o (f n) ≡ Some r → IsFirst f (suc n) r
last_or_lower f n r None none lower e = (n, omega arith, e, first_below_none f n none)
last_or_lower f n r (Some x) is lower e = let k = lower (is ∙ e) in let l = k.1 in (k.0, omega (arith, l), k.2, k.3)

found_at : (f : ℕ → Option Refusal) (n : ℕ) (r : Refusal) → first_below f n ≡ Some r → IsFirst f n r
found_at f zero r e = cc
found_at f (suc n) r e = last_or_lower f n r (first_below f n) refl (found_at f n r) e

all_true : (a b : Bool) → a ≡ true → b ≡ true → (a && b) ≡ true
all_true a b e f = rw (e, f) refl

module _ (t : PlanTable) (s : State) (m p : ℕ) where
  abbrev concern : ℕ → Bool
  concern z = is_concerned t s m p z

  needed : (z : ℕ) → z < zone_count t → concern z ≡ true → Needs t s m p z
  needed z l e =
      let now = posture_at s z in
      let changes : Bool = not (same_posture (posture_with t s p z) now) in
      let both = both_true (nat_eq (host_of t z) m) (is_moving_pose t p || changes) e in
      let host = eqb-true (host_of t z) m both.0 in
      ⊎_elim
      (λ moves. (l, host, inl (moving_given t p moves)))
      (λ other. elim (some_or_none (posture_of t p z)) [
        | inl none ↦ absurd (differs (same_posture now now) (same_posture (posture_with t s p z) now) (itself now) other (sym (ap (λ o. same_posture (unwrap_or o now) now) none)))
        | inr given ↦ (l, host, inr (given.0, given.1, λ is. differs (same_posture given.0 given.0) (same_posture (posture_with t s p z) now) (itself given.0) other (sym (ap (λ o. same_posture (unwrap_or o now) now) given.1 ∙ ap (same_posture given.0) is))))
      ])
      (either (is_moving_pose t p) changes both.1)

  concern_by : (z : ℕ) → Needs t s m p z → concern z ≡ true
  concern_by z need = elim need.2 [
    | inl y ↦ concerned t s m p y.0 z y.1 need.1
    | inr q ↦ concerned_by_change t s m p z q.0 need.1 q.1 q.2
  ]

  -- what a refusal says, if it names a zone or its owner
  abbrev Lowest : Refusal → Type 0
  Lowest (NotOwner o) = (z : ℕ) × IsLowest (BarsByOwner t s m p) z × (owner_of s z ≡ o)
  Lowest (PlateInZone z) = IsLowest (BarsByPlate t s m p) z
  Lowest _ = Unit

  -- of a zone that a test finds, and no lower one
  chosen : (P : Refusal → Type 0) (test : ℕ → Bool) (name : ℕ → Refusal) → ((z : ℕ) → z < zone_count t → test z ≡ true → ((y : ℕ) → y < z → test y ≡ false) → P (name z))
      → (r : Refusal) → first_below (λ z. then_some (test z) (name z)) (zone_count t) ≡ Some r → P r
  chosen P test name says r e =
      let k = found_at (λ z. then_some (test z) (name z)) (zone_count t) r e in
      one_says P (test k.0) (name k.0) (λ yes. says k.0 k.1 yes (λ y l. none_then (test y) (name y) (k.3 y l))) r k.2

  pub no_owner_bars : (y : ℕ) → (concern y && not (owns s m y)) ≡ false → ¬ BarsByOwner t s m p y
  no_owner_bars y none barred = by (owns s m y) refl (sym (ap (λ b. b && not (owns s m y)) (concern_by y barred.0)) ∙ none)
    where
      by : (b : Bool) → owns s m y ≡ b → not (owns s m y) ≡ false → ⊥
      by true own e = barred.1 (owner_is (owner_of s y) m own)
      by false other e = let h = ap not other in cc

  pub no_plate_bars : (y : ℕ) → (concern y && space_has_plate t s y) ≡ false → ¬ BarsByPlate t s m p y
  no_plate_bars y none barred = not_both (concern y && space_has_plate t s y) (all_true (concern y) (space_has_plate t s y) (concern_by y barred.0) barred.1) none

  pub unowned : (P : Refusal → Type 0) → ((z : ℕ) → IsLowest (BarsByOwner t s m p) z → P (NotOwner (owner_of s z))) → (r : Refusal) → refusals.first_zone t (refusals.unowned_by_pose t s m p) ≡ Some r → P r
  unowned P says = chosen P (λ z. concern z && not (owns s m z)) (λ z. NotOwner (owner_of s z)) (λ z l yes lower.
      let both = both_true (concern z) (not (owns s m z)) yes in
      let bars : BarsByOwner t s m p z = (needed z l both.0, λ own. not_both (owns s m z) (owner_by s m z own) (is_not (owns s m z) both.1)) in
      says z (bars, λ y k. no_owner_bars y (lower y k)))

  pub covered : (P : Refusal → Type 0) → ((z : ℕ) → IsLowest (BarsByPlate t s m p) z → P (PlateInZone z)) → (r : Refusal) → refusals.first_zone t (refusals.plate_under_pose t s m p) ≡ Some r → P r
  covered P says = chosen P (λ z. concern z && space_has_plate t s z) (λ z. PlateInZone z) (λ z l yes lower.
      let both = both_true (concern z) (space_has_plate t s z) yes in
      says z ((needed z l both.0, both.1), λ y k. no_plate_bars y (lower y k)))

  lowest : (r : Refusal) → refusals.pose_refusal t s m p ≡ Some r → Lowest r
  lowest =
      let r0 = refusals.lacks_pose t m p in
      let r1 = r0 or refusals.moves_while_stopped t s p in
      let r2 = r1 or refusals.first_zone t (refusals.unowned_by_pose t s m p) in
      let r3 = r2 or refusals.first_zone t (refusals.plate_under_pose t s m p) in
      let r4 = r3 or refusals.jump t s m p in
      let r5 = r4 or refusals.first_zone t (refusals.opens_onto_plate t s p) in
      both_say Lowest r5 (refusals.worn s)
      (both_say Lowest r4 (refusals.first_zone t (refusals.opens_onto_plate t s p))
      (both_say Lowest r3 (refusals.jump t s m p)
      (both_say Lowest r2 (refusals.first_zone t (refusals.plate_under_pose t s m p))
      (both_say Lowest r1 (refusals.first_zone t (refusals.unowned_by_pose t s m p))
      (both_say Lowest r0 (refusals.moves_while_stopped t s p)
      (one_says Lowest _ NoPose (λ _. tt))
      (one_says Lowest _ Stopped (λ _. tt)))
      (unowned Lowest (λ z low. (z, low, refl))))
      (covered Lowest (λ z low. low)))
      (one_says Lowest _ Jump (λ _. tt)))
      (zones_say Lowest (refusals.opens_onto_plate t s p) (zone_count t) (λ z l. one_says Lowest _ PlaceFull (λ _. tt))))
      (one_says Lowest _ Worn (λ _. tt))

pub poses_name_lowest : PosesNameLowestZones
poses_name_lowest t s m p = record {
  owner = λ o e. lowest t s m p (NotOwner o) (refusal_of_reply t s m (SetPose p) (NotOwner o) e);
  plate = λ z e. lowest t s m p (PlateInZone z) (refusal_of_reply t s m (SetPose p) (PlateInZone z) e);
}
