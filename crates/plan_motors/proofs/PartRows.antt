-- The rows of parts, and what fits the press.
use Rattle.std.proofs.Common.{◌≡◌, ◌<◌, ◌≤◌, ℕ, zero, suc, Bool, true, false, List, [], ◌∷◌, is_none, Some, None, refl, arith, IsTrue}
use Rattle.plan_types.specs.declared.posture.Posture.{Posture}
use Rattle.plan_types.specs.declared.posture.Posture.TheVariants.{Closed, Moving}
use Rattle.plan_types.specs.Plan.{IsPlan}
use Rattle.plan_types.specs.Table.{posture_of}
use Rattle.plan_types.specs.Examples.{press_table, lift_table}
use Rattle.plan_types.proofs.lemmas.Checked.{is_plan}
use Rattle.plan_rules.specs.Sound.{implies}
use Rattle.plan_motors.specs.declared.motor.Motor.{Motor}
use Rattle.plan_motors.specs.declared.exclusion.Cause.TheVariants.{Zone, Place}
use Rattle.plan_motors.specs.Motor.{no_need}
use Rattle.plan_motors.specs.Poses as poses
use Rattle.plan_motors.specs.Examples.{held, motor, hazard, ram, arm, loading_arm, valve, heater, fan, cabin, lower_gate, upper_gate}
use Rattle.plan_motors.specs.RunExamples.{moves, press_asks, state_after}
use Rattle.plan_motors.specs.PartExamples.{none_found, first_found, ExclusionParts, MaskParts, MotorsFit, LossesAreMet, PoseParts, PartsAreRight}
use Rattle.plan_motors.proofs.lemmas.Checked.{all_fit}
use Rattle.plan_motors.proofs.lemmas.Excluding.{cause_shown, never_both}
use Rattle.plan_motors.proofs.RunRows.{plan, press_permits}

no : false ≡ true → ⊥
no e = cc

lift : IsPlan lift_table
lift = is_plan lift_table refl

-- the press has one zone
one : (P : ℕ → Type 0) → P 0 → (z : ℕ) → z < 1 → P z
one P a zero l = a
one P a (suc z) l = absurd (omega arith)

exclusion_parts : ExclusionParts
exclusion_parts = record {
  needed = refl;
  any_posture = refl;
  one_posture = refl;
  owners = refl;
  owner_of_first = refl;
  owner_of_second = refl;
  postures_needed = refl;
  posture_of_first = refl;
  owner_for = refl;
  no_owner_for = refl;
  posture_for = refl;
  posture_given = refl;
  zones_for = refl;
  lawful_hosts = refl;
  lawful_guests = refl;
  lawful_strangers = refl;
  lawful_nobodys = refl;
  shared = refl;
  not_of_first = refl;
  not_of_second = refl;
  not_lawful = refl;
  zone_causes = refl;
  opposite = refl;
  opposite_too = refl;
  unneeded = refl;
  place_causes = refl;
  zones_in = refl;
  places_in = refl;
}

mask_parts : MaskParts
mask_parts = record {
  zones = refl;
  owners = refl;
  owners_below = refl;
  postures = refl;
  patterns = refl;
  place_masks = refl;
  place_patterns = refl;
  zone_masks = refl;
  zone_patterns = refl;
  masks_of_places = refl;
  patterns_of_places = refl;
  anything = refl;
  several = refl;
}

abbrev idle : Motor
idle = motor 0 (held (Some Moving)) no_need None None

motors_fit : MotorsFit
motors_fit = record {
  rams = all_fit press_table (ram ∷ arm ∷ loading_arm ∷ valve ∷ heater ∷ fan ∷ []) (hazard 0 1 ∷ hazard 5 2 ∷ []) plan refl;
  gates = all_fit lift_table (cabin ∷ lower_gate ∷ upper_gate ∷ []) (hazard 0 2 ∷ hazard 2 1 ∷ hazard 1 1 ∷ []) lift refl;
  none = all_fit press_table [] [] plan refl;
  no_machine = λ k. absurd (omega (arith, k.machine_is_of_plan));
  no_party = λ k. no (k.zone_is_shared 1 (omega arith) refl);
  far_zone = λ k. no (k.zone_is_shared 9 (omega arith) refl);
  guest_posture = λ k. no (k.posture_is_kept 1 (omega arith) refl);
  anothers_place = λ k. no (k.place_is_own 0 (omega arith) refl);
  far_place = λ k. no (k.place_is_own 15 (omega arith) refl);
  never = λ k. never_both press_table idle idle (Zone 0) (cause_shown press_table idle idle (Zone 0) refl) k.can_be.0 k.can_be.1.sound k.can_be.2 k.can_be.2;
  too_many = λ k. let e : 65 ≤ 64 = k.motors_at_most in absurd (omega arith);
  second_motor = λ k. let e : 2 < 2 = (k.each_motor 1 (omega arith)).machine_is_of_plan in absurd (omega arith);
  no_first = λ k. let e : 2 < 2 = k.first_is_motor 1 (omega arith) in absurd (omega arith);
  no_second = λ k. let e : 2 < 2 = k.second_is_motor 1 (omega arith) in absurd (omega arith);
  by_number = refl;
  hazard_by_number = refl;
  zone_shown = cause_shown press_table ram arm (Zone 0) refl;
  upper_zone_shown = cause_shown lift_table cabin upper_gate (Zone 1) refl;
  place_shown = cause_shown press_table valve heater (Place 1) refl;
  by_place = (cause_shown press_table heater valve (Place 1) refl).1;
  not_by_place = λ k. k true refl refl;
}

losses_are_met : LossesAreMet
losses_are_met = record {
  anothers_call = λ k. let e : 1 ≡ 0 = k.own in absurd (omega arith);
  not_permitted = λ k. let e : false ≡ true = k.before.zones 0 (omega arith) in cc;
  still_permitted = λ k. k.lost (press_permits (state_after moves) ram refl refl refl);
  kept = tt;
  lost_later = λ k. k.1.1.0 (record { own = refl; before = press_permits (state_after moves) ram refl refl refl; lost = λ now. let e : false ≡ true = now.zones 0 (omega arith) in cc });
  never_read = λ k. let e : false ≡ true = k.permitted.zones 0 (omega arith) in cc;
  lost_since = λ k. k.kept.0 (record { own = refl; before = press_permits (state_after moves) ram refl refl refl; lost = λ now. let e : false ≡ true = now.zones 0 (omega arith) in cc });
  read_now = record { read = moves; since = []; split = refl; still = record { permitted = press_permits (state_after moves) ram refl refl refl; kept = tt } };
  read_before = record { read = moves; since = press_asks; split = refl; still = record { permitted = press_permits (state_after moves) ram refl refl refl; kept = (λ x. x.lost (press_permits (state_after moves) ram refl refl refl), (λ x. x.lost (press_permits (state_after moves) ram refl refl refl), tt)) } };
}

abbrev Arrives : (ℕ → Posture) → ℕ → Type 0
Arrives q z = IsTrue (implies (poses.matters press_table 1 [] z) (poses.leads_on press_table ram valve false z (q z)))

abbrev Well : List Bool → ℕ → Type 0
Well any z = IsTrue (implies (poses.matters press_table 1 any z) (poses.given_leads_on press_table ram valve false z (posture_of press_table 3 z)))

abbrev Alone : List Bool → ℕ → Type 0
Alone any z = IsTrue (implies (poses.matters press_table 1 any z) (is_none (posture_of press_table 3 z)))

pose_parts : PoseParts
pose_parts = record {
  at_once = refl;
  by_moving = refl;
  open_at_once = refl;
  matter = refl;
  no_host = refl;
  given = refl;
  any_before = refl;
  any_by_pose = refl;
  none_before = refl;
  to_danger = record { poses = 3 ∷ []; taken = (record { there = omega arith; own = refl; moves = λ w. absurd (no w) }, tt); arrived = one (Arrives (poses.after_poses press_table (3 ∷ []) (λ z. Closed))) refl };
  in_danger = record { poses = []; taken = tt; arrived = one (Arrives (λ z. Moving)) refl };
  further = record { own = refl; at_any_time = refl; well = one (Well none_found) refl; further = λ k. no (k 0 (omega arith)) };
  gives_ill = λ k. no (k 0 (omega arith));
  gives_well = one (Well none_found) refl;
  anothers_pose = λ k. let e : 1 ≡ 0 = k.own in absurd (omega arith);
  after_moving = λ k. let e : true ≡ false = k.at_any_time in cc;
  not_well = λ k. no (k.well 0 (omega arith));
  no_further = λ k. k.further (one (Alone first_found) refl);
  leaves = one (Alone first_found) refl;
  leaves_not = λ k. no (k 0 (omega arith));
  moving = record { there = omega arith; own = refl; waits = refl; leads = one (λ z. IsTrue (implies (poses.matters press_table 1 none_found z) (poses.leads_on press_table arm arm false z (poses.posture_after press_table 0 z Moving)))) refl };
  waits_not = λ k. no k.waits;
  leads_not = λ k. no (k.leads 0 (omega arith));
  anothers_moving = λ k. let e : 1 ≡ 0 = k.own in absurd (omega arith);
  not_there = λ k. let e : 4 < 4 = k.there in absurd (omega arith);
}

pub parts_are_right : PartsAreRight
parts_are_right = record {
  exclusions = exclusion_parts;
  masks = mask_parts;
  fits = motors_fit;
  losses = losses_are_met;
  poses = pose_parts;
}
