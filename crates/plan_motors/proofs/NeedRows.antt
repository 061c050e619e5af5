-- Literal states that permit motors or don't, and answers that aren't shown.
use Rattle.std.proofs.Common.{◌≡◌, ℕ, zero, suc, ◌<◌, true, false, Some, refl, arith, IsTrue}
use Rattle.plan_types.specs.declared.posture.Posture.TheVariants.{Moving}
use Rattle.plan_types.specs.Examples.{press_table, lift_table}
use Rattle.plan_types.specs.Table.{is_hosted}
use Rattle.plan_rules.specs.State.{zone_at, is_full}
use Rattle.plan_rules.specs.Sound.{IsLawfulZone}
use Rattle.plan_rules.specs.Examples.{press_start, full_press}
use Rattle.plan_word.specs.Examples.{lifted}
use Rattle.plan_motors.specs.declared.exclusion.Cause.TheVariants.{Zone}
use Rattle.plan_motors.specs.Motor.{need_of, place_need, meets, meets_place, Permits}
use Rattle.plan_motors.specs.Decided.{SharesSpace, KeepsRules, IsShown}
use Rattle.plan_motors.specs.declared.exclusion.Exclusion.TheVariants.{Excluded}
use Rattle.plan_motors.specs.Exclusion.{state_for}
use Rattle.plan_motors.specs.Examples.{owned, ram, arm, loading_arm, valve, upper_gate}
use Rattle.plan_motors.specs.RunExamples.{moves, state_after}
use Rattle.plan_motors.specs.NeedExamples.{PermitsAreRight, BadAnswers}
use Rattle.plan_motors.proofs.lemmas.Excluding.{cause_shown, never_both, state_shown}
use Rattle.plan_motors.proofs.RunRows.{plan, start, press_permits}

upper_gate_opens : Permits lift_table lifted upper_gate
upper_gate_opens = record { zones = zones; places = places }
  where
    zones : (z : ℕ) → z < 2 → IsTrue (meets 2 (need_of upper_gate z) (zone_at lifted z))
    zones zero l = refl
    zones (suc zero) l = refl
    zones (suc (suc z)) l = absurd (omega arith)

    places : (p : ℕ) → p < 3 → IsTrue (meets_place (place_need upper_gate p) (is_full lifted p))
    places zero l = refl
    places (suc zero) l = refl
    places (suc (suc zero)) l = refl
    places (suc (suc (suc p))) l = absurd (omega arith)

pub permits_are_right : PermitsAreRight
permits_are_right = record {
  arm_is_in = press_permits full_press arm refl refl refl;
  loads = press_permits full_press loading_arm refl refl refl;
  valve_waits = λ k. let e : false ≡ true = k.places 1 (omega arith) in cc;
  valve_runs = press_permits press_start valve refl refl refl;
  arm_waits = λ k. let e : false ≡ true = k.zones 0 (omega arith) in cc;
  hand_is_empty = λ k. let e : false ≡ true = k.places 0 (omega arith) in cc;
  upper_gate_opens = upper_gate_opens;
  lower_gate_waits = λ k. let e : false ≡ true = k.zones 0 (omega arith) in cc;
  cabin_waits = λ k. let e : false ≡ true = k.zones 0 (omega arith) in cc;
  eighth_zone = λ k. let e : false ≡ true = k.zones 7 (omega arith) in cc;
  sixteenth_place = λ k. let e : false ≡ true = k.places 15 (omega arith) in cc;
}

moves_lawfully : IsLawfulZone press_table 0 (owned (Some 1) Moving)
moves_lawfully = record { owner_is_party = refl; flag_has_transfer = refl; guest_only_while_open = refl; moving_belongs_to_host = refl }

-- the press has one zone
one_zone : (P : ℕ → Type 0) → P 0 → (z : ℕ) → SharesSpace press_table 0 z → P z
one_zone P e zero o = e
one_zone P e (suc z) o = let few : suc z < 1 = o.there in absurd (omega (arith, few))

moves_alone : KeepsRules press_table 0 (λ z. owned (Some 1) Moving)
moves_alone = record { lawful = one_zone (λ z. IsLawfulZone press_table z (owned (Some 1) Moving)) moves_lawfully; owner = λ y o. refl; motion = λ y o. refl }

no_zone_parts : ¬ IsShown press_table ram valve (Excluded (Zone 0))
no_zone_parts k =
    k.1 (λ z. owned (Some 1) Moving) moves_alone (one_zone (λ z. IsTrue (meets 1 (need_of ram z) (owned (Some 1) Moving))) refl)
    (one_zone (λ z. IsTrue (meets 1 (need_of valve z) (owned (Some 1) Moving))) refl)

ram_runs : Permits press_table (state_after moves) ram
ram_runs = press_permits (state_after moves) ram refl refl refl

valve_runs : Permits press_table (state_after moves) valve
valve_runs = press_permits (state_after moves) valve refl refl refl

both_run : (z : ℕ) → z < 1 → IsTrue (is_hosted press_table z 1)
    → IsTrue (meets 1 (need_of ram z) (zone_at (state_after moves) z)) × IsTrue (meets 1 (need_of valve z) (zone_at (state_after moves) z))
both_run z l own = (ram_runs.zones z l, valve_runs.zones z l)

pub bad_answers : BadAnswers
bad_answers = record {
  zone = no_zone_parts;
  no_zone = λ k. absurd (omega (arith, k.0));
  place = λ k. k.1 false refl refl;
  no_place = λ k. absurd (omega (arith, k.0));
  not_first = λ k. permits_are_right.valve_waits k.1;
  not_second = λ k. permits_are_right.valve_waits k.2;
  of_no_plan = λ k. absurd (omega (arith, k.0.sound.stamp_in_range));
  zone_verdict = no_zone_parts;
  pose_verdict = λ k. k press_start moves start (λ z l. refl) (refl, (refl, tt)) both_run;
  state_verdict = λ k. permits_are_right.valve_waits k.2;
  ram_and_valve = λ k. let x = state_shown press_table ram valve plan refl in k (state_for press_table ram valve) x.0.sound x.1 x.2;
  ram_and_arm = never_both press_table ram arm (Zone 0) (cause_shown press_table ram arm (Zone 0) refl);
  from_start = λ k. k moves (refl, (refl, tt)) ram_runs valve_runs;
  from_postures = λ k. k press_start start (λ z l. refl) moves (refl, (refl, tt)) ram_runs valve_runs;
}
