-- What the press's machines may run after literal histories.
use Rattle.std.proofs.Common.{◌≡◌, ◌<◌, ℕ, zero, suc, Bool, true, false, refl, arith, List, [], ◌∷◌, ◌++◌, IsTrue}
use Rattle.plan_types.specs.declared.answer.Event.{Event}
use Rattle.plan_types.specs.declared.call.Call.TheVariants.{Claim, SetPose}
use Rattle.plan_types.specs.Plan.{IsPlan}
use Rattle.plan_types.specs.Examples.{press_table}
use Rattle.plan_types.proofs.lemmas.Checked.{is_plan}
use Rattle.plan_rules.specs.declared.state.State.{State}
use Rattle.plan_rules.specs.State.{zone_at, is_full}
use Rattle.plan_rules.specs.Sound.{IsSound}
use Rattle.plan_rules.specs.Examples.{did, press_start}
use Rattle.plan_rules.specs.Laws.{EveryLegalHistoryIsLawful}
use Rattle.plan_rules.proofs.lemmas.Starts.{start_is_sound}
use Rattle.plan_motors.specs.declared.motor.Motor.{Motor}
use Rattle.plan_motors.specs.Motor.{need_of, place_need, meets, meets_place, Permits}
use Rattle.plan_motors.specs.OfPlan.{IsMotorOf, motor_at}
use Rattle.plan_motors.specs.Examples.{ram, arm}
use Rattle.plan_motors.specs.RunExamples.{moves, opens, gives, may_run, state_after, RunsAreRight}
use Rattle.plan_motors.proofs.lemmas.Checked.{all_fit}
use Rattle.plan_motors.proofs.lemmas.Running.{may_run_permits}

pub plan : IsPlan press_table
plan = is_plan press_table refl

fit : (k : ℕ) → k < 2 → IsMotorOf press_table (motor_at (ram ∷ arm ∷ []) k)
fit = (all_fit press_table (ram ∷ arm ∷ []) [] plan refl).each_motor

pub start : IsSound press_table press_start
start = start_is_sound press_table press_start plan (record { stamp_in_range = omega arith; has_sixteen_places = refl; same = refl })

-- the press has one zone; its motors here need nothing of places
pub press_permits : (s : State) (m : Motor) → meets m.machine (need_of m 0) (zone_at s 0) ≡ true
    → meets_place (place_need m 0) (is_full s 0) ≡ true → meets_place (place_need m 1) (is_full s 1) ≡ true → Permits press_table s m
press_permits s m e f g = record { zones = zones; places = places }
  where
    zones : (z : ℕ) → z < 1 → IsTrue (meets m.machine (need_of m z) (zone_at s z))
    zones zero l = e
    zones (suc z) l = absurd (omega arith)

    places : (p : ℕ) → p < 2 → IsTrue (meets_place (place_need m p) (is_full s p))
    places zero l = f
    places (suc zero) l = g
    places (suc (suc p)) l = absurd (omega arith)

-- the zone isn't as a motor needs it
waits : EveryLegalHistoryIsLawful → (h : List Event) (m : Motor) → IsMotorOf press_table m → meets m.machine (need_of m 0) (zone_at (state_after h) 0) ≡ false → ¬ may_run h m
waits laws h m f e r =
    let now = (may_run_permits laws press_table m press_start h plan f start r).zones 0 (omega arith) in
    differ _ e now
  where
    differ : (b : Bool) → b ≡ false → b ≡ true → ⊥
    differ true e n = cc
    differ false e n = cc

not_permitted : (s : State) (m : Motor) → meets m.machine (need_of m 0) (zone_at s 0) ≡ false → ¬ Permits press_table s m
not_permitted s m e now = differ _ e (now.zones 0 (omega arith))
  where
    differ : (b : Bool) → b ≡ false → b ≡ true → ⊥
    differ true e n = cc
    differ false e n = cc

pub runs_are_right : EveryLegalHistoryIsLawful → RunsAreRight
runs_are_right laws =
    let permitted_ram : (s : State) → meets 1 (need_of ram 0) (zone_at s 0) ≡ true → Permits press_table s ram = λ s e. press_permits s ram e refl refl in
    let permitted_arm : (s : State) → meets 0 (need_of arm 0) (zone_at s 0) ≡ true → Permits press_table s arm = λ s e. press_permits s arm e refl refl in
    let moving = state_after moves in
    let handed = state_after (moves ++ opens) in
    record {
      legal = (refl, (refl, (refl, (refl, (refl, (refl, (refl, (refl, (refl, (refl, (refl, (refl, tt))))))))))));
      ram_waits = waits laws (did 1 (Claim 0) ∷ []) ram (fit 0 (omega arith)) refl;
      ram_begins = record { permitted = permitted_ram moving refl; kept = tt };
      others_calls = record { permitted = permitted_ram moving refl; kept = (λ x. absurd (omega (arith, x.own)), (λ x. absurd (omega (arith, x.own)), (λ x. absurd (omega (arith, x.own)), (λ x. absurd (omega (arith, x.own)), tt)))) };
      own_calls = record { permitted = permitted_ram moving refl; kept = (λ x. absurd (omega (arith, x.own)), (λ x. absurd (omega (arith, x.own)), (λ x. absurd (omega (arith, x.own)), (λ x. absurd (omega (arith, x.own)), (λ x. x.lost (permitted_ram _ refl), (λ x. x.lost (permitted_ram _ refl), tt)))))) };
      pose_loses = record { own = refl; before = permitted_ram moving refl; lost = not_permitted _ ram refl };
      ram_ends = waits laws (moves ++ did 1 (SetPose 0) ∷ []) ram (fit 0 (omega arith)) refl;
      arm_waits = waits laws (moves ++ did 1 (SetPose 0) ∷ []) arm (fit 1 (omega arith)) refl;
      arm_goes_on = record { permitted = permitted_arm handed refl; kept = (λ x. absurd (omega (arith, x.own)), tt) };
      gift_loses = record { own = refl; before = permitted_arm handed refl; lost = not_permitted _ arm refl };
      arm_ends = waits laws (moves ++ opens ++ gives) arm (fit 1 (omega arith)) refl;
    }
