-- Motors and hazards have no fault exactly if they fit their plan.
use Rattle.std.proofs.Common.{◌≡◌, ℕ, ◌<◌, Bool, true, false, ◌||◌, not, nat_lt, nat_le, List, length, Option, Some, None, is_some, ◌⊎◌, inl, inr, refl, ltb-true}
use Rattle.std.proofs.lemmas.Bool.{leb-true, le-leb, lt-ltb}
use Rattle.plan_types.specs.Below.{first_below}
use Rattle.plan_types.specs.Table.{PlanTable}
use Rattle.plan_types.specs.Plan.{IsPlan}
use Rattle.plan_types.proofs.lemmas.Below.{first_below_none, first_below_all}
use Rattle.plan_rules.specs.declared.state.State.{State}
use Rattle.plan_word.specs.OfPlan.{IsWithin}
use Rattle.plan_motors.specs.declared.motor.Motor.{Motor}
use Rattle.plan_motors.specs.declared.motor.Hazard.{Hazard}
use Rattle.plan_motors.specs.declared.exclusion.Cause.{Cause}
use Rattle.plan_motors.specs.declared.fault.MotorFault.{MotorFault}
use Rattle.plan_motors.specs.declared.fault.MotorFault.TheVariants.{TooManyMotors, NoSuchMachine, ForeignZone, NotHeld, ForeignPlace, NeverPermitted, NoSuchFirst, NoSuchSecond}
use Rattle.plan_motors.specs.Motor.{Permits}
use Rattle.plan_motors.specs.Exclusion.{cause, state_for}
use Rattle.plan_motors.specs.OfPlan.{IsMotorOf, motor_at, hazard_at, AreMotorsOf}
use Rattle.plan_motors.specs.Faults.{◌or◌, unless, zone_fault, posture_fault, need_fault, place_fault, idle_fault, motor_fault, hazard_fault, first_fault}
use Rattle.plan_motors.proofs.lemmas.Excluding.{cause_shown, never_both, state_shown}

both : (a b : Option MotorFault) → (a or b) ≡ None → (a ≡ None) × (b ≡ None)
both None b e = (refl, e)
both (Some f) b e = cc

both_none : (a b : Option MotorFault) → a ≡ None → b ≡ None → (a or b) ≡ None
both_none a b e f = rw (e, f) refl

holds : (b : Bool) (f : MotorFault) → unless b f ≡ None → b ≡ true
holds true f e = refl
holds false f e = cc

no_fault : (b : Bool) (f : MotorFault) → b ≡ true → unless b f ≡ None
no_fault b f e = rw e refl

-- an implication, as a test
then_too : (a b : Bool) → (not a || b) ≡ true → a ≡ true → b ≡ true
then_too true b e h = e
then_too false b e h = cc

implied : (a b : Bool) → (a ≡ true → b ≡ true) → (not a || b) ≡ true
implied true b k = k refl
implied false b k = refl

none_there : (o : Option Cause) → not (is_some o) ≡ true → o ≡ None
none_there None e = refl
none_there (Some c) e = cc

is_none_there : (o : Option Cause) → o ≡ None → not (is_some o) ≡ true
is_none_there o e = rw e refl

some_or_none : (o : Option Cause) → (o ≡ None) ⊎ ((c : Cause) × (o ≡ Some c))
some_or_none None = inl refl
some_or_none (Some c) = inr (c, refl)

runs_without_cause : (t : PlanTable) (m : Motor) (s : State) → IsWithin t s → Permits t s m → cause t m m ≡ None
runs_without_cause t m s k p =
    elim (some_or_none (cause t m m)) [
      | inl none ↦ none
      | inr c ↦ absurd (never_both t m m c.0 (cause_shown t m m c.0 c.1) s k.sound p p)
    ]

motor_fits : (t : PlanTable) (m : Motor) (k : ℕ) → IsPlan t → motor_fault t m k ≡ None → IsMotorOf t m
motor_fits t m k plan e =
    let a = unless (nat_lt m.machine t.machines) (NoSuchMachine k) in
    let b = first_below (need_fault t m k) 10 in
    let c = first_below (place_fault t m k) 16 in
    let h2 = both (a or b or c) (idle_fault t m k) e in
    let h1 = both (a or b) c h2.0 in
    let h0 = both a b h1.0 in
    let need : (z : ℕ) → z < 10 → (zone_fault t m k z ≡ None) × (posture_fault t m k z ≡ None) = λ z l.
    both (zone_fault t m k z) (posture_fault t m k z) (first_below_none (need_fault t m k) 10 h0.1 z l) in
    let shown = state_shown t m m plan (none_there (cause t m m) (holds _ (NeverPermitted k) h2.1)) in
    record {
      machine_is_of_plan = ltb-true _ _ (holds _ (NoSuchMachine k) h0.0);
      zone_is_shared = λ z l. then_too _ _ (holds _ (ForeignZone k z) (need z l).0);
      posture_is_kept = λ z l. then_too _ _ (holds _ (NotHeld k z) (need z l).1);
      place_is_own = λ p l. then_too _ _ (holds _ (ForeignPlace k p) (first_below_none (place_fault t m k) 16 h1.1 p l));
      can_be = (state_for t m m, shown.0, shown.1);
    }

fitting_motor : (t : PlanTable) (m : Motor) (k : ℕ) → IsMotorOf t m → motor_fault t m k ≡ None
fitting_motor t m k f =
    let run = f.can_be in
    both_none _ _ (both_none _ _ (both_none _ _
    (no_fault _ (NoSuchMachine k) (lt-ltb _ _ f.machine_is_of_plan))
    (first_below_all (need_fault t m k) 10 (λ z l. both_none (zone_fault t m k z) (posture_fault t m k z)
    (no_fault _ (ForeignZone k z) (implied _ _ (f.zone_is_shared z l)))
    (no_fault _ (NotHeld k z) (implied _ _ (f.posture_is_kept z l))))))
    (first_below_all (place_fault t m k) 16 (λ p l. no_fault _ (ForeignPlace k p) (implied _ _ (f.place_is_own p l)))))
    (no_fault _ (NeverPermitted k) (is_none_there (cause t m m) (runs_without_cause t m run.0 run.1 run.2)))

pub all_fit : (t : PlanTable) (ms : List Motor) (hs : List Hazard) → IsPlan t → first_fault t ms hs ≡ None → AreMotorsOf t ms hs
all_fit t ms hs plan e =
    let n = length ms in
    let a = unless (nat_le n 64) TooManyMotors in
    let b = first_below (λ k. motor_fault t (motor_at ms k) k) n in
    let c = first_below (λ k. hazard_fault n (hazard_at hs k) k) (length hs) in
    let h1 = both (a or b) c e in
    let h0 = both a b h1.0 in
    let hazard : (k : ℕ) → k < length hs → (unless (nat_lt (hazard_at hs k).first n) (NoSuchFirst k) ≡ None) × (unless (nat_lt (hazard_at hs k).second n) (NoSuchSecond k) ≡ None) = λ k l.
    both (unless (nat_lt (hazard_at hs k).first n) (NoSuchFirst k)) (unless (nat_lt (hazard_at hs k).second n) (NoSuchSecond k)) (first_below_none (λ k. hazard_fault n (hazard_at hs k) k) (length hs) h1.1 k l) in
    record {
      motors_at_most = leb-true _ _ (holds _ TooManyMotors h0.0);
      each_motor = λ k l. motor_fits t (motor_at ms k) k plan (first_below_none (λ k. motor_fault t (motor_at ms k) k) n h0.1 k l);
      first_is_motor = λ k l. ltb-true _ _ (holds _ (NoSuchFirst k) (hazard k l).0);
      second_is_motor = λ k l. ltb-true _ _ (holds _ (NoSuchSecond k) (hazard k l).1);
    }

pub no_first_fault : (t : PlanTable) (ms : List Motor) (hs : List Hazard) → AreMotorsOf t ms hs → first_fault t ms hs ≡ None
no_first_fault t ms hs f =
    both_none _ _ (both_none _ _
    (no_fault _ TooManyMotors (le-leb _ _ f.motors_at_most))
    (first_below_all (λ k. motor_fault t (motor_at ms k) k) (length ms) (λ k l. fitting_motor t (motor_at ms k) k (f.each_motor k l))))
    (first_below_all (λ k. hazard_fault (length ms) (hazard_at hs k) k) (length hs) (λ k l. both_none _ _
    (no_fault _ (NoSuchFirst k) (lt-ltb _ _ (f.first_is_motor k l)))
    (no_fault _ (NoSuchSecond k) (lt-ltb _ _ (f.second_is_motor k l)))))
