-- What the line of a step says.
use Rattle.std.proofs.Common.{◌≡◌, ◌∙◌, ◌++◌, ◌∷◌, [], ℕ, Bool, true, false, nat_eq, List, codes, refl, sym, ap, subst, append_assoc, Option, Some, None, inl, inr, slice_get, slice_index}
use Rattle.std.proofs.lemmas.Bool.{eqb-true}
use Rattle.std.proofs.lemmas.List.{append_cancel_left, append_cancel_right}
use Rattle.std.proofs.lemmas.Option.{get_or_from_slice_get}
use Rattle.std.specs.Bool.{then_some}
use Rattle.std.specs.List.{list_any}
use Rattle.std.specs.Option.{option_and_then, option_eq}
use Rattle.plan_types.specs.declared.call.Call.{Call}
use Rattle.plan_types.specs.Table.{is_party}
use Rattle.plan_motors.specs.declared.motor.Motor.{Motor}
use Rattle.plan_motors.specs.OfPlan.{motor_at, no_motor}
use Rattle.plan_drives.specs.Program.{has_bit}
use Rattle.plan_controller.specs.declared.faults.Faults.{Faults}
use Rattle.plan_controller.specs.declared.step.Step.TheVariants.{Do, Await, Run}
use Rattle.plan_text.specs.Named.{Named}
use Rattle.plan_text.specs.Names.{Text, name_in, number_in}
use Rattle.plan_document.specs.declared.motors.NamedMotors.{NamedMotors}
use Rattle.plan_document.specs.Saying.{AreMotorsIn, HasFaults, IsCallOf, IsStepOf, is_driven_by, own_motor, words_in}
use Rattle.plan_document.proofs.Running.{no_bit}
use Rattle.plan_document.proofs.Standing.{name_of, passed}

pub call_line : (n : Named) (m : NamedMotors) (sensors : List Text) (machine : ℕ) (line : Text) (call : Call) (faults : Faults) → IsStepOf n m sensors machine line (Do call faults)
    → (ask : Text) × IsCallOf n machine ask call × HasFaults line ask faults
call_line n m sensors machine line call faults (inl one) =
    let is = one.step_is in
    let same_call : call ≡ one.call = cc in
    let same_faults : faults ≡ one.faults = cc in
    (one.ask, subst (IsCallOf n machine one.ask) (sym same_call) one.call_is, subst (HasFaults line one.ask) (sym same_faults) one.faults_are)
call_line n m sensors machine line call faults (inr (inl one)) = absurd one.2
call_line n m sensors machine line call faults (inr (inr one)) = let other = one.2.step_is in absurd (cc)

pub zone_line : (n : Named) (m : NamedMotors) (sensors : List Text) (machine : ℕ) (line : Text) (zone : ℕ) → IsStepOf n m sensors machine line (Await zone)
    → (name : Text) × (line ≡ codes "await " ++ name) × (number_in n.zones name ≡ Some zone) × (is_party n.plan machine zone ≡ true)
zone_line n m sensors machine line zone (inl one) = let other = one.step_is in absurd (cc)
zone_line n m sensors machine line zone (inr (inl one)) = (one.0, one.1, one.2.0, one.2.1)
zone_line n m sensors machine line zone (inr (inr one)) = let other = one.2.step_is in absurd (cc)

-- ---- motors

pub no_bits : (i : ℕ) → has_bit 0 i ≡ true → ⊥
no_bits i on = let off = no_bit i in cc

pub some_motor : (o : Option ℕ) (motor : ℕ) → option_eq nat_eq o (Some motor) ≡ true → o ≡ Some motor
some_motor None motor e = absurd (cc)
some_motor (Some k) motor e = ap (λ j. Some j) (eqb-true k motor e)

driven : (machine : ℕ) (o : Option Motor) → is_driven_by machine o ≡ true → (one : Motor) × (o ≡ Some one) × (one.machine ≡ machine)
driven machine None e = absurd (cc)
driven machine (Some one) e = (one, refl, eqb-true one.machine machine e)

-- a motor that is found by its name is the machine's
own_machine : (m : NamedMotors) (machine : ℕ) (name : Text) (motor : ℕ) → own_motor m machine name ≡ Some motor → (motor_at m.motors.items motor).machine ≡ machine
own_machine m machine name motor is = by (number_in m.names name) is
  where
    by : (o : Option ℕ) → option_and_then (λ k. then_some (is_driven_by machine (slice_get m.motors.items k)) k) o ≡ Some motor → (motor_at m.motors.items motor).machine ≡ machine
    by None e = absurd (cc)
    by (Some k) e =
        let p = passed (is_driven_by machine (slice_get m.motors.items k)) k motor e in
        let one = driven machine (slice_get m.motors.items k) p.0 in
        ap (λ j. (motor_at m.motors.items j).machine) (sym p.1)
        ∙ ap (λ (x : Motor). x.machine) (get_or_from_slice_get m.motors.items k one.0 no_motor one.1)
        ∙ one.2

any_own : (m : NamedMotors) (machine motor : ℕ) (names : List Text) → list_any (λ name. option_eq nat_eq (own_motor m machine name) (Some motor)) names ≡ true → (motor_at m.motors.items motor).machine ≡ machine
any_own m machine motor [] e = absurd (cc)
any_own m machine motor (name ∷ names) e = by (any_own m machine motor names) (option_eq nat_eq (own_motor m machine name) (Some motor)) refl
  where
    by : (list_any (λ word. option_eq nat_eq (own_motor m machine word) (Some motor)) names ≡ true → (motor_at m.motors.items motor).machine ≡ machine)
        → (b : Bool) → option_eq nat_eq (own_motor m machine name) (Some motor) ≡ b → (motor_at m.motors.items motor).machine ≡ machine
    by others true is = own_machine m machine name motor (some_motor (own_motor m machine name) motor is)
    by others false is = others (rw is at e)

-- a run, or a wait for a sensor: the line up to the last blank, and the sensor; each motor is the machine's
pub run_line : (n : Named) (m : NamedMotors) (sensors : List Text) (machine : ℕ) (line : Text) (motors until : ℕ) → IsStepOf n m sensors machine line (Run motors until)
    → (before name : Text) × (line ≡ before ++ codes " " ++ name) × (number_in sensors name ≡ Some until) × ((motor : ℕ) → has_bit motors motor ≡ true → (motor_at m.motors.items motor).machine ≡ machine)
run_line n m sensors machine line motors until (inl one) = let other = one.step_is in absurd (cc)
run_line n m sensors machine line motors until (inr (inl one)) = (
  codes "await",
  one.0,
  one.1,
  one.2.1,
  λ motor on. absurd (no_bits motor (subst (λ bits. has_bit bits motor ≡ true) one.2.0 on)),
)
run_line n m sensors machine line motors until (inr (inr one)) =
    let runs = one.2 in
    let same_until : until ≡ runs.until = let is = runs.step_is in cc in
    let same_motors : motors ≡ runs.motors = let is = runs.step_is in cc in (
      codes "run " ++ runs.names ++ codes " until",
      runs.sensor,
      one.1
          ∙ ap (λ t. codes "run " ++ t) runs.words_are
          ∙ ap (λ t. codes "run " ++ (t ++ runs.sensor)) (sym (append_assoc runs.names (codes " until") (codes " "))),
      runs.until_is ∙ ap (λ k. Some k) (sym same_until),
      λ motor on. any_own m machine motor (words_in runs.names) (sym (runs.motors_are.bits motor) ∙ subst (λ bits. has_bit bits motor ≡ true) same_motors on),
    )

-- ---- runs and waits

abbrev begins : ℕ → Text → Bool
begins byte line = nat_eq (slice_index line 0) byte

apart : true ≡ false → ⊥
apart e = cc

-- what a run has are the motors between `run` and `until`
pub run_names : (n : Named) (m : NamedMotors) (sensors : List Text) (machine : ℕ) (line : Text) (motors until : ℕ) (names : Text) → IsStepOf n m sensors machine line (Run motors until)
    → line ≡ codes "run " ++ names ++ codes " until " ++ name_in sensors until → AreMotorsIn m machine names motors
run_names n m sensors machine line motors until names (inl one) is = let other = one.step_is in absurd (cc)
run_names n m sensors machine line motors until names (inr (inl one)) is = absurd (apart (sym (ap (begins 97) one.1) ∙ ap (begins 97) is))
run_names n m sensors machine line motors until names (inr (inr one)) is =
    let runs = one.2 in
    let same_until : runs.until ≡ until = let e = runs.step_is in cc in
    let same_motors : runs.motors ≡ motors = let e = runs.step_is in cc in
    let sensor : runs.sensor ≡ name_in sensors until = sym (name_of sensors runs.sensor runs.until runs.until_is) ∙ ap (name_in sensors) same_until in
    let tail = codes " until " ++ name_in sensors until in
    let rest : one.0 ≡ names ++ codes " until " ++ name_in sensors until = append_cancel_left (codes "run ") one.0 (names ++ codes " until " ++ name_in sensors until) (sym one.1 ∙ is) in
    let same : runs.names ++ tail ≡ names ++ tail =
    sym (append_assoc runs.names (codes " until ") (name_in sensors until))
    ∙ ap (λ t. runs.names ++ codes " until " ++ t) (sym sensor) ∙ sym runs.words_are ∙ rest ∙ append_assoc names (codes " until ") (name_in sensors until) in
    subst (λ t. AreMotorsIn m machine t motors) (append_cancel_right runs.names names tail same)
    (subst (λ k. AreMotorsIn m machine runs.names k) same_motors runs.motors_are)

-- a wait has none
pub wait_still : (n : Named) (m : NamedMotors) (sensors : List Text) (machine : ℕ) (line : Text) (motors until : ℕ) (name : Text) → IsStepOf n m sensors machine line (Run motors until)
    → line ≡ codes "await " ++ name → motors ≡ 0
wait_still n m sensors machine line motors until name (inl one) is = let other = one.step_is in absurd (cc)
wait_still n m sensors machine line motors until name (inr (inl one)) is = one.2.0
wait_still n m sensors machine line motors until name (inr (inr one)) is = absurd (apart (sym (ap (begins 114) one.1) ∙ ap (begins 114) is))
