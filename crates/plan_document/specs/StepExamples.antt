-- What literal lines of programs say, and which sensors a machine may have.
use Rattle.std.specs.Prelude.{◌≡◌, ℕ, List, [], ◌∷◌, codes, filter, replicate, true, String, string_bytes, None}
use Rattle.std.specs.declared.alloc.Global.{Global}
use Rattle.std.specs.List.{range_with_len}
use Rattle.plan_types.specs.declared.call.Call.TheVariants.{Give, Take, Inquire}
use Rattle.plan_motors.specs.declared.motor.Motor.{Motor}
use Rattle.plan_motors.specs.Motor.{no_need}
use Rattle.plan_drives.specs.Program.{has_bit}
use Rattle.plan_controller.specs.declared.step.Step.{Step}
use Rattle.plan_controller.specs.declared.step.Step.TheVariants.{Do, Await, Run}
use Rattle.plan_controller.specs.Faults.{no_faults}
use Rattle.plan_text.specs.Named.{Named}
use Rattle.plan_text.specs.Names.{Text}
use Rattle.plan_document.specs.declared.motors.NamedMotors.{NamedMotors}
use Rattle.plan_document.specs.Saying.{AreSensors, AreStepsOf, IsStepOf, calls_of}
use Rattle.plan_document.specs.WordExamples.{parked}

-- the lift (0) has the motors hoist, fan and lamp, and the lower floor (1) has a gate; each machine has these two
-- sensors
abbrev pub driven_by : ℕ → Motor
driven_by machine = record { machine = machine; zones = replicate 10 no_need; places = replicate 16 None }

pub record AreOfLift (m : NamedMotors) : Type 0 where
  pub names : m.names ≡ codes "hoist" ∷ codes "gate" ∷ codes "fan" ∷ codes "lamp" ∷ []
  pub motors : m.motors.items ≡ driven_by 0 ∷ driven_by 1 ∷ driven_by 0 ∷ driven_by 0 ∷ []

abbrev pub IsRead : NamedMotors → ℕ → Text → Step → Type 0
IsRead m machine line step = IsStepOf parked m (codes "top" ∷ codes "until" ∷ []) machine line step

pub record StepsAreRead (m : NamedMotors) (is : AreOfLift m) (s : Step) : Type 0 where
  pub call : IsRead m 2 (codes "give above") s → s ≡ Do (Give 1) no_faults
  pub zone : IsRead m 2 (codes "await above") s → s ≡ Await 1
  pub strangers : IsRead m 1 (codes "await above") s → ⊥
  pub sensor : IsRead m 2 (codes "await until") s → s ≡ Run 0 1
  pub nothing : IsRead m 2 (codes "await attic") s → ⊥
  pub waits_on_faults : IsRead m 2 (codes "await above or stop on held") s → ⊥
  pub blanks : IsRead m 2 (codes "await  top") s → ⊥
  pub runs : IsRead m 1 (codes "run gate until until") s → (motors : ℕ) × (s ≡ Run motors 1)
      × (filter (has_bit motors) (range_with_len 0 64) ≡ 1 ∷ [])
  pub both : IsRead m 0 (codes "run fan hoist until top") s → (motors : ℕ) × (s ≡ Run motors 0)
      × (filter (has_bit motors) (range_with_len 0 64) ≡ 0 ∷ 2 ∷ [])
  pub three : IsRead m 0 (codes "run lamp fan hoist until top") s → (motors : ℕ) × (s ≡ Run motors 0)
      × (filter (has_bit motors) (range_with_len 0 64) ≡ 0 ∷ 2 ∷ 3 ∷ [])
  pub others : IsRead m 0 (codes "run gate until top") s → ⊥
  pub no_sensor : IsRead m 0 (codes "run fan until low") s → ⊥
  pub no_motor : IsRead m 0 (codes "run until top") s → ⊥
  pub no_until : IsRead m 0 (codes "run fan top") s → ⊥

pub record StepsAreOfLines (n : Named) (m : NamedMotors) (sensors : List Text) (machine : ℕ) : Type 0 where
  pub line_lost : (line : String Global) → AreStepsOf n m sensors machine (line ∷ []) [] → ⊥
  pub step_added : (step : Step) → AreStepsOf n m sensors machine [] (step ∷ []) → ⊥
  pub in_order : (a b : String Global) (x y : Step) → AreStepsOf n m sensors machine (a ∷ b ∷ []) (x ∷ y ∷ [])
      → IsStepOf n m sensors machine (string_bytes a) x × IsStepOf n m sensors machine (string_bytes b) y

-- sensors are no zones, and told apart; what is asked by steps
pub record StepsAreTold (zones : List Text) : Type 0 where
  pub no_zone : AreSensors (codes "above" ∷ []) (codes "top" ∷ codes "above" ∷ []) → ⊥
  pub twice : AreSensors zones (codes "top" ∷ codes "top" ∷ []) → ⊥
  pub no_name : AreSensors zones (codes "at top" ∷ []) → ⊥
  pub few : AreSensors zones (replicate 33 (codes "top")) → ⊥
  pub asked : calls_of
      (Do (Give 1) no_faults ∷ Run 4 0 ∷ Await 1 ∷ Run 0 1 ∷ Do (Take 1) (record no_faults { held = true }) ∷ [])
      ≡ Give 1 ∷ Inquire 1 ∷ Take 1 ∷ []

pub record StepsAreMet : Type 0 where
  pub read : (m : NamedMotors) (is : AreOfLift m) (s : Step) → StepsAreRead m is s
  pub steps : (n : Named) (m : NamedMotors) (sensors : List Text) (machine : ℕ) → StepsAreOfLines n m sensors machine
  pub told : (zones : List Text) → StepsAreTold zones
