-- What each line says that `plan header` prints for turns, for all names, sensors and steps: in the words of
-- `bagunjoki_plan.h`.
use Rattle.std.specs.Prelude.{◌≡◌, ℕ, true, false, List, [], ◌∷◌, ◌++◌, codes, filter, get_or, length}
use Rattle.std.specs.Fmt.{decimal}
use Rattle.plan_types.specs.declared.call.Call.TheVariants.{Claim, Give, Yield, Take, Release, SetPose, Inquire, Stop}
use Rattle.plan_types.specs.declared.call.Call.TheVariants.{Resume, Advance}
use Rattle.plan_controller.specs.declared.faults.Faults.{Faults}
use Rattle.plan_controller.specs.declared.faults.Mendable.{Mendable}
use Rattle.plan_controller.specs.declared.step.Step.{Step}
use Rattle.plan_controller.specs.declared.step.Step.TheVariants.{Do, Await, Run}
use Rattle.plan_controller.specs.Faults.{all_mendable, has}
use Rattle.plan_text.specs.Names.{Text, name_in}
use Rattle.plan_text.specs.Named.{Named}
use Rattle.plan_header.specs.Headers as header
use Rattle.plan_header.specs.HeaderLaws.{for_each, stands}
use Rattle.plan_header.specs.Turns as turns
use Rattle.plan_header.specs.Words.{capitals}
use Rattle.plan_header.specs.declared.lists.TheConstants.{NAMES}
use Rattle.plan_header.specs.declared.turns.TheConstants.{BITS, PROGRAMS}

-- ---- names

-- a list for C: a name in each line, and a null
abbrev pub c_list : Text → List Text → Text
c_list kind names =
    (codes "static const char *const PLAN_NAMES_OF_" ++ (kind ++ codes "[] = {\n"))
    ++ (for_each (length names) (λ k. codes "    \"" ++ (name_in names k ++ codes "\",\n")) ++ codes "    0,\n};\n")

pub record ListsAreTold : Type 0 where
  pub kinds : (n : Named) (motors : List Text)
      → turns.lists_part n motors
      ≡ NAMES.now
      ++ ((c_list (codes "MACHINES") n.machines
      ++ (c_list (codes "ZONES") n.zones ++ c_list (codes "PLACES") n.places))
      ++ (c_list (codes "POSES") n.poses ++ c_list (codes "MOTORS") motors))

-- ---- words

-- the header defines a word as a number
abbrev pub is_defined : Text → ℕ → Text
is_defined word number = codes "#define " ++ (word ++ (codes " " ++ (decimal number ++ codes "\n")))

-- each word of a program's line is one that the header defines, as the number of the zone, the pose or the sensor
pub record WordsAreDefined : Type 0 where
  pub zone : (n : Named) (k : ℕ) → header.number_line (codes "zone") n.zones k ≡ is_defined (turns.zone_word n k) k
  pub place : (n : Named) (k : ℕ) → header.number_line (codes "place") n.places k ≡ is_defined (turns.place_word n k) k
  pub pose : (n : Named) (k : ℕ) → header.pose_line n k ≡ is_defined (turns.pose_word n k) k
  pub sensor : (n : Named) (sensors : List (List Text)) (machine k : ℕ)
      → turns.sensor_line n sensors machine k ≡ is_defined (turns.sensor_word n sensors machine k) k
  -- a sensor has the names of its machine and its own
  pub named : (n : Named) (sensors : List (List Text)) (machine k : ℕ)
      → turns.sensor_line n sensors machine k
      ≡ stands (codes "sensor_" ++ (name_in n.machines machine
      ++ (codes "_" ++ name_in (get_or sensors machine []) k))) (decimal k)
  pub sensors : (n : Named) (sensors : List (List Text))
      → turns.all_sensors n sensors
      ≡ for_each (length n.machines)
      (λ machine. for_each (length (get_or sensors machine [])) (turns.sensor_line n sensors machine))
  pub motors : (motors : List Text)
      → turns.motor_lines motors
      ≡ BITS.now
      ++ (for_each (length motors) (λ k. stands (codes "motor_" ++ name_in motors k) (decimal k))
      ++ stands (codes "motors") (decimal (length motors)))

-- ---- lines

-- a line of a program: motors, kind, object, until which sensor, and faults
abbrev pub five : Text → Text → Text → Text → Text → Text
five motors kind object until faults =
    codes "    {" ++ (motors ++ (codes ", BAGUNJOKI_PLAN_" ++ (kind ++ (codes ", " ++ (object
    ++ (codes ", " ++ (until ++ (codes ", " ++ (faults ++ codes "},\n")))))))))

-- what a step doesn't have is 0
abbrev pub nothing : Text
nothing = codes "0"

-- the step of a machine, of any plan
pub record LinesAreTold (n : Named) (sensors : List (List Text)) (m : ℕ) : Type 0 where
  pub claim : (z : ℕ) (f : Faults) → turns.step_row n sensors m (Do (Claim z) f)
      ≡ five nothing (codes "CLAIM") (turns.zone_word n z) nothing (turns.faults_word f)
  pub give : (z : ℕ) (f : Faults) → turns.step_row n sensors m (Do (Give z) f)
      ≡ five nothing (codes "GIVE") (turns.zone_word n z) nothing (turns.faults_word f)
  pub yield : (z : ℕ) (f : Faults) → turns.step_row n sensors m (Do (Yield z) f)
      ≡ five nothing (codes "YIELD") (turns.zone_word n z) nothing (turns.faults_word f)
  pub take : (z : ℕ) (f : Faults) → turns.step_row n sensors m (Do (Take z) f)
      ≡ five nothing (codes "TAKE") (turns.zone_word n z) nothing (turns.faults_word f)
  pub release : (z : ℕ) (f : Faults) → turns.step_row n sensors m (Do (Release z) f)
      ≡ five nothing (codes "RELEASE") (turns.zone_word n z) nothing (turns.faults_word f)
  pub pose : (p : ℕ) (f : Faults) → turns.step_row n sensors m (Do (SetPose p) f)
      ≡ five nothing (codes "SET_POSE") (turns.pose_word n p) nothing (turns.faults_word f)
  pub inquire : (z : ℕ) (f : Faults) → turns.step_row n sensors m (Do (Inquire z) f)
      ≡ five nothing (codes "INQUIRE") (turns.zone_word n z) nothing (turns.faults_word f)
  pub stop : (f : Faults) → turns.step_row n sensors m (Do Stop f)
      ≡ five nothing (codes "STOP") nothing nothing (turns.faults_word f)
  pub resume : (f : Faults) → turns.step_row n sensors m (Do Resume f)
      ≡ five nothing (codes "RESUME") nothing nothing (turns.faults_word f)
  pub advance : (p : ℕ) (f : Faults) → turns.step_row n sensors m (Do (Advance p) f)
      ≡ five nothing (codes "ADVANCE") (turns.place_word n p) nothing (turns.faults_word f)
  pub await : (z : ℕ) → turns.step_row n sensors m (Await z)
      ≡ five nothing (codes "AWAIT") (turns.zone_word n z) nothing nothing
  -- the motors are those that have a bit
  pub run : (motors until : ℕ) → turns.step_row n sensors m (Run motors until)
      ≡ five (codes "UINT64_C(" ++ (decimal motors ++ codes ")")) (codes "RUN") nothing
      (turns.sensor_word n sensors m until) nothing

-- the faults of a line, one after the other: of each the bit of its answer
pub record FaultsAreTold : Type 0 where
  pub none : turns.fault_bits [] ≡ codes "0"
  pub one : (fault : Mendable) → turns.fault_bits (fault ∷ []) ≡ turns.fault_bit fault
  pub later : (first next : Mendable) (later : List Mendable)
      → turns.fault_bits (first ∷ next ∷ later)
      ≡ turns.fault_bit first ++ (codes " | " ++ turns.fault_bits (next ∷ later))
  pub all : (f : Faults) → turns.faults_word f ≡ turns.fault_bits (filter (has f) all_mendable)

-- ---- programs

-- the lines of a program in order, between its name and how many there are
pub record ProgramsAreTold (n : Named) (sensors : List (List Text)) : Type 0 where
  pub none : (m : ℕ) → turns.step_rows n sensors m [] ≡ []
  pub next : (m : ℕ) (step : Step) (later : List Step)
      → turns.step_rows n sensors m (step ∷ later)
      ≡ turns.step_row n sensors m step ++ turns.step_rows n sensors m later
  pub no_lines : (m : ℕ) → turns.program_lines n sensors m [] ≡ []
  pub lines : (m : ℕ) (step : Step) (later : List Step)
      → turns.program_lines n sensors m (step ∷ later)
      ≡ (codes "static const bagunjoki_plan_line PLAN_"
      ++ (capitals (codes "program_" ++ name_in n.machines m) ++ codes "[] = {\n"))
      ++ (turns.step_rows n sensors m (step ∷ later)
      ++ (codes "};\n" ++ stands (codes "lines_" ++ name_in n.machines m) (decimal (length (step ∷ later)))))
  pub some : (programs : List (List Step)) → turns.have_lines programs ≡ true
      → turns.all_programs n sensors programs
      ≡ PROGRAMS.now
      ++ (for_each (length n.machines) (λ m. turns.program_lines n sensors m (get_or programs m []))
      ++ codes "#endif\n")
  pub without : (programs : List (List Step)) → turns.have_lines programs ≡ false
      → turns.all_programs n sensors programs ≡ []

-- some machine has a line
pub record LinesAreThere : Type 0 where
  pub nobody : turns.have_lines [] ≡ false
  pub not_first : (later : List (List Step)) → turns.have_lines ([] ∷ later) ≡ turns.have_lines later
  pub first : (step : Step) (steps : List Step) (later : List (List Step))
      → turns.have_lines ((step ∷ steps) ∷ later) ≡ true

pub record TurnsTell : Type 0 where
  pub lists : ListsAreTold
  pub words : WordsAreDefined
  pub lines : (n : Named) (sensors : List (List Text)) (m : ℕ) → LinesAreTold n sensors m
  pub faults : FaultsAreTold
  pub programs : (n : Named) (sensors : List (List Text)) → ProgramsAreTold n sensors
  pub there : LinesAreThere
  pub whole : (n : Named) (motors : List Text) (sensors : List (List Text)) (programs : List (List Step))
      → turns.turns_part n motors sensors programs
      ≡ turns.motor_lines motors ++ (turns.all_sensors n sensors ++ turns.all_programs n sensors programs)
