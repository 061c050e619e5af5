-- What `plan header` prints for turns, whole: of a lift between two floors.
use Rattle.std.specs.Prelude.{◌≡◌, true, List, [], ◌∷◌, ◌++◌, codes}
use Rattle.plan_types.specs.declared.call.Call.TheVariants.{Claim, Give, Yield, Take, Release, SetPose, Inquire, Stop}
use Rattle.plan_types.specs.declared.call.Call.TheVariants.{Resume, Advance}
use Rattle.plan_controller.specs.declared.faults.Faults.{Faults}
use Rattle.plan_controller.specs.declared.step.Step.{Step}
use Rattle.plan_controller.specs.declared.step.Step.TheVariants.{Do, Await, Run}
use Rattle.plan_controller.specs.FaultExamples.{all_faults}
use Rattle.plan_controller.specs.Faults.{no_faults}
use Rattle.plan_text.specs.Names.{Text}
use Rattle.plan_header.specs.HeaderExamples.{lift, presses}
use Rattle.plan_header.specs.Turns as turns
use Rattle.plan_header.specs.declared.lists.TheConstants.{NAMES}
use Rattle.plan_header.specs.declared.turns.TheConstants.{BITS, PROGRAMS}

abbrev pub lift_motors : List Text
lift_motors = codes "hoist" ∷ codes "gate" ∷ []

-- the lift has two sensors, the lower floor none, the upper one another
abbrev pub lift_sensors : List (List Text)
lift_sensors = (codes "bottom" ∷ codes "top" ∷ []) ∷ [] ∷ (codes "shut" ∷ []) ∷ []

abbrev pub if_shut : Faults
if_shut = record no_faults { shut = true; stopped = true }

-- the lift goes up, unless its zone is shut or the plant stopped; the upper floor waits until both of its motors are
-- done; the lower floor does nothing
abbrev pub lift_programs : List (List Step)
lift_programs =
    (Do (Claim 1) if_shut ∷ Do (SetPose 0) no_faults ∷ Run 1 1 ∷ Do (SetPose 2) no_faults ∷ Do (Give 1) no_faults ∷ [])
    ∷ [] ∷ (Await 1 ∷ Run 3 0 ∷ Do (Take 1) no_faults ∷ Do (Release 1) no_faults ∷ []) ∷ []

pub record TurnLines : Type 0 where
  pub lists : turns.lists_part lift lift_motors
      ≡ NAMES.now
      ++ codes "static const char *const PLAN_NAMES_OF_MACHINES[] = {\n"
      ++ codes "    \"lift\",\n    \"low\",\n    \"high\",\n    0,\n};\n"
      ++ codes "static const char *const PLAN_NAMES_OF_ZONES[] = {\n"
      ++ codes "    \"lower\",\n    \"upper\",\n    0,\n};\n"
      ++ codes "static const char *const PLAN_NAMES_OF_PLACES[] = {\n"
      ++ codes "    \"cabin\",\n    \"ground\",\n    \"loft\",\n    0,\n};\n"
      ++ codes "static const char *const PLAN_NAMES_OF_POSES[] = {\n"
      ++ codes "    \"travel\",\n    \"load_low\",\n    \"unload_high\",\n    \"unload_low\",\n    \"load_high\",\n"
      ++ codes "    0,\n};\n"
      ++ codes "static const char *const PLAN_NAMES_OF_MOTORS[] = {\n"
      ++ codes "    \"hoist\",\n    \"gate\",\n    0,\n};\n"
  pub no_motors : turns.name_list (codes "MOTORS") []
      ≡ codes "static const char *const PLAN_NAMES_OF_MOTORS[] = {\n    0,\n};\n"
  pub motors : turns.motor_lines lift_motors
      ≡ BITS.now
      ++ codes "#define PLAN_MOTOR_HOIST 0\n#define PLAN_MOTOR_GATE 1\n#define PLAN_MOTORS 2\n"
  pub sensors : turns.all_sensors lift lift_sensors
      ≡ codes "#define PLAN_SENSOR_LIFT_BOTTOM 0\n#define PLAN_SENSOR_LIFT_TOP 1\n"
      ++ codes "#define PLAN_SENSOR_HIGH_SHUT 0\n"
  pub programs : turns.all_programs lift lift_sensors lift_programs
      ≡ PROGRAMS.now
      ++ codes "static const bagunjoki_plan_line PLAN_PROGRAM_LIFT[] = {\n"
      ++ codes "    {0, BAGUNJOKI_PLAN_CLAIM, PLAN_ZONE_UPPER, 0, 1 << BAGUNJOKI_PLAN_SHUT | "
      ++ codes "1 << BAGUNJOKI_PLAN_STOPPED},\n"
      ++ codes "    {0, BAGUNJOKI_PLAN_SET_POSE, PLAN_POSE_LIFT_TRAVEL, 0, 0},\n"
      ++ codes "    {UINT64_C(1), BAGUNJOKI_PLAN_RUN, 0, PLAN_SENSOR_LIFT_TOP, 0},\n"
      ++ codes "    {0, BAGUNJOKI_PLAN_SET_POSE, PLAN_POSE_LIFT_UNLOAD_HIGH, 0, 0},\n"
      ++ codes "    {0, BAGUNJOKI_PLAN_GIVE, PLAN_ZONE_UPPER, 0, 0},\n};\n#define PLAN_LINES_LIFT 5\n"
      ++ codes "static const bagunjoki_plan_line PLAN_PROGRAM_HIGH[] = {\n"
      ++ codes "    {0, BAGUNJOKI_PLAN_AWAIT, PLAN_ZONE_UPPER, 0, 0},\n"
      ++ codes "    {UINT64_C(3), BAGUNJOKI_PLAN_RUN, 0, PLAN_SENSOR_HIGH_SHUT, 0},\n"
      ++ codes "    {0, BAGUNJOKI_PLAN_TAKE, PLAN_ZONE_UPPER, 0, 0},\n"
      ++ codes "    {0, BAGUNJOKI_PLAN_RELEASE, PLAN_ZONE_UPPER, 0, 0},\n};\n#define PLAN_LINES_HIGH 4\n"
      ++ codes "#endif\n"
  -- the remaining kinds; a pose has the name of its own machine
  pub rows : turns.step_rows presses [] 0
      (Do (Yield 0) no_faults ∷ Do (Inquire 1) no_faults ∷ Do Stop no_faults ∷ Do Resume no_faults
      ∷ Do (SetPose 3) (record no_faults { held = true }) ∷ Do (Advance 2) no_faults ∷ [])
      ≡ codes "    {0, BAGUNJOKI_PLAN_YIELD, PLAN_ZONE_NEAR, 0, 0},\n"
      ++ codes "    {0, BAGUNJOKI_PLAN_INQUIRE, PLAN_ZONE_FAR, 0, 0},\n"
      ++ codes "    {0, BAGUNJOKI_PLAN_STOP, 0, 0, 0},\n    {0, BAGUNJOKI_PLAN_RESUME, 0, 0, 0},\n"
      ++ codes "    {0, BAGUNJOKI_PLAN_SET_POSE, PLAN_POSE_RIGHT_RIGHT_OPEN, 0, 1 << BAGUNJOKI_PLAN_HELD},\n"
      ++ codes "    {0, BAGUNJOKI_PLAN_ADVANCE, PLAN_PLACE_RIGHT_BED, 0, 0},\n"
  -- each fault by its answer, one after the other
  pub faults : turns.faults_word all_faults
      ≡ codes "1 << BAGUNJOKI_PLAN_HELD | 1 << BAGUNJOKI_PLAN_SHUT | 1 << BAGUNJOKI_PLAN_NOT_OWNER"
      ++ codes " | 1 << BAGUNJOKI_PLAN_PLATE_IN_ZONE | 1 << BAGUNJOKI_PLAN_NO_PLATE"
      ++ codes " | 1 << BAGUNJOKI_PLAN_PLACE_FULL | 1 << BAGUNJOKI_PLAN_WRONG_WAY | 1 << BAGUNJOKI_PLAN_STOPPED"
  pub faultless : turns.faults_word no_faults ≡ codes "0"
  -- without a line there is no part for programs, not even an empty one
  pub no_programs : turns.all_programs lift lift_sensors ([] ∷ [] ∷ [] ∷ []) ≡ []
  pub one_program : turns.all_programs lift lift_sensors ([] ∷ [] ∷ (Await 1 ∷ []) ∷ [])
      ≡ PROGRAMS.now
      ++ codes "static const bagunjoki_plan_line PLAN_PROGRAM_HIGH[] = {\n"
      ++ codes "    {0, BAGUNJOKI_PLAN_AWAIT, PLAN_ZONE_UPPER, 0, 0},\n};\n#define PLAN_LINES_HIGH 1\n"
      ++ codes "#endif\n"
  -- a wait for a sensor runs no motor
  pub wait : turns.step_row lift lift_sensors 0 (Run 0 0)
      ≡ codes "    {UINT64_C(0), BAGUNJOKI_PLAN_RUN, 0, PLAN_SENSOR_LIFT_BOTTOM, 0},\n"
