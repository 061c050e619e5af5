-- What `plan header` prints for those who run a plan: the names of each kind as texts, the bits of motors and sensors,
-- and the machines' programs as lines of `bagunjoki_plan.h`.
use Rattle.std.specs.Prelude.{ℕ, Bool, nat_eq, nat_lt, [], ◌∷◌, ◌++◌, codes, filter, flat_map, get_or, length, List}
use Rattle.std.specs.Prelude.{if◌then◌else◌}
use Rattle.std.specs.Fmt.{decimal}
use Rattle.std.specs.List.{join_by, list_any, range_with_len}
use Rattle.plan_types.specs.Table.{machine_of}
use Rattle.plan_types.specs.declared.call.Call.{Call}
use Rattle.plan_types.specs.declared.call.Call.TheVariants.{Claim, Give, Yield, Take, Release, SetPose, Inquire, Stop}
use Rattle.plan_types.specs.declared.call.Call.TheVariants.{Resume, Advance}
use Rattle.plan_controller.specs.declared.faults.Faults.{Faults}
use Rattle.plan_controller.specs.declared.faults.Mendable.{Mendable}
use Rattle.plan_controller.specs.declared.faults.Mendable.TheVariants.{Held, Shut, NotOwner, PlateInZone, NoPlate}
use Rattle.plan_controller.specs.declared.faults.Mendable.TheVariants.{PlaceFull, WrongWay, Stopped}
use Rattle.plan_controller.specs.declared.step.Step.{Step}
use Rattle.plan_controller.specs.declared.step.Step.TheVariants.{Do, Await, Run}
use Rattle.plan_controller.specs.Faults.{all_mendable, has}
use Rattle.plan_text.specs.Names.{Text, name_in}
use Rattle.plan_text.specs.Named.{Named}
use Rattle.plan_header.specs.Words.{capitals, machine_name, zone_name}
use Rattle.plan_header.specs.Headers.{define_line, number_lines}
use Rattle.plan_header.specs.declared.lists.TheConstants.{NAMES}
use Rattle.plan_header.specs.declared.turns.TheConstants.{BITS, PROGRAMS, END}

-- ---- the names of a kind, with a null after the last

abbrev pub quoted_item : Text → Text
quoted_item name = codes "    \"" ++ (name ++ codes "\",\n")

abbrev pub name_item : List Text → ℕ → Text
name_item names number = quoted_item (name_in names number)

abbrev pub name_items : List Text → Text
name_items names = flat_map (name_item names) (range_with_len 0 (length names))

abbrev pub list_opened : Text → Text
list_opened kind = codes "static const char *const PLAN_NAMES_OF_" ++ (kind ++ codes "[] = {\n")

abbrev pub name_list : Text → List Text → Text
name_list kind names = list_opened kind ++ (name_items names ++ codes "    0,\n};\n")

abbrev pub machine_list : Named → Text
machine_list n = name_list (codes "MACHINES") n.machines

abbrev pub zone_list : Named → Text
zone_list n = name_list (codes "ZONES") n.zones

abbrev pub place_list : Named → Text
place_list n = name_list (codes "PLACES") n.places

abbrev pub pose_list : Named → Text
pose_list n = name_list (codes "POSES") n.poses

abbrev pub own_lists : Named → Text
own_lists n = machine_list n ++ (zone_list n ++ place_list n)

abbrev pub part_lists : Named → List Text → Text
part_lists n motors = pose_list n ++ name_list (codes "MOTORS") motors

abbrev pub lists_part : Named → List Text → Text
lists_part n motors = NAMES.now ++ (own_lists n ++ part_lists n motors)

-- ---- the bits of sensors

-- the sensors of a machine, by its number, and what one is named
abbrev pub sensors_of : List (List Text) → ℕ → List Text
sensors_of sensors machine = get_or sensors machine []

abbrev pub sensor_own : Named → List (List Text) → ℕ → ℕ → Text
sensor_own n sensors machine sensor =
    codes "sensor_" ++ (machine_name n machine ++ (codes "_" ++ name_in (sensors_of sensors machine) sensor))

abbrev pub sensor_line : Named → List (List Text) → ℕ → ℕ → Text
sensor_line n sensors machine sensor = define_line (sensor_own n sensors machine sensor) sensor

abbrev pub sensor_lines : Named → List (List Text) → ℕ → Text
sensor_lines n sensors machine =
    flat_map (sensor_line n sensors machine) (range_with_len 0 (length (sensors_of sensors machine)))

abbrev pub all_sensors : Named → List (List Text) → Text
all_sensors n sensors = flat_map (sensor_lines n sensors) (range_with_len 0 (length n.machines))

-- ---- the lines of programs

-- a word that the header defines, by its name
abbrev pub prefixed : Text → Text
prefixed word = codes "PLAN_" ++ word

abbrev pub defined_word : Text → Text
defined_word name = prefixed (capitals name)

abbrev pub zone_word : Named → ℕ → Text
zone_word n zone = defined_word (codes "zone_" ++ zone_name n zone)

abbrev pub place_word : Named → ℕ → Text
place_word n place = defined_word (codes "place_" ++ name_in n.places place)

abbrev pub pose_word : Named → ℕ → Text
pose_word n pose =
    defined_word (codes "pose_" ++ (machine_name n (machine_of n.plan pose) ++ (codes "_" ++ name_in n.poses pose)))

abbrev pub sensor_word : Named → List (List Text) → ℕ → ℕ → Text
sensor_word n sensors machine sensor = defined_word (sensor_own n sensors machine sensor)

-- the motors that have a bit
abbrev pub bits_word : ℕ → Text
bits_word motors = codes "UINT64_C(" ++ (decimal motors ++ codes ")")

-- the bit of a fault is that of its answer
abbrev pub fault_bit : Mendable → Text
fault_bit Held = codes "1 << BAGUNJOKI_PLAN_HELD"
fault_bit Shut = codes "1 << BAGUNJOKI_PLAN_SHUT"
fault_bit NotOwner = codes "1 << BAGUNJOKI_PLAN_NOT_OWNER"
fault_bit PlateInZone = codes "1 << BAGUNJOKI_PLAN_PLATE_IN_ZONE"
fault_bit NoPlate = codes "1 << BAGUNJOKI_PLAN_NO_PLATE"
fault_bit PlaceFull = codes "1 << BAGUNJOKI_PLAN_PLACE_FULL"
fault_bit WrongWay = codes "1 << BAGUNJOKI_PLAN_WRONG_WAY"
fault_bit Stopped = codes "1 << BAGUNJOKI_PLAN_STOPPED"

abbrev pub barred_bit : Faults → Mendable → Text
barred_bit faults fault = if has faults fault then codes " | " ++ fault_bit fault else []

-- a bar between each two
abbrev pub fault_bits : List Mendable → Text
fault_bits [] = codes "0"
fault_bits (fault ∷ faults) = join_by fault_bit (codes " | ") (fault ∷ faults)

abbrev pub faults_word : Faults → Text
faults_word faults = fault_bits (filter (has faults) all_mendable)

-- motors, kind, object, sensor and faults of a line
abbrev pub row : Text → Text → Text → Text → Text → Text
row motors kind object until faults =
    codes "    {" ++ (motors ++ (codes ", BAGUNJOKI_PLAN_" ++ (kind ++ (codes ", " ++ (object
    ++ (codes ", " ++ (until ++ (codes ", " ++ (faults ++ codes "},\n")))))))))

-- a line of a call has no motors and no sensor
abbrev pub bare : Text → Text → Text → Text
bare kind object faults = row (codes "0") kind object (codes "0") faults

abbrev pub pose_row : Named → ℕ → Text → Text
pose_row n pose faults = bare (codes "SET_POSE") (pose_word n pose) faults

abbrev pub place_row : Named → ℕ → Text → Text
place_row n place faults = bare (codes "ADVANCE") (place_word n place) faults

abbrev pub run_row : Named → List (List Text) → ℕ → ℕ → ℕ → Text
run_row n sensors machine motors until =
    row (bits_word motors) (codes "RUN") (codes "0") (sensor_word n sensors machine until) (codes "0")

abbrev pub call_row : Named → Call → Text → Text
call_row n (Claim zone) faults = bare (codes "CLAIM") (zone_word n zone) faults
call_row n (Give zone) faults = bare (codes "GIVE") (zone_word n zone) faults
call_row n (Yield zone) faults = bare (codes "YIELD") (zone_word n zone) faults
call_row n (Take zone) faults = bare (codes "TAKE") (zone_word n zone) faults
call_row n (Release zone) faults = bare (codes "RELEASE") (zone_word n zone) faults
call_row n (SetPose pose) faults = pose_row n pose faults
call_row n (Inquire zone) faults = bare (codes "INQUIRE") (zone_word n zone) faults
call_row n Stop faults = bare (codes "STOP") (codes "0") faults
call_row n Resume faults = bare (codes "RESUME") (codes "0") faults
call_row n (Advance place) faults = place_row n place faults

abbrev pub step_row : Named → List (List Text) → ℕ → Step → Text
step_row n sensors machine (Do call faults) = call_row n call (faults_word faults)
step_row n sensors machine (Await zone) = bare (codes "AWAIT") (zone_word n zone) (codes "0")
step_row n sensors machine (Run motors until) = run_row n sensors machine motors until

abbrev pub step_rows : Named → List (List Text) → ℕ → List Step → Text
step_rows n sensors machine steps = flat_map (step_row n sensors machine) steps

abbrev pub program_opened_with : Text → Text
program_opened_with word = codes "static const bagunjoki_plan_line PLAN_" ++ (word ++ codes "[] = {\n")

abbrev pub program_opened_by : Text → Text
program_opened_by name = program_opened_with (capitals name)

abbrev pub program_word : Named → ℕ → Text
program_word n machine = codes "program_" ++ machine_name n machine

abbrev pub program_opened : Named → ℕ → Text
program_opened n machine = program_opened_by (program_word n machine)

abbrev pub count_line : Named → ℕ → ℕ → Text
count_line n machine count = define_line (codes "lines_" ++ machine_name n machine) count

abbrev pub program_closed : Named → ℕ → ℕ → Text
program_closed n machine count = codes "};\n" ++ count_line n machine count

-- the lines of a machine, and how many there are
abbrev pub some_lines : Named → List (List Text) → ℕ → List Step → Text
some_lines n sensors machine steps =
    program_opened n machine ++ (step_rows n sensors machine steps ++ program_closed n machine (length steps))

-- of a machine without lines nothing
abbrev pub program_lines : Named → List (List Text) → ℕ → List Step → Text
program_lines n sensors machine steps =
    if nat_eq (length steps) 0 then [] else some_lines n sensors machine steps

abbrev pub steps_of : List (List Step) → ℕ → List Step
steps_of steps machine = get_or steps machine []

abbrev pub own_program : Named → List (List Text) → List (List Step) → ℕ → Text
own_program n sensors steps machine = program_lines n sensors machine (steps_of steps machine)

abbrev pub some_programs : Named → List (List Text) → List (List Step) → Text
some_programs n sensors steps =
    PROGRAMS.now ++ (flat_map (own_program n sensors steps) (range_with_len 0 (length n.machines)) ++ END.now)

-- some machine has a program
abbrev pub have_lines : List (List Step) → Bool
have_lines steps = list_any (λ own. nat_lt 0 (length own)) steps

-- where none has, nothing
abbrev pub all_programs : Named → List (List Text) → List (List Step) → Text
all_programs n sensors steps = if have_lines steps then some_programs n sensors steps else []

-- ---- all of it

abbrev pub motor_lines : List Text → Text
motor_lines motors = BITS.now ++ number_lines (codes "motor") motors

abbrev pub turns_part : Named → List Text → List (List Text) → List (List Step) → Text
turns_part n motors sensors steps =
    motor_lines motors ++ (all_sensors n sensors ++ all_programs n sensors steps)
