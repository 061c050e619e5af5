-- What a page has of a plan, as JSON: its names, by the numbers of the plan's tables, its motors and its programs.
use Rattle.std.specs.Prelude.{ℕ, ◌/◌, ◌%◌, ◌^◌, nat_eq, Bool, false, List, [], ◌++◌, codes, flat_map, get_or, length}
use Rattle.std.specs.Prelude.{map, slice_get, Option, Some, None, if◌then◌else◌}
use Rattle.std.specs.Fmt.{decimal, digits}
use Rattle.std.specs.List.{range_with_len}
use Rattle.plan_types.specs.declared.call.Call.TheVariants.{Inquire}
use Rattle.plan_types.specs.declared.table.PlanZone.{PlanZone}
use Rattle.plan_types.specs.declared.table.Way.{Way}
use Rattle.plan_types.specs.declared.shape.Postures.{Postures}
use Rattle.plan_types.specs.declared.shape.Postures.TheVariants.{Shut, Two, All}
use Rattle.plan_types.specs.Table.{guest_of, host_of, joins, keeper_of, postures_of, zone_row, zone_shape}
use Rattle.plan_controller.specs.declared.step.Step.{Step}
use Rattle.plan_controller.specs.declared.step.Step.TheVariants.{Do, Await, Run}
use Rattle.plan_document.specs.declared.resolving.ProgrammedPlan.{ProgrammedPlan}
use Rattle.plan_header.specs.Words.{machine_name, zone_name}
use Rattle.plan_motors.specs.declared.motor.Motor.{Motor}
use Rattle.plan_motors.specs.Mask.{mask_of, pattern_of}
use Rattle.plan_motors.specs.OfPlan.{motor_at}
use Rattle.plan_text.specs.Answers.{posture_word}
use Rattle.plan_text.specs.Calls.{call_text}
use Rattle.plan_text.specs.Named.{Named}
use Rattle.plan_text.specs.Names.{Text, name_in}
use Rattle.plan_app.specs.declared.page_data.TheConstants.{INWARD, JOINS, MASK, MOTORS, OUTWARD, PATTERN, PLACES}
use Rattle.plan_app.specs.declared.page_data.TheConstants.{POSTURES, PROGRAMS, ZONES}

-- ---- lists

-- a comma between each two
abbrev pub gap : ℕ → Text
gap number = if nat_eq number 0 then [] else codes ", "

abbrev pub next_item : (ℕ → Text) → ℕ → Text
next_item item number = gap number ++ item number

abbrev pub items : (ℕ → Text) → ℕ → Text
items item count = flat_map (next_item item) (range_with_len 0 count)

-- names are letters, digits and underscores, so nothing in them has to be escaped
abbrev pub quoted : Text → Text
quoted text = codes "\"" ++ (text ++ codes "\"")

-- ---- machines, places, zones

abbrev pub machine_item : Named → ℕ → Text
machine_item n m = quoted (machine_name n m)

abbrev pub kept_item : Text → ℕ → Text
kept_item name keeper =
    codes "{\"name\": \"" ++ (name ++ (codes "\", \"keeper\": " ++ (decimal keeper ++ codes "}")))

abbrev pub place_item : Named → ℕ → Text
place_item n p = kept_item (name_in n.places p) (keeper_of n.plan p)

-- from place to place, or no way
abbrev pub way_text : Option Way → Text
way_text None = codes "null"
way_text (Some way) = codes "[" ++ (decimal way.from ++ (codes ", " ++ (decimal way.to ++ codes "]")))

unfoldable pub ways_text : PlanZone → Text
ways_text row =
    INWARD.now ++ (way_text row.inward ++ (OUTWARD.now ++ way_text row.outward))

-- the postures that a zone's field of the word tells, by their codes
abbrev pub told_text : Postures → Text
told_text Shut = codes "\"closed\""
told_text (Two q) = codes "\"closed\", \"" ++ (posture_word q ++ codes "\"")
told_text All = codes "\"closed\", \"moving\", \"openin\", \"openout\""

unfoldable pub postures_text : Postures → Text
postures_text postures = POSTURES.now ++ (told_text postures ++ codes "]}")

unfoldable pub parties_text : Named → ℕ → Text
parties_text n z =
    codes "{\"name\": \"" ++ (zone_name n z ++ (codes "\", \"host\": " ++ (decimal (host_of n.plan z)
    ++ (codes ", \"guest\": " ++ decimal (guest_of n.plan z)))))

-- a zone that is of one space with the zone before it says so
abbrev pub joins_text : Named → ℕ → Text
joins_text n z = if joins n.plan z then JOINS.now else []

abbrev pub joined_text : Named → ℕ → Text
joined_text n z = parties_text n z ++ joins_text n z

abbrev pub zone_item : Named → ℕ → Text
zone_item n z =
    joined_text n z ++ (ways_text (zone_row n.plan z) ++ postures_text (postures_of (zone_shape n.plan z)))

-- ---- motors: of each its machine, the bits of the plan's word that it looks at, and what they have to be

abbrev pub hexadecimal : ℕ → Text
hexadecimal number = digits 16 false number

unfoldable pub bits_text : ℕ → ℕ → Text
bits_text mask pattern = MASK.now ++ (hexadecimal mask ++ (PATTERN.now ++ (hexadecimal pattern ++ codes "\"}")))

abbrev pub mask_text : Named → Motor → Text
mask_text n motor = bits_text (mask_of n.plan motor) (pattern_of n.plan motor)

unfoldable pub motor_text : Named → Text → Motor → Text
motor_text n name motor =
    (codes "{\"name\": \"" ++ (name ++ (codes "\", \"machine\": " ++ decimal motor.machine))) ++ mask_text n motor

abbrev pub motor_item : Named → List Text → List Motor → ℕ → Text
motor_item n names motors k = motor_text n (name_in names k) (motor_at motors k)

-- ---- the lines of programs

-- a run has a motor if it has the motor's bit
abbrev pub has_motor : ℕ → ℕ → Bool
has_motor motors k = nat_eq (motors / 2 ^ k % 2) 1

abbrev pub run_name : List Text → ℕ → ℕ → Text
run_name names motors k = if has_motor motors k then codes " " ++ name_in names k else []

-- `run ram until at_top`, or without motors `await at_top`
abbrev pub run_text : List Text → ℕ → Text → Text
run_text names motors sensor =
    if nat_eq motors 0 then codes "await " ++ sensor
    else codes "run" ++ (flat_map (run_name names motors) (range_with_len 0 (length names))
    ++ (codes " until " ++ sensor))

-- a machine's sensor by its number
abbrev pub sensor_name : List (List Text) → ℕ → ℕ → Text
sensor_name sensors m sensor = name_in (get_or sensors m []) sensor

-- a call; who awaits a zone inquires until it is its own
abbrev pub line_text : Named → List Text → List (List Text) → ℕ → Step → Text
line_text n names sensors m (Do call faults) = call_text n call
line_text n names sensors m (Await zone) = call_text n (Inquire zone)
line_text n names sensors m (Run motors until) = run_text names motors (sensor_name sensors m until)

abbrev pub line_if : Named → List Text → List (List Text) → ℕ → Option Step → Text
line_if n names sensors m None = []
line_if n names sensors m (Some step) = codes "\"" ++ (line_text n names sensors m step ++ codes "\"")

abbrev pub line_item : Named → List Text → List (List Text) → ℕ → List Step → ℕ → Text
line_item n names sensors m steps k = line_if n names sensors m (slice_get steps k)

abbrev pub program_text : Named → List Text → List (List Text) → ℕ → List Step → Text
program_text n names sensors m steps =
    codes "[" ++ (items (line_item n names sensors m steps) (length steps) ++ codes "]")

abbrev pub program_item : Named → List Text → List (List Text) → List (List Step) → ℕ → Text
program_item n names sensors programs m = program_text n names sensors m (get_or programs m [])

-- ---- all of it

unfoldable pub machines_part : Named → Text → Text
machines_part n note =
    codes "{\"note\": \"" ++ (note ++ (codes "\",\n\"machines\": [" ++ items (machine_item n) (length n.machines)))

unfoldable pub tables_part : Named → Text
tables_part n =
    PLACES.now ++ (items (place_item n) (length n.places) ++ (ZONES.now ++ items (zone_item n) (length n.zones)))

unfoldable pub motors_part : Named → List Text → List Motor → Text
motors_part n names motors = MOTORS.now ++ items (motor_item n names motors) (length names)

unfoldable pub programs_part : Named → List Text → List (List Text) → List (List Step) → Text
programs_part n names sensors programs =
    PROGRAMS.now ++ (items (program_item n names sensors programs) (length programs) ++ codes "]}\n")

abbrev pub data_text : Named → List Text → List Motor → List (List Text) → List (List Step) → Text → Text
data_text n names motors sensors programs note =
    machines_part n note ++ (tables_part n ++ (motors_part n names motors ++ programs_part n names sensors programs))

-- the steps of each machine
abbrev pub programs_of : ProgrammedPlan → List (List Step)
programs_of plan = map (λ steps. steps.items) plan.steps.items

-- of a plan, and what the page shows
unfoldable pub data_of : ProgrammedPlan → Text → Text
data_of plan note =
    data_text plan.named plan.motors.names plan.motors.motors.items plan.sensors.items (programs_of plan) note
