-- Lines of headers, whole: of a lift between two floors, of two presses, and of two gates.
use Rattle.std.specs.Prelude.{◌≡◌, List, false, [], ◌∷◌, ◌++◌, codes, None}
use Rattle.plan_types.specs.Table.{PlanTable, plan_table}
use Rattle.plan_types.specs.SpaceExamples.{robots_table}
use Rattle.plan_types.specs.Examples.{gated_table, lift_table, pose, rack_table, zone}
use Rattle.plan_rules.specs.Examples.{presses_table}
use Rattle.plan_motors.specs.Examples.{cabin, fan, lower_gate}
use Rattle.plan_controller.specs.declared.step.Step.{Step}
use Rattle.plan_controller.specs.declared.step.Step.TheVariants.{Await}
use Rattle.plan_text.specs.Names.{Text}
use Rattle.plan_text.specs.Named.{Named, named}
use Rattle.plan_header.specs.Headers as header
use Rattle.plan_header.specs.Printed.{header_text}
use Rattle.plan_header.specs.Readings as reading
use Rattle.plan_header.specs.Turns as turns
use Rattle.plan_header.specs.Words.{capitals}
use Rattle.plan_header.specs.declared.header.TheConstants.{BEGIN, CODES, ZONES}
use Rattle.plan_header.specs.declared.motors.TheConstants.{MOTORS}
use Rattle.plan_header.specs.declared.readings.TheConstants.{READINGS}

abbrev pub lift_machines : List Text
lift_machines = codes "lift" ∷ codes "low" ∷ codes "high" ∷ []

abbrev pub lift_zones : List Text
lift_zones = codes "lower" ∷ codes "upper" ∷ []

abbrev pub lift_places : List Text
lift_places = codes "cabin" ∷ codes "ground" ∷ codes "loft" ∷ []

abbrev pub lift_poses : List Text
lift_poses = codes "travel" ∷ codes "load_low" ∷ codes "unload_high" ∷ codes "unload_low" ∷ codes "load_high" ∷ []

abbrev pub lift : Named
lift = named lift_table lift_machines lift_zones lift_places lift_poses

-- two presses, each hosted by its own machine, at one loader
abbrev pub presses : Named
presses =
    named presses_table (codes "loader" ∷ codes "left" ∷ codes "right" ∷ []) (codes "near" ∷ codes "far" ∷ [])
    (codes "hand" ∷ codes "left_bed" ∷ codes "right_bed" ∷ [])
    (codes "left_moves" ∷ codes "left_open" ∷ codes "right_moves" ∷ codes "right_open" ∷ [])

-- a lock between a lake and the sea: the lock hosts the first gate, the sea the second; of four places the lock keeps
-- the first and the second, the lake the third, the sea the last
abbrev pub gates_table : PlanTable
gates_table =
    plan_table 3 (zone 1 0 None None ∷ zone 2 1 None None ∷ [])
    (pose 1 false None None ∷ pose 2 false None None ∷ []) (1 ∷ 1 ∷ 0 ∷ 2 ∷ [])

abbrev pub gates : Named
gates =
    named gates_table (codes "lake" ∷ codes "lock" ∷ codes "sea" ∷ []) (codes "east" ∷ codes "west" ∷ [])
    (codes "first" ∷ codes "second" ∷ codes "quay" ∷ codes "pier" ∷ []) (codes "travel" ∷ codes "tide" ∷ [])

pub record HeaderLines : Type 0 where
  pub zones : header.number_lines (codes "zone") lift_zones
      ≡ codes "#define PLAN_ZONE_LOWER 0\n" ++ codes "#define PLAN_ZONE_UPPER 1\n" ++ codes "#define PLAN_ZONES 2\n"
  pub pose : header.pose_line lift 4 ≡ codes "#define PLAN_POSE_LIFT_LOAD_HIGH 4\n"
  -- who hosts the second zone, and who is its guest; who keeps the last place
  pub parties : header.zone_parties lift 1
      ≡ codes "#define PLAN_HOST_OF_UPPER PLAN_MACHINE_LIFT\n"
      ++ codes "#define PLAN_GUEST_OF_UPPER PLAN_MACHINE_HIGH\n"
  pub keeper : header.keeper_line lift 1 ≡ codes "#define PLAN_KEEPER_OF_GROUND PLAN_MACHINE_LOW\n"
  pub lower : header.zone_bit lift 0 ≡ codes "#define PLAN_BIT_ZONE_LOWER 0\n"
  pub upper : header.zone_bit lift 1 ≡ codes "#define PLAN_BIT_ZONE_UPPER 5\n"
  pub no_zone : header.zone_bit lift 2 ≡ []
  pub loft : header.place_bit lift 2 ≡ codes "#define PLAN_BIT_PLACE_LOFT 12\n"
  pub last : header.last_bits lift ≡ codes "#define PLAN_BIT_STAMP 13\n" ++ codes "#define PLAN_BIT_STOP 33\n"
  pub width : header.width_line lift ≡ codes "#define PLAN_BITS 34\n"
  -- bytes, eight in a line
  pub first_byte : header.byte_word (7 ∷ []) 0 ≡ codes "\n    7,"
  pub next_byte : header.byte_word (7 ∷ 255 ∷ []) 1 ≡ codes " 255,"

-- nothing opens these two, and no plate goes through them
abbrev pub gates_readings : Text
gates_readings =
    codes "#define PLAN_OWNER_OF_EAST(word) ((word) >> PLAN_BIT_ZONE_EAST & 3)\n"
    ++ codes "#define PLAN_PLATE_IN_EAST(word) 0\n" ++ codes "#define PLAN_POSTURE_OF_EAST(word) PLAN_POSTURE_CLOSED\n"
    ++ codes "#define PLAN_OWNER_OF_WEST(word) ((word) >> PLAN_BIT_ZONE_WEST & 3)\n"
    ++ codes "#define PLAN_PLATE_IN_WEST(word) 0\n" ++ codes "#define PLAN_POSTURE_OF_WEST(word) PLAN_POSTURE_CLOSED\n"

-- lines of plans whose zones have different hosts, whose poses are of different machines, and where a machine keeps two
-- places
pub record PartyLines : Type 0 where
  pub hosts : header.zone_parties presses 1
      ≡ codes "#define PLAN_HOST_OF_FAR PLAN_MACHINE_RIGHT\n" ++ codes "#define PLAN_GUEST_OF_FAR PLAN_MACHINE_LOADER\n"
  pub right_pose : header.pose_line presses 2 ≡ codes "#define PLAN_POSE_RIGHT_RIGHT_MOVES 2\n"
  pub poses : header.pose_lines gates
      ≡ codes "#define PLAN_POSE_LOCK_TRAVEL 0\n" ++ codes "#define PLAN_POSE_SEA_TIDE 1\n"
      ++ codes "#define PLAN_POSES 2\n"
  pub parties : header.party_lines gates
      ≡ codes "#define PLAN_HOST_OF_EAST PLAN_MACHINE_LOCK\n" ++ codes "#define PLAN_GUEST_OF_EAST PLAN_MACHINE_LAKE\n"
      ++ codes "#define PLAN_HOST_OF_WEST PLAN_MACHINE_SEA\n" ++ codes "#define PLAN_GUEST_OF_WEST PLAN_MACHINE_LOCK\n"
      ++ codes "#define PLAN_KEEPER_OF_FIRST PLAN_MACHINE_LOCK\n"
      ++ codes "#define PLAN_KEEPER_OF_SECOND PLAN_MACHINE_LOCK\n"
      ++ codes "#define PLAN_KEEPER_OF_QUAY PLAN_MACHINE_LAKE\n"
      ++ codes "#define PLAN_KEEPER_OF_PIER PLAN_MACHINE_SEA\n"
  -- four bits of two zones that nothing opens, four of places
  pub bits : header.bit_lines gates
      ≡ codes "#define PLAN_BIT_ZONE_EAST 0\n" ++ codes "#define PLAN_BIT_ZONE_WEST 2\n"
      ++ codes "#define PLAN_BIT_PLACE_FIRST 4\n" ++ codes "#define PLAN_BIT_PLACE_SECOND 5\n"
      ++ codes "#define PLAN_BIT_PLACE_QUAY 6\n" ++ codes "#define PLAN_BIT_PLACE_PIER 7\n"
      ++ codes "#define PLAN_BIT_STAMP 8\n" ++ codes "#define PLAN_BIT_STOP 28\n"

-- a rack that two share, and a press, where a plate has a way: the rack's host opens it, and else it is closed
abbrev pub rack : Named
rack =
    named rack_table (codes "left_arm" ∷ codes "right_arm" ∷ codes "left_press" ∷ codes "right_press" ∷ [])
    (codes "rack" ∷ codes "left" ∷ codes "right" ∷ []) [] []

-- a zone into which plates come, and whose host opens it for them, or shuts it
abbrev pub inlet : Named
inlet = named (gated_table 1 2) (codes "arm" ∷ codes "press" ∷ []) (codes "inlet" ∷ []) [] []

-- a press that a loader and an unloader enter, one at a time
abbrev pub robots : Named
robots =
    named robots_table (codes "loader" ∷ codes "press" ∷ codes "unloader" ∷ []) (codes "in" ∷ codes "out" ∷ []) [] []

pub record ReadingLines : Type 0 where
  pub flag_and_two : reading.zone_reading rack 1
      ≡ codes "#define PLAN_OWNER_OF_LEFT(word) ((word) >> PLAN_BIT_ZONE_LEFT & 3)\n"
      ++ codes "#define PLAN_PLATE_IN_LEFT(word) ((word) >> (PLAN_BIT_ZONE_LEFT + 2) & 1)\n"
      ++ codes "#define PLAN_POSTURE_OF_LEFT(word) ((word) >> (PLAN_BIT_ZONE_LEFT + 3) & 3)\n"
  pub flag_and_one : reading.zone_reading inlet 0
      ≡ codes "#define PLAN_OWNER_OF_INLET(word) ((word) >> PLAN_BIT_ZONE_INLET & 3)\n"
      ++ codes "#define PLAN_PLATE_IN_INLET(word) ((word) >> (PLAN_BIT_ZONE_INLET + 2) & 1)\n"
      ++ codes "#define PLAN_POSTURE_OF_INLET(word) ((word) >> (PLAN_BIT_ZONE_INLET + 3) & 1 "
      ++ codes "? PLAN_POSTURE_OPENIN : PLAN_POSTURE_CLOSED)\n"
  pub one : reading.zone_reading rack 0
      ≡ codes "#define PLAN_OWNER_OF_RACK(word) ((word) >> PLAN_BIT_ZONE_RACK & 3)\n"
      ++ codes "#define PLAN_PLATE_IN_RACK(word) 0\n"
      ++ codes "#define PLAN_POSTURE_OF_RACK(word) ((word) >> (PLAN_BIT_ZONE_RACK + 2) & 1 "
      ++ codes "? PLAN_POSTURE_OPENIN : PLAN_POSTURE_CLOSED)\n"
  pub owner_alone : reading.readings_part gates ≡ READINGS.now ++ gates_readings
  -- the second guest of a press: the first one's zone tells the owner
  pub second_guest : reading.zone_reading robots 1
      ≡ codes "/* OUT is of one space with IN, whose bits tell the owner. There this zone's guest is: */\n"
      ++ codes "#define PLAN_OWNER_GUEST_OUT 3\n"
      ++ codes "#define PLAN_OWNER_OF_OUT(word) ((word) >> PLAN_BIT_ZONE_IN & 3)\n"
      ++ codes "#define PLAN_PLATE_IN_OUT(word) ((word) >> (PLAN_BIT_ZONE_OUT + 0) & 1)\n"
      ++ codes "#define PLAN_POSTURE_OF_OUT(word) ((word) >> (PLAN_BIT_ZONE_OUT + 1) & 3)\n"

abbrev pub gates_bytes : Text
gates_bytes =
    codes "\n/* The plan, for bagunjoki_plan.h. */\n" ++ codes "static const uint8_t PLAN_BYTES[] = {"
    ++ codes "\n    3, 2, 2, 4, 1, 0, 0, 0," ++ codes "\n    0, 0, 0, 0, 2, 1, 0, 0,"
    ++ codes "\n    0, 0, 0, 0, 1, 0, 0, 0," ++ codes "\n    0, 0, 0, 0, 0, 0, 0, 0,"
    ++ codes "\n    2, 0, 0, 0, 0, 0, 0, 0," ++ codes "\n    0, 0, 0, 0, 1, 1, 0, 2,"
    ++ codes "\n};\n\n#endif\n"

-- the sea has a sensor, and the lake waits for the first gate
abbrev pub gates_sensors : List (List Text)
gates_sensors = [] ∷ [] ∷ (codes "high" ∷ []) ∷ []

abbrev pub gates_programs : List (List Step)
gates_programs = (Await 0 ∷ []) ∷ []

-- the header of the gates, in its parts
pub record WholeHeaders : Type 0 where
  pub names : header.names_part gates
      ≡ BEGIN.now ++ codes "#define PLAN_MACHINE_LAKE 0\n" ++ codes "#define PLAN_MACHINE_LOCK 1\n"
      ++ codes "#define PLAN_MACHINE_SEA 2\n" ++ codes "#define PLAN_MACHINES 3\n"
      ++ ZONES.now ++ codes "#define PLAN_ZONE_EAST 0\n" ++ codes "#define PLAN_ZONE_WEST 1\n"
      ++ codes "#define PLAN_ZONES 2\n"
      ++ codes "\n/* Places. */\n" ++ codes "#define PLAN_PLACE_FIRST 0\n" ++ codes "#define PLAN_PLACE_SECOND 1\n"
      ++ codes "#define PLAN_PLACE_QUAY 2\n" ++ codes "#define PLAN_PLACE_PIER 3\n"
      ++ codes "#define PLAN_PLACES 4\n"
  pub poses : header.parties_part gates
      ≡ codes "\n/* Poses, by machine and name. */\n" ++ header.pose_lines gates
      ++ codes "\n/* Who hosts a zone, who is its guest, and who keeps a place. */\n" ++ header.party_lines gates
  pub word : header.word_part gates
      ≡ CODES.now ++ header.bit_lines gates
      ++ codes "#define PLAN_BITS_ZONE_EAST 2\n" ++ codes "#define PLAN_BITS_ZONE_WEST 2\n"
      ++ codes "#define PLAN_BITS_PLACE 1\n"
      ++ codes "#define PLAN_BITS_STAMP 20\n" ++ codes "#define PLAN_BITS_STOP 1\n" ++ codes "#define PLAN_BITS 29\n"
      ++ READINGS.now ++ gates_readings
  pub bytes : header.bytes_part gates ≡ gates_bytes
  pub with_motors : header_text gates (codes "fan" ∷ []) (fan ∷ []) [] []
      ≡ header.names_part gates ++ (header.parties_part gates ++ (header.word_part gates
      ++ (header.motors_part gates (codes "fan" ∷ []) (fan ∷ [])
      ++ (turns.lists_part gates (codes "fan" ∷ [])
      ++ (turns.turns_part gates (codes "fan" ∷ []) [] [] ++ header.bytes_part gates)))))
  pub header : header_text gates [] [] gates_sensors gates_programs
      ≡ header.names_part gates ++ (header.parties_part gates ++ (header.word_part gates
      ++ (header.motors_part gates [] []
      ++ (turns.lists_part gates []
      ++ (turns.turns_part gates [] gates_sensors gates_programs ++ header.bytes_part gates)))))

-- two bits of a zone tell its owner, from the lowest, two its posture, from the fourth
pub record MaskLines : Type 0 where
  pub first : header.mask_lines lift (codes "hoist" ∷ codes "gate" ∷ []) (cabin ∷ lower_gate ∷ []) 0
      ≡ codes "#define PLAN_MASK_HOIST UINT64_C(891)\n" ++ codes "#define PLAN_PATTERN_HOIST UINT64_C(297)\n"
  pub second : header.mask_lines lift (codes "hoist" ∷ codes "gate" ∷ []) (cabin ∷ lower_gate ∷ []) 1
      ≡ codes "#define PLAN_MASK_GATE UINT64_C(3)\n" ++ codes "#define PLAN_PATTERN_GATE UINT64_C(2)\n"
  pub whole : header.motors_part lift (codes "gate" ∷ []) (lower_gate ∷ [])
      ≡ MOTORS.now ++ codes "#define PLAN_MASK_GATE UINT64_C(3)\n" ++ codes "#define PLAN_PATTERN_GATE UINT64_C(2)\n"
  pub no_motor : header.motors_part lift [] [] ≡ []

-- names in capitals: each letter, and what is none stays
pub record CapitalsAreMade : Type 0 where
  pub alphabet : capitals (codes "abcdefghijklmnopqrstuvwxyz") ≡ codes "ABCDEFGHIJKLMNOPQRSTUVWXYZ"
  pub others : capitals (codes "ABCDEFGHIJKLMNOPQRSTUVWXYZ_0123456789") ≡ codes "ABCDEFGHIJKLMNOPQRSTUVWXYZ_0123456789"
  pub neighbours : capitals (codes "az_09{`@Z") ≡ codes "AZ_09{`@Z"
