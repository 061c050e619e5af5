-- Lines of a plant's header, whole: of a lift between two floors, of an inlet and of a press, on words 0, 1 and 15.
use Rattle.std.specs.Prelude.{◌≡◌, [], ◌∷◌, ◌++◌, codes}
use Rattle.plan_motors.specs.Examples.{cabin}
use Rattle.plan_document.specs.declared.resolving.ProgrammedPlan.{ProgrammedPlan}
use Rattle.plan_header.specs.HeaderExamples.{inlet, lift, robots}
use Rattle.plan_header.specs.Headers as header
use Rattle.plan_header.specs.Numbered.{numbered}
use Rattle.plan_header.specs.PlantHeaders.{head, plant_header_text, word_header}
use Rattle.plan_header.specs.Readings as reading
use Rattle.plan_header.specs.TurnExamples.{lift_programs, lift_sensors}
use Rattle.plan_header.specs.Turns as turns
use Rattle.plan_header.specs.declared.header.TheConstants.{BITS, BYTES, CODES, ZONES}

pub record PlantLines : Type 0 where
  -- a name of the header begins with its word's prefix
  pub zones : numbered 0 (header.number_lines (codes "zone") lift.zones)
      ≡ codes "#define PLAN0_ZONE_LOWER 0\n#define PLAN0_ZONE_UPPER 1\n#define PLAN0_ZONES 2\n"
  pub pose : numbered 15 (header.pose_line lift 4) ≡ codes "#define PLAN15_POSE_LIFT_LOAD_HIGH 4\n"
  pub parties : numbered 1 (header.zone_parties lift 1)
      ≡ codes "#define PLAN1_HOST_OF_UPPER PLAN1_MACHINE_LIFT\n"
      ++ codes "#define PLAN1_GUEST_OF_UPPER PLAN1_MACHINE_HIGH\n"
  pub last : numbered 0 (header.last_bits lift) ≡ codes "#define PLAN0_BIT_STAMP 13\n#define PLAN0_BIT_STOP 33\n"
  pub masks : numbered 15 (header.mask_lines lift (codes "hoist" ∷ []) (cabin ∷ []) 0)
      ≡ codes "#define PLAN15_MASK_HOIST UINT64_C(891)\n#define PLAN15_PATTERN_HOIST UINT64_C(297)\n"
  -- also after a bracket
  pub one_bit : numbered 1 (reading.zone_reading inlet 0)
      ≡ codes "#define PLAN1_OWNER_OF_INLET(word) ((word) >> PLAN1_BIT_ZONE_INLET & 3)\n"
      ++ codes "#define PLAN1_PLATE_IN_INLET(word) ((word) >> (PLAN1_BIT_ZONE_INLET + 2) & 1)\n"
      ++ codes "#define PLAN1_POSTURE_OF_INLET(word) ((word) >> (PLAN1_BIT_ZONE_INLET + 3) & 1 "
      ++ codes "? PLAN1_POSTURE_OPENIN : PLAN1_POSTURE_CLOSED)\n"
  pub second_guest : numbered 15 (reading.zone_reading robots 1)
      ≡ codes "/* OUT is of one space with IN, whose bits tell the owner. There this zone's guest is: */\n"
      ++ codes "#define PLAN15_OWNER_GUEST_OUT 3\n"
      ++ codes "#define PLAN15_OWNER_OF_OUT(word) ((word) >> PLAN15_BIT_ZONE_IN & 3)\n"
      ++ codes "#define PLAN15_PLATE_IN_OUT(word) ((word) >> (PLAN15_BIT_ZONE_OUT + 0) & 1)\n"
      ++ codes "#define PLAN15_POSTURE_OF_OUT(word) ((word) >> (PLAN15_BIT_ZONE_OUT + 1) & 3)\n"
  -- a name in quotes stays
  pub names : numbered 1 (turns.name_list (codes "MACHINES") (codes "plan_b" ∷ []))
      ≡ codes "static const char *const PLAN1_NAMES_OF_MACHINES[] = {\n    \"plan_b\",\n    0,\n};\n"
  -- so do the names of `bagunjoki_plan.h`
  pub programs : numbered 0 (turns.own_program lift lift_sensors lift_programs 2)
      ≡ codes "static const bagunjoki_plan_line PLAN0_PROGRAM_HIGH[] = {\n"
      ++ codes "    {0, BAGUNJOKI_PLAN_AWAIT, PLAN0_ZONE_UPPER, 0, 0},\n"
      ++ codes "    {UINT64_C(3), BAGUNJOKI_PLAN_RUN, 0, PLAN0_SENSOR_HIGH_SHUT, 0},\n"
      ++ codes "    {0, BAGUNJOKI_PLAN_TAKE, PLAN0_ZONE_UPPER, 0, 0},\n"
      ++ codes "    {0, BAGUNJOKI_PLAN_RELEASE, PLAN0_ZONE_UPPER, 0, 0},\n};\n#define PLAN0_LINES_HIGH 4\n"
  -- a second `PLAN_` in a name stays
  pub twice : numbered 3 (header.define_line (codes "zone_plan_b") 7) ≡ codes "#define PLAN3_ZONE_PLAN_B 7\n"

-- what each header has
pub record PlantTexts : Type 0 where
  pub guard : numbered 15 (codes "#ifndef PLAN_H\n#define PLAN_H\n") ≡ codes "#ifndef PLAN15_H\n#define PLAN15_H\n"
  pub zones : numbered 1 ZONES.now ≡ codes "#define PLAN1_WATCH 30\n\n/* Zones. */\n"
  pub words : numbered 15 CODES.now
      ≡ codes "\n/* Who owns a zone, and its posture. */\n"
      ++ codes "enum plan15_owner { PLAN15_OWNER_FREE = 0, PLAN15_OWNER_HOST = 1, PLAN15_OWNER_GUEST = 2 };\n"
      ++ codes "enum plan15_posture {\n    PLAN15_POSTURE_CLOSED = 0,\n    PLAN15_POSTURE_MOVING = 1,\n"
      ++ codes "    PLAN15_POSTURE_OPENIN = 2,\n    PLAN15_POSTURE_OPENOUT = 3\n};\n\n"
      ++ codes "/* The lowest bit of each field, and how many bits a field has. */\n"
  pub bits : numbered 0 BITS.now
      ≡ codes "#define PLAN0_BITS_PLACE 1\n#define PLAN0_BITS_STAMP 20\n#define PLAN0_BITS_STOP 1\n"
  pub bytes : numbered 1 BYTES.now
      ≡ codes "\n/* The plan, for bagunjoki_plan.h. */\nstatic const uint8_t PLAN1_BYTES[] = {"
  pub may_run : numbered 1
      (codes "#define PLAN_MAY_RUN(word, motor) (((word) & PLAN_MASK_##motor) == PLAN_PATTERN_##motor)\n")
      ≡ codes "#define PLAN1_MAY_RUN(word, motor) (((word) & PLAN1_MASK_##motor) == PLAN1_PATTERN_##motor)\n"
  -- the headers of two words, one after the other
  pub two : (first second : ProgrammedPlan)
      → plant_header_text (first ∷ second ∷ []) ≡ head 2 ++ (word_header first 0 ++ (word_header second 1 ++ []))
  pub head_of_two : head 2
      ≡ codes "/* A plant on several words, as `plan header --words` prints it: the header of each word's plan. What "
      ++ codes "that of word 0\n   defines begins with PLAN0_ or plan0_, what that of word 1 defines with PLAN1_ or "
      ++ codes "plan1_, and so on. */\n#define PLANT_WORDS 2\n"
