-- What `plan header` prints of a plan: numbers for its names, the layout of its word, its motors' masks, and its bytes.
use Rattle.std.specs.Prelude.{ℕ, ◌%◌, nat_eq, [], ◌++◌, codes, flat_map, get_or, length, List}
use Rattle.std.specs.Prelude.{if◌then◌else◌}
use Rattle.std.specs.Fmt.{decimal}
use Rattle.std.specs.List.{range_with_len}
use Rattle.plan_types.specs.Table.{guest_of, host_of, keeper_of, machine_of}
use Rattle.plan_types.specs.Bytes.{bytes_of}
use Rattle.plan_word.specs.Layout.{Counts, bits_of, counts_of, has, start_of, width_of}
use Rattle.plan_word.specs.declared.layout.Field.{Field}
use Rattle.plan_word.specs.declared.layout.Field.TheVariants.{Zone, Place, Stamp, Stop}
use Rattle.plan_motors.specs.declared.motor.Motor.{Motor}
use Rattle.plan_motors.specs.Mask.{mask_of, pattern_of}
use Rattle.plan_motors.specs.OfPlan.{motor_at}
use Rattle.plan_text.specs.Names.{Text, name_in}
use Rattle.plan_text.specs.Named.{Named}
use Rattle.plan_header.specs.Words.{capitals, machine_name, zone_name}
use Rattle.plan_header.specs.Readings.{readings_part}
use Rattle.plan_header.specs.declared.header.TheConstants.{BEGIN, ZONES, PLACES, POSES, PARTIES, CODES, BITS}
use Rattle.plan_header.specs.declared.header.TheConstants.{BYTES, END}
use Rattle.plan_header.specs.declared.motors.TheConstants.{MOTORS}

-- a name in capitals, and its number
abbrev pub defined : Text → ℕ → Text
defined name number = codes "#define PLAN_" ++ (name ++ (codes " " ++ (decimal number ++ codes "\n")))

abbrev pub define_line : Text → ℕ → Text
define_line name number = defined (capitals name) number

-- ---- the numbers of names, and how many there are

abbrev pub number_line : Text → List Text → ℕ → Text
number_line kind names number = define_line (kind ++ (codes "_" ++ name_in names number)) number

abbrev pub number_lines : Text → List Text → Text
number_lines kind names =
    flat_map (number_line kind names) (range_with_len 0 (length names))
    ++ define_line (kind ++ codes "s") (length names)

abbrev pub pose_line : Named → ℕ → Text
pose_line n pose =
    define_line (codes "pose_" ++ (machine_name n (machine_of n.plan pose) ++ (codes "_" ++ name_in n.poses pose))) pose

abbrev pub pose_lines : Named → Text
pose_lines n =
    flat_map (pose_line n) (range_with_len 0 (length n.poses)) ++ define_line (codes "poses") (length n.poses)

-- ---- who hosts a zone, who is its guest, and who keeps a place

abbrev pub role_of : Text → Text → Text
role_of role machine = codes "#define PLAN_" ++ (role ++ (codes " PLAN_MACHINE_" ++ (machine ++ codes "\n")))

abbrev pub role_line : Text → Text → Text
role_line role machine = role_of (capitals role) (capitals machine)

abbrev pub party_line : Named → Text → Text → ℕ → Text
party_line n role thing machine = role_line (role ++ thing) (machine_name n machine)

abbrev pub zone_parties : Named → ℕ → Text
zone_parties n zone =
    party_line n (codes "host_of_") (zone_name n zone) (host_of n.plan zone)
    ++ party_line n (codes "guest_of_") (zone_name n zone) (guest_of n.plan zone)

abbrev pub keeper_line : Named → ℕ → Text
keeper_line n place = party_line n (codes "keeper_of_") (name_in n.places place) (keeper_of n.plan place)

abbrev pub party_lines : Named → Text
party_lines n =
    flat_map (zone_parties n) (range_with_len 0 (length n.zones))
    ++ flat_map (keeper_line n) (range_with_len 0 (length n.places))

-- ---- the lowest bit of each field of the word; nothing if the word has no such field

abbrev pub bit_line : Counts → Field → Text → Text
bit_line c field name = if has c field then define_line name (start_of c field) else []

abbrev pub zone_bit : Named → ℕ → Text
zone_bit n zone = bit_line (counts_of n.plan) (Zone zone) (codes "bit_zone_" ++ zone_name n zone)

abbrev pub place_bit : Named → ℕ → Text
place_bit n place = bit_line (counts_of n.plan) (Place place) (codes "bit_place_" ++ name_in n.places place)

abbrev pub last_bits : Named → Text
last_bits n =
    bit_line (counts_of n.plan) Stamp (codes "bit_stamp") ++ bit_line (counts_of n.plan) Stop (codes "bit_stop")

abbrev pub bit_lines : Named → Text
bit_lines n =
    flat_map (zone_bit n) (range_with_len 0 (length n.zones))
    ++ (flat_map (place_bit n) (range_with_len 0 (length n.places)) ++ last_bits n)

-- ---- the motors: which bits of a word each looks at, and what they have to be

-- a name in capitals, and bits of a word
abbrev pub bits_defined : Text → ℕ → Text
bits_defined name bits = codes "#define PLAN_" ++ (name ++ (codes " UINT64_C(" ++ (decimal bits ++ codes ")\n")))

abbrev pub bits_line : Text → Text → ℕ → Text
bits_line kind name bits = bits_defined (capitals (kind ++ name)) bits

abbrev pub mask_lines : Named → List Text → List Motor → ℕ → Text
mask_lines n names motors k =
    bits_line (codes "mask_") (name_in names k) (mask_of n.plan (motor_at motors k))
    ++ bits_line (codes "pattern_") (name_in names k) (pattern_of n.plan (motor_at motors k))

abbrev pub some_motors : Named → List Text → List Motor → Text
some_motors n names motors = MOTORS.now ++ flat_map (mask_lines n names motors) (range_with_len 0 (length names))

-- of a plan without motors nothing
unfoldable pub motors_part : Named → List Text → List Motor → Text
motors_part n names motors = if nat_eq (length names) 0 then [] else some_motors n names motors

-- ---- the plan as bytes, eight in a line

abbrev pub byte_gap : ℕ → Text
byte_gap at = if nat_eq (at % 8) 0 then codes "\n    " else codes " "

abbrev pub byte_word : List ℕ → ℕ → Text
byte_word bytes at = byte_gap at ++ (decimal (get_or bytes at 0) ++ codes ",")

abbrev pub byte_words : List ℕ → Text
byte_words bytes = flat_map (byte_word bytes) (range_with_len 0 (length bytes))

-- ---- the parts of the header

abbrev pub titled : Text → Text → List Text → Text
titled title kind names = title ++ number_lines kind names

abbrev pub machines_part : Named → Text
machines_part n = titled BEGIN.now (codes "machine") n.machines

abbrev pub zones_part : Named → Text
zones_part n = titled ZONES.now (codes "zone") n.zones

abbrev pub places_part : Named → Text
places_part n = titled PLACES.now (codes "place") n.places

abbrev pub names_part : Named → Text
names_part n = machines_part n ++ (zones_part n ++ places_part n)

abbrev pub parties_part : Named → Text
parties_part n = POSES.now ++ (pose_lines n ++ (PARTIES.now ++ party_lines n))

-- how many bits each zone has
abbrev pub size_line : Counts → Field → Text → Text
size_line c field name = define_line name (bits_of c field)

abbrev pub zone_size : Named → ℕ → Text
zone_size n zone = size_line (counts_of n.plan) (Zone zone) (codes "bits_zone_" ++ zone_name n zone)

abbrev pub zone_sizes : Named → Text
zone_sizes n = flat_map (zone_size n) (range_with_len 0 (length n.zones))

abbrev pub width_line : Named → Text
width_line n = define_line (codes "bits") (width_of (counts_of n.plan))

abbrev pub fields_part : Named → Text
fields_part n = CODES.now ++ bit_lines n

abbrev pub sizes_part : Named → Text
sizes_part n = zone_sizes n ++ (BITS.now ++ width_line n)

abbrev pub word_part : Named → Text
word_part n = fields_part n ++ (sizes_part n ++ readings_part n)

abbrev pub table_text : List ℕ → Text
table_text bytes = BYTES.now ++ (byte_words bytes ++ END.now)

abbrev pub bytes_part : Named → Text
bytes_part n = table_text (bytes_of n.plan)
