-- What each line of a header or a module says, for all names, numbers, motors and bytes: in the plan's own words.
use Rattle.std.specs.Prelude.{◌≡◌, ◌<◌, ℕ, ◌+◌, ◌-◌, ◌*◌, true, false, List, [], ◌∷◌, ◌++◌, codes, flat_map, get_or, length}
use Rattle.std.specs.Fmt.{decimal}
use Rattle.std.specs.List.{range_with_len}
use Rattle.plan_types.specs.declared.posture.Posture.TheVariants.{Moving, OpenIn, OpenOut}
use Rattle.plan_types.specs.declared.shape.Postures.TheVariants.{Shut, Two, All}
use Rattle.plan_types.specs.Table.{guest_of, host_of, joins, keeper_of, machine_of, place_count, space_of, zone_count}
use Rattle.plan_types.specs.Table.{zone_shape}
use Rattle.plan_types.specs.Bytes.{bytes_of}
use Rattle.plan_motors.specs.declared.motor.Motor.{Motor}
use Rattle.plan_motors.specs.Mask.{mask_of, pattern_of}
use Rattle.plan_motors.specs.OfPlan.{motor_at}
use Rattle.plan_word.specs.Layout.{bits_of, counts_of, zones_end}
use Rattle.plan_word.specs.declared.layout.Field.TheVariants.{Zone}
use Rattle.plan_text.specs.Names.{Text, name_in}
use Rattle.plan_text.specs.Named.{Named}
use Rattle.plan_header.specs.Headers as header
use Rattle.plan_header.specs.Modules as python
use Rattle.plan_header.specs.Readings as reading
use Rattle.plan_header.specs.declared.motors.TheConstants.{MOTORS}
use Rattle.plan_header.specs.declared.python.TheConstants.{MODULE, PLANT}
use Rattle.plan_header.specs.declared.readings.TheConstants.{READINGS}
use Rattle.plan_header.specs.Words.{capitals}

-- each byte of a name in capitals: `a` is 97, `z` is 122, and `A` is 65; what is no letter from `a` to `z` stays
pub record CapitalsAreTold : Type 0 where
  pub empty : capitals [] ≡ []
  pub letter : (k : ℕ) (rest : Text) → k < 26 → capitals ((97 + k) ∷ rest) ≡ (65 + k) ∷ capitals rest
  pub before : (byte : ℕ) (rest : Text) → byte < 97 → capitals (byte ∷ rest) ≡ byte ∷ capitals rest
  pub after : (byte : ℕ) (rest : Text) → 122 < byte → capitals (byte ∷ rest) ≡ byte ∷ capitals rest

-- a name in capitals, and what stands for it
abbrev pub stands : Text → Text → Text
stands name meaning = codes "#define PLAN_" ++ (capitals name ++ (codes " " ++ (meaning ++ codes "\n")))

-- a machine, by its number
abbrev pub machine : Named → ℕ → Text
machine n number = codes "PLAN_MACHINE_" ++ capitals (name_in n.machines number)

-- a text for each number below a limit, one after another
abbrev pub for_each : ℕ → (ℕ → Text) → Text
for_each limit text_of = flat_map text_of (range_with_len 0 limit)

-- the numbers of names, and the machines of zones, places and poses
pub record NumbersAreTold : Type 0 where
  pub one : (kind : Text) (names : List Text) (k : ℕ)
      → header.number_line kind names k ≡ stands (kind ++ (codes "_" ++ name_in names k)) (decimal k)
  pub all : (kind : Text) (names : List Text)
      → header.number_lines kind names
      ≡ for_each (length names) (λ k. stands (kind ++ (codes "_" ++ name_in names k)) (decimal k))
      ++ stands (kind ++ codes "s") (decimal (length names))
  pub pose : (n : Named) (k : ℕ)
      → header.pose_line n k
      ≡ stands (codes "pose_" ++ (name_in n.machines (machine_of n.plan k) ++ (codes "_" ++ name_in n.poses k)))
      (decimal k)
  pub poses : (n : Named)
      → header.pose_lines n
      ≡ for_each (length n.poses) (header.pose_line n) ++ stands (codes "poses") (decimal (length n.poses))
  pub host_and_guest : (n : Named) (k : ℕ)
      → header.zone_parties n k
      ≡ stands (codes "host_of_" ++ name_in n.zones k) (machine n (host_of n.plan k))
      ++ stands (codes "guest_of_" ++ name_in n.zones k) (machine n (guest_of n.plan k))
  pub keeper : (n : Named) (k : ℕ)
      → header.keeper_line n k
      ≡ stands (codes "keeper_of_" ++ name_in n.places k) (machine n (keeper_of n.plan k))
  pub parties : (n : Named)
      → header.party_lines n
      ≡ for_each (length n.zones) (header.zone_parties n) ++ for_each (length n.places) (header.keeper_line n)

-- where the zones end
abbrev pub zones_of : Named → ℕ
zones_of n = zones_end (counts_of n.plan) (zone_count n.plan)

-- the lowest bits: those of each zone, one for each place, twenty for the stamp, and one for the stop
pub record BitsAreTold : Type 0 where
  pub zone : (n : Named) (k : ℕ) → k < zone_count n.plan
      → header.zone_bit n k ≡ stands (codes "bit_zone_" ++ name_in n.zones k) (decimal (zones_end (counts_of n.plan) k))
  pub place : (n : Named) (k : ℕ) → k < place_count n.plan
      → header.place_bit n k
      ≡ stands (codes "bit_place_" ++ name_in n.places k) (decimal (zones_of n + k))
  pub last : (n : Named)
      → header.last_bits n
      ≡ stands (codes "bit_stamp") (decimal (zones_of n + place_count n.plan))
      ++ stands (codes "bit_stop") (decimal (zones_of n + place_count n.plan + 20))
  pub all : (n : Named)
      → header.bit_lines n
      ≡ for_each (length n.zones) (header.zone_bit n)
      ++ (for_each (length n.places) (header.place_bit n) ++ header.last_bits n)
  pub size : (n : Named) (k : ℕ)
      → header.zone_size n k
      ≡ stands (codes "bits_zone_" ++ name_in n.zones k) (decimal (bits_of (counts_of n.plan) (Zone k)))
  pub sizes : (n : Named) → header.zone_sizes n ≡ for_each (length n.zones) (header.zone_size n)
  pub width : (n : Named)
      → header.width_line n ≡ stands (codes "bits") (decimal (zones_of n + place_count n.plan + 21))

-- a macro of a word, by a name in capitals, and what stands for it up to the end of its line
abbrev pub reads : Text → Text → Text
reads name meaning = codes "#define PLAN_" ++ (capitals name ++ (codes "(word) " ++ meaning))

-- bits of a zone, from the one `above` its lowest by this number, and what is done with them
abbrev pub bits_above : Text → ℕ → Text → Text
bits_above zone above rest =
    codes "((word) >> (PLAN_BIT_ZONE_" ++ (capitals zone ++ (codes " + " ++ (decimal above ++ (codes ") & " ++ rest))))

-- how C reads a zone: the lowest bits of its space's first zone tell its owner; of its own the next, if a plate has a
-- way through it, whether one is in it; and those above its posture, as the postures are that poses give it
pub record ReadingsAreTold : Type 0 where
  pub owner : (most : ℕ) (first zone : Text)
      → reading.owner_reading most (capitals first) (capitals zone)
      ≡ reads (codes "owner_of_" ++ zone)
      (codes "((word) >> PLAN_BIT_ZONE_" ++ (capitals first ++ (codes " & " ++ (decimal most ++ codes ")\n"))))
  pub plate : (above : ℕ) (zone : Text)
      → reading.plate_reading true above (capitals zone)
      ≡ reads (codes "plate_in_" ++ zone) (bits_above zone above (codes "1)\n"))
  pub no_plate : (above : ℕ) (zone : Text)
      → reading.plate_reading false above (capitals zone) ≡ reads (codes "plate_in_" ++ zone) (codes "0\n")
  pub shut : (zone : Text) (above : ℕ)
      → reading.posture_reading Shut above (capitals zone)
      ≡ reads (codes "posture_of_" ++ zone) (codes "PLAN_POSTURE_CLOSED\n")
  pub moving : (zone : Text) (above : ℕ)
      → reading.posture_reading (Two Moving) above (capitals zone)
      ≡ reads (codes "posture_of_" ++ zone)
      (bits_above zone above (codes "1 ? PLAN_POSTURE_MOVING : PLAN_POSTURE_CLOSED)\n"))
  pub open_in : (zone : Text) (above : ℕ)
      → reading.posture_reading (Two OpenIn) above (capitals zone)
      ≡ reads (codes "posture_of_" ++ zone)
      (bits_above zone above (codes "1 ? PLAN_POSTURE_OPENIN : PLAN_POSTURE_CLOSED)\n"))
  pub open_out : (zone : Text) (above : ℕ)
      → reading.posture_reading (Two OpenOut) above (capitals zone)
      ≡ reads (codes "posture_of_" ++ zone)
      (bits_above zone above (codes "1 ? PLAN_POSTURE_OPENOUT : PLAN_POSTURE_CLOSED)\n"))
  pub all : (zone : Text) (above : ℕ)
      → reading.posture_reading All above (capitals zone)
      ≡ reads (codes "posture_of_" ++ zone) (bits_above zone above (codes "3)\n"))
  -- the owner's bits are two, and a zone's own come above them, where each zone is a space by itself
  pub owner_of : (n : Named) (k : ℕ)
      → reading.owner_part n k
      ≡ reading.owner_reading (reading.most_owner (zone_shape n.plan (space_of n.plan k)))
      (capitals (name_in n.zones (space_of n.plan k))) (capitals (name_in n.zones k))
  pub zone : (n : Named) (k : ℕ)
      → reading.zone_reading n k
      ≡ reading.guest_part n k
      ++ (reading.owner_part n k ++ reading.own_readings (zone_shape n.plan k) (capitals (name_in n.zones k)))
  pub guest : (n : Named) (k : ℕ) → joins n.plan k ≡ true
      → reading.guest_part n k
      ≡ reading.guest_note (2 + (k - space_of n.plan k)) (capitals (name_in n.zones (space_of n.plan k)))
      (capitals (name_in n.zones k))
  pub no_guest : (n : Named) (k : ℕ) → joins n.plan k ≡ false → reading.guest_part n k ≡ []
  pub each : (n : Named)
      → reading.readings_part n ≡ READINGS.now ++ for_each (length n.zones) (reading.zone_reading n)

-- the plan's bytes: a line feed before the first of each eight, a blank before each other one
pub record BytesAreTold : Type 0 where
  pub line_feed : (bytes : List ℕ) (line : ℕ)
      → header.byte_word bytes (8 * line) ≡ codes "\n    " ++ (decimal (get_or bytes (8 * line) 0) ++ codes ",")
  pub blank : (bytes : List ℕ) (line k : ℕ) → k < 7
      → header.byte_word bytes (8 * line + k + 1)
      ≡ codes " " ++ (decimal (get_or bytes (8 * line + k + 1) 0) ++ codes ",")
  pub all : (bytes : List ℕ) → header.byte_words bytes ≡ for_each (length bytes) (header.byte_word bytes)
  pub of_plan : (n : Named) → header.bytes_part n ≡ header.table_text (bytes_of n.plan)

-- a name in capitals, and bits of a word
abbrev pub stands_for_bits : Text → ℕ → Text
stands_for_bits name bits =
    codes "#define PLAN_" ++ (capitals name ++ (codes " UINT64_C(" ++ (decimal bits ++ codes ")\n")))

-- the masks and the patterns of motors, in the order of their numbers
pub record MasksAreTold : Type 0 where
  pub motor : (n : Named) (names : List Text) (motors : List Motor) (k : ℕ)
      → header.mask_lines n names motors k
      ≡ stands_for_bits (codes "mask_" ++ name_in names k) (mask_of n.plan (motor_at motors k))
      ++ stands_for_bits (codes "pattern_" ++ name_in names k) (pattern_of n.plan (motor_at motors k))
  pub all : (n : Named) (names : List Text) (motors : List Motor)
      → header.some_motors n names motors ≡ MOTORS.now ++ for_each (length names) (header.mask_lines n names motors)

-- a line of a list of the module for Python, and a text in quotes
abbrev pub line : Text → Text
line item = codes "        " ++ (item ++ codes ",\n")

abbrev pub in_quotes : Text → Text
in_quotes text = codes "\"" ++ (text ++ codes "\"")

-- the module: the bytes, and each name in the order of the numbers
pub record ModulesAreTold : Type 0 where
  pub name : (title : Text) (names : List Text)
      → python.names_listed title names
      ≡ (codes "    " ++ (title ++ codes "=(\n"))
      ++ (for_each (length names) (λ k. line (in_quotes (name_in names k))) ++ codes "    ),\n")
  pub pose : (n : Named) (k : ℕ)
      → python.pose_item n k
      ≡ line (codes "(" ++ (in_quotes (name_in n.machines (machine_of n.plan k))
      ++ (codes ", " ++ (in_quotes (name_in n.poses k) ++ codes ")"))))
  pub motor : (n : Named) (names : List Text) (motors : List Motor) (k : ℕ)
      → python.motor_item n names motors k
      ≡ line (codes "(" ++ (in_quotes (name_in names k)
      ++ (codes ", " ++ (decimal (mask_of n.plan (motor_at motors k))
      ++ (codes ", " ++ (decimal (pattern_of n.plan (motor_at motors k)) ++ codes ")"))))))
  pub poses : (n : Named)
      → python.poses_listed n
      ≡ codes "    poses=(\n" ++ (for_each (length n.poses) (python.pose_item n) ++ codes "    ),\n")
  pub motors : (n : Named) (names : List Text) (motors : List Motor)
      → python.motors_listed n names motors
      ≡ codes "    motors=(\n" ++ (for_each (length names) (python.motor_item n names motors) ++ codes "    ),\n")
  pub kinds : (n : Named)
      → python.names_of_kinds n
      ≡ python.names_listed (codes "machines") n.machines
      ++ (python.names_listed (codes "zones") n.zones ++ python.names_listed (codes "places") n.places)
  pub bytes : (n : Named)
      → python.bytes_listed n ≡ MODULE.now ++ (header.byte_words (bytes_of n.plan) ++ PLANT.now)

pub record HeadersTell : Type 0 where
  pub capitals : CapitalsAreTold
  pub numbers : NumbersAreTold
  pub bits : BitsAreTold
  pub bytes : BytesAreTold
  pub readings : ReadingsAreTold
  pub masks : MasksAreTold
  pub modules : ModulesAreTold
