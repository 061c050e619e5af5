-- How C reads a zone of a state's word: who owns it, by the bits of its space's first zone; whether a plate is in it,
-- and its posture, by the zone's own.
use Rattle.std.specs.Prelude.{ℕ, ◌+◌, ◌-◌, ◌^◌, Bool, true, false, [], ◌++◌, codes, flat_map, length, if◌then◌else◌}
use Rattle.std.specs.Fmt.{decimal}
use Rattle.std.specs.List.{range_with_len}
use Rattle.plan_types.specs.declared.posture.Posture.{Posture}
use Rattle.plan_types.specs.declared.posture.Posture.TheVariants.{Closed, Moving, OpenIn, OpenOut}
use Rattle.plan_types.specs.declared.shape.Postures.{Postures}
use Rattle.plan_types.specs.declared.shape.Postures.TheVariants.{Shut, Two, All}
use Rattle.plan_types.specs.declared.shape.ZoneShape.{ZoneShape}
use Rattle.plan_types.specs.Table.{flag_bits, joins, owner_bits, postures_of, space_of, zone_shape}
use Rattle.plan_text.specs.Names.{Text}
use Rattle.plan_text.specs.Named.{Named}
use Rattle.plan_header.specs.Words.{capitals, zone_name}
use Rattle.plan_header.specs.declared.readings.TheConstants.{READINGS}

-- the names of zones are in capitals here

-- the lowest bits of a space's first zone tell the owner, by a number that is `most` at most
abbrev pub owner_reading : ℕ → Text → Text → Text
owner_reading most first zone =
    codes "#define PLAN_OWNER_OF_"
    ++ (zone ++ (codes "(word) ((word) >> PLAN_BIT_ZONE_" ++ (first ++ (codes " & " ++ (decimal most ++ codes ")\n")))))

abbrev pub most_owner : ZoneShape → ℕ
most_owner s = 2 ^ owner_bits s.guests - 1

-- the next one, `above` the lowest by this number, if it has a flag, whether a plate is in it
abbrev pub plate_reading : Bool → ℕ → Text → Text
plate_reading true above zone =
    codes "#define PLAN_PLATE_IN_"
    ++ (zone ++ (codes "(word) ((word) >> (PLAN_BIT_ZONE_"
    ++ (zone ++ (codes " + " ++ (decimal above ++ codes ") & 1)\n")))))
plate_reading false above zone = codes "#define PLAN_PLATE_IN_" ++ (zone ++ codes "(word) 0\n")

abbrev pub posture_name : Posture → Text
posture_name Closed = codes "CLOSED"
posture_name Moving = codes "MOVING"
posture_name OpenIn = codes "OPENIN"
posture_name OpenOut = codes "OPENOUT"

-- one bit, `above` the lowest by this number: 0 is closed, and 1 the posture of this name
abbrev pub two_reading : Text → ℕ → Text → Text
two_reading other above zone =
    codes "#define PLAN_POSTURE_OF_"
    ++ (zone ++ (codes "(word) ((word) >> (PLAN_BIT_ZONE_" ++ (zone ++ (codes " + "
    ++ (decimal above ++ (codes ") & 1 ? PLAN_POSTURE_" ++ (other ++ codes " : PLAN_POSTURE_CLOSED)\n")))))))

-- no bit, if it is always closed; one; or two, which have the numbers of postures
abbrev pub posture_reading : Postures → ℕ → Text → Text
posture_reading Shut above zone = codes "#define PLAN_POSTURE_OF_" ++ (zone ++ codes "(word) PLAN_POSTURE_CLOSED\n")
posture_reading (Two q) above zone = two_reading (posture_name q) above zone
posture_reading All above zone =
    codes "#define PLAN_POSTURE_OF_"
    ++ (zone ++ (codes "(word) ((word) >> (PLAN_BIT_ZONE_" ++ (zone ++ (codes " + "
    ++ (decimal above ++ codes ") & 3)\n")))))

-- above the owner and the flag
abbrev pub posture_of : ZoneShape → Text → Text
posture_of s zone = posture_reading (postures_of s) (owner_bits s.guests + flag_bits s.flag) zone

abbrev pub own_readings : ZoneShape → Text → Text
own_readings s zone = plate_reading s.flag (owner_bits s.guests) zone ++ posture_of s zone

-- the number that tells a guest of a space after the first one
abbrev pub guest_note : ℕ → Text → Text → Text
guest_note number first zone =
    codes "/* " ++ (zone ++ (codes " is of one space with "
    ++ (first ++ (codes ", whose bits tell the owner. There this zone's guest is: */\n"
    ++ (codes "#define PLAN_OWNER_GUEST_" ++ (zone ++ (codes " " ++ (decimal number ++ codes "\n"))))))))

-- the first zone of a zone's space, in capitals
abbrev pub first_name : Named → ℕ → Text
first_name n zone = capitals (zone_name n (space_of n.plan zone))

abbrev pub guest_part : Named → ℕ → Text
guest_part n zone =
    if joins n.plan zone
    then guest_note (2 + (zone - space_of n.plan zone)) (first_name n zone) (capitals (zone_name n zone))
    else []

abbrev pub owner_part : Named → ℕ → Text
owner_part n zone =
    owner_reading (most_owner (zone_shape n.plan (space_of n.plan zone))) (first_name n zone)
    (capitals (zone_name n zone))

abbrev pub own_part : Named → ℕ → Text
own_part n zone = own_readings (zone_shape n.plan zone) (capitals (zone_name n zone))

abbrev pub zone_reading : Named → ℕ → Text
zone_reading n zone = guest_part n zone ++ (owner_part n zone ++ own_part n zone)

abbrev pub zone_readings : Named → Text
zone_readings n = flat_map (zone_reading n) (range_with_len 0 (length n.zones))

abbrev pub readings_part : Named → Text
readings_part n = READINGS.now ++ zone_readings n
