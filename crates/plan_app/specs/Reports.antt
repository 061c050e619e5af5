-- What `plan check` prints of any plan.
use Rattle.std.specs.Prelude.{ℕ, Bool, ◌&&◌, not, nat_eq, [], ◌++◌, codes, flat_map, length, List, if◌then◌else◌}
use Rattle.std.specs.Fmt.{decimal}
use Rattle.std.specs.List.{range_with_len}
use Rattle.std.specs.Str.{bytes_eq}
use Rattle.plan_types.specs.Below.{sum_below}
use Rattle.plan_types.specs.Table.{PlanTable, same_space, space_of, zone_count}
use Rattle.plan_word.specs.Layout.{Counts, bits_of, counts_of, has, start_of, width_of}
use Rattle.plan_word.specs.declared.layout.Field.{Field}
use Rattle.plan_word.specs.declared.layout.Field.TheVariants.{Zone, Place, Stamp, Stop}
use Rattle.plan_text.specs.Names.{Text, name_in}
use Rattle.plan_text.specs.Named.{Named}
use Rattle.plan_header.specs.Words.{zone_name}
use Rattle.plan_app.specs.Words.{counted}

-- a colon before the first name, and a blank before each
abbrev pub gap : ℕ → Text
gap number = if nat_eq number 0 then codes ": " else codes " "

abbrev pub listed : List Text → ℕ → Text
listed names number = gap number ++ name_in names number

-- `2 zones: lower upper`
abbrev pub names_line : Text → List Text → Text
names_line kind names =
    counted (length names) kind ++ (flat_map (listed names) (range_with_len 0 (length names)) ++ codes "\n")

abbrev pub width_line : Counts → Text
width_line c = codes "a word of " ++ (decimal (width_of c) ++ codes " bits\n")

-- the lowest bit of a field, how many bits it has, and what it is; nothing if the word has no such field
abbrev pub bits_words : Counts → ℕ → Field → Text → Text
bits_words c first field what =
    codes "bit " ++ (decimal first ++ (codes ", " ++ (counted (bits_of c field) (codes "bit")
    ++ (codes ": " ++ (what ++ codes "\n")))))

abbrev pub field_line : Counts → Field → Text → Text
field_line c field what = if has c field then bits_words c (start_of c field) field what else []

abbrev pub zone_line : Named → ℕ → Text
zone_line n zone = field_line (counts_of n.plan) (Zone zone) (codes "zone " ++ zone_name n zone)

-- the bits of a zone's space: those of all its zones
abbrev pub bits_near : PlanTable → ℕ → ℕ → ℕ
bits_near t zone other = if same_space t other zone then bits_of (counts_of t) (Zone other) else 0

abbrev pub space_bits : PlanTable → ℕ → ℕ
space_bits t zone = sum_below (bits_near t zone) (zone_count t)

-- before the first zone of a space with a name of its own, all that the space has
abbrev pub begins_space : Named → ℕ → Bool
begins_space n zone = nat_eq (space_of n.plan zone) zone && not (bytes_eq (name_in n.spaces zone) (zone_name n zone))

abbrev pub space_words : Named → ℕ → Text
space_words n zone =
    codes "bit " ++ (decimal (start_of (counts_of n.plan) (Zone zone)) ++ (codes ", "
    ++ (counted (space_bits n.plan zone) (codes "bit") ++ (codes ": space " ++ (name_in n.spaces zone ++ codes "\n")))))

abbrev pub space_at : Named → ℕ → Text
space_at n zone = if has (counts_of n.plan) (Zone zone) then space_words n zone else []

abbrev pub space_line : Named → ℕ → Text
space_line n zone = if begins_space n zone then space_at n zone else []

abbrev pub zone_lines : Named → ℕ → Text
zone_lines n zone = space_line n zone ++ zone_line n zone

abbrev pub place_line : Named → ℕ → Text
place_line n place = field_line (counts_of n.plan) (Place place) (codes "place " ++ name_in n.places place)

-- the zones, the places, the stamp and the stop
abbrev pub field_lines : Named → Text
field_lines n =
    flat_map (zone_lines n) (range_with_len 0 (length n.zones))
    ++ (flat_map (place_line n) (range_with_len 0 (length n.places))
    ++ (field_line (counts_of n.plan) Stamp (codes "stamp") ++ field_line (counts_of n.plan) Stop (codes "stop")))

abbrev pub kind_lines : Named → Text
kind_lines n =
    names_line (codes "machine") n.machines ++ (names_line (codes "zone") n.zones
    ++ (names_line (codes "place") n.places ++ names_line (codes "pose") n.poses))

unfoldable pub report_text : Named → Text
report_text n = kind_lines n ++ (width_line (counts_of n.plan) ++ field_lines n)
