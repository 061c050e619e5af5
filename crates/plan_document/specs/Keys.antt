-- The words of a document's keys, and which keys a document and its rows may have.
use Rattle.std.specs.Prelude.{Bool, List, [], ◌∷◌, codes}
use Rattle.std.specs.List.{list_all, list_any}
use Rattle.std.specs.Str.{bytes_eq}
use Rattle.toml.specs.Data.{Members, member, no_members}
use Rattle.plan_text.specs.Names.{Text}
use Rattle.plan_document.specs.declared.fault.Key.{Key}
use Rattle.plan_document.specs.declared.fault.Key.TheVariants.{Machine, Zone, Name, Places, Poses, Program, Gives}
use Rattle.plan_document.specs.declared.fault.Key.TheVariants.{Sources, Sinks, Guests}
use Rattle.plan_document.specs.declared.fault.Key.TheVariants.{AfterMoving, Host, Guest, Inward, Outward, Motor, Hazard}
use Rattle.plan_document.specs.declared.fault.Key.TheVariants.{Holds, Stands, Full, Empty, Motors, Sensors}
use Rattle.plan_document.specs.declared.fault.RowOf.{RowOf}
use Rattle.plan_document.specs.declared.fault.RowOf.TheVariants as row

abbrev pub key_word : Key → Text
key_word Machine = codes "machine"
key_word Zone = codes "zone"
key_word Name = codes "name"
key_word Places = codes "places"
key_word Sources = codes "sources"
key_word Sinks = codes "sinks"
key_word Poses = codes "poses"
key_word Sensors = codes "sensors"
key_word Program = codes "program"
key_word Gives = codes "gives"
key_word AfterMoving = codes "after_moving"
key_word Host = codes "host"
key_word Guest = codes "guest"
key_word Guests = codes "guests"
key_word Inward = codes "inward"
key_word Outward = codes "outward"
key_word Motor = codes "motor"
key_word Hazard = codes "hazard"
key_word Holds = codes "holds"
key_word Stands = codes "stands"
key_word Full = codes "full"
key_word Empty = codes "empty"
key_word Motors = codes "motors"

abbrev pub top_keys : List Key
top_keys = Machine ∷ Zone ∷ Motor ∷ Hazard ∷ []

abbrev pub machine_keys : List Key
machine_keys = Name ∷ Places ∷ Sources ∷ Sinks ∷ Poses ∷ Sensors ∷ Program ∷ []

abbrev pub pose_keys : List Key
pose_keys = Name ∷ Gives ∷ AfterMoving ∷ []

abbrev pub zone_keys : List Key
zone_keys = Name ∷ Host ∷ Guest ∷ Inward ∷ Outward ∷ []

-- a zone that lists its guests, and each of these
abbrev pub space_keys : List Key
space_keys = Name ∷ Host ∷ Guests ∷ []

abbrev pub side_keys : List Key
side_keys = Name ∷ Guest ∷ Inward ∷ Outward ∷ []

abbrev pub motor_keys : List Key
motor_keys = Name ∷ Machine ∷ Holds ∷ Stands ∷ Full ∷ Empty ∷ []

abbrev pub hazard_keys : List Key
hazard_keys = Name ∷ Motors ∷ []

-- the keys that a row may have
abbrev pub keys_in : RowOf → List Key
keys_in row.Document = top_keys
keys_in (row.Machine _) = machine_keys
keys_in (row.Pose _ _) = pose_keys
keys_in (row.Zone _) = zone_keys
keys_in (row.Space _) = space_keys
keys_in (row.Side _ _) = side_keys
keys_in (row.Motor _) = motor_keys
keys_in (row.Hazard _) = hazard_keys

-- a text is the word of one of these keys
abbrev pub is_word_of : List Key → Text → Bool
is_word_of keys name = list_any (λ key. bytes_eq (key_word key) name) keys

-- the keys that a table has
abbrev pub names_of : Members → List Text
names_of no_members = []
names_of (member name value members) = name ∷ names_of members

-- a table has no key but these
abbrev pub has_only : List Key → Members → Bool
has_only keys members = list_all (is_word_of keys) (names_of members)
