-- The names in a document, by kinds, in the order of its rows.
use Rattle.std.specs.Prelude.{◌≡◌, ℕ, ◌<◌, Bool, ◌&&◌, not, nat_eq, nat_le, nat_lt, List, [], ◌∷◌, ◌++◌, codes, length}
use Rattle.std.specs.Prelude.{map, string_bytes, Some, option_map, option_to_list, unwrap_or, IsTrue, if◌then◌else◌}
use Rattle.std.specs.List.{enumerate_from, flat_map, list_all}
use Rattle.plan_text.specs.Names.{Text, is_name, name_in, number_in}
use Rattle.plan_document.specs.declared.document.HazardRow.{HazardRow}
use Rattle.plan_document.specs.declared.document.MachineRow.{MachineRow}
use Rattle.plan_document.specs.declared.document.MotorRow.{MotorRow}
use Rattle.plan_document.specs.declared.document.PoseRow.{PoseRow}
use Rattle.plan_document.specs.declared.document.ZoneRow.{ZoneRow}

abbrev pub machine_names : List MachineRow → List Text
machine_names machines = map (λ row. string_bytes row.name) machines

abbrev pub zone_names : List ZoneRow → List Text
zone_names zones = map (λ row. string_bytes row.name) zones

-- the name of a zone's space: that of the zone which lists it, or its own
abbrev pub space_name : ZoneRow → Text
space_name row = unwrap_or (option_map string_bytes row.space) (string_bytes row.name)

abbrev pub space_names : List ZoneRow → List Text
space_names zones = map space_name zones

-- the names that a row takes: before that of its first guest a zone's which lists them, and its own
abbrev pub space_before : ZoneRow → List Text
space_before row = if row.joins then [] else option_to_list (option_map string_bytes row.space)

abbrev pub taken_in : ZoneRow → List Text
taken_in row = space_before row ++ string_bytes row.name ∷ []

abbrev pub taken_names : List ZoneRow → List Text
taken_names zones = flat_map taken_in zones

abbrev pub motor_names : List MotorRow → List Text
motor_names motors = map (λ row. string_bytes row.name) motors

abbrev pub hazard_names : List HazardRow → List Text
hazard_names hazards = map (λ row. string_bytes row.name) hazards

-- the places that a machine keeps, and those of all machines
abbrev pub places_in : MachineRow → List Text
places_in row = map string_bytes row.places.items

abbrev pub place_names : List MachineRow → List Text
place_names machines = flat_map places_in machines

-- the names of a machine's sensors, in the order of their bits, and those of each machine
abbrev pub sensors_in : MachineRow → List Text
sensors_in row = map string_bytes row.sensors.items

abbrev pub sensor_names : List MachineRow → List (List Text)
sensor_names machines = map sensors_in machines

-- the names of a machine's poses, and of those of all machines
abbrev pub names_in : List PoseRow → List Text
names_in poses = map (λ pose. string_bytes pose.name) poses

abbrev pub pose_names : List MachineRow → List Text
pose_names machines = flat_map (λ row. names_in row.poses.items) machines

-- each machine's row with its number, from 0
abbrev pub numbered : List MachineRow → List (ℕ × MachineRow)
numbered machines = enumerate_from 0 machines

-- the poses of a machine with its number, and those of all machines
abbrev pub numbered_poses : ℕ → List PoseRow → List (ℕ × PoseRow)
numbered_poses machine poses = map (λ pose. (machine, pose)) poses

abbrev pub all_poses : List MachineRow → List (ℕ × PoseRow)
all_poses machines = flat_map (λ (machine, row). numbered_poses machine row.poses.items) (numbered machines)

-- ---- texts that are names

abbrev pub AreNames : List Text → Type 0
AreNames texts = IsTrue (list_all is_name texts)

-- a hazard's name: of ASCII what can be printed, but for a colon, which ends it in a report; at most 60 characters
abbrev pub is_title_byte : ℕ → Bool
is_title_byte byte = nat_le 32 byte && nat_le byte 126 && not (nat_eq byte 58)

abbrev pub is_title : Text → Bool
is_title text = nat_lt 0 (length text) && nat_le (length text) 60 && list_all is_title_byte text

-- ---- names that are told apart

-- each name is found at its own number, so no two are the same
abbrev pub AreDistinct : List Text → Type 0
AreDistinct names = (number : ℕ) → number < length names → number_in names (name_in names number) ≡ Some number

-- the name of a pose or a sensor for C: its machine's, an underline and its own
abbrev pub identifier : Text → Text → Text
identifier machine own = machine ++ codes "_" ++ own

abbrev pub identifiers_in : Text → List PoseRow → List Text
identifiers_in machine poses = map (λ pose. identifier machine (string_bytes pose.name)) poses

abbrev pub identifiers : List MachineRow → List Text
identifiers machines = flat_map (λ row. identifiers_in (string_bytes row.name) row.poses.items) machines

abbrev pub sensor_identifiers_in : MachineRow → List Text
sensor_identifiers_in row = map (λ name. identifier (string_bytes row.name) (string_bytes name)) row.sensors.items

abbrev pub sensor_identifiers : List MachineRow → List Text
sensor_identifiers machines = flat_map sensor_identifiers_in machines
