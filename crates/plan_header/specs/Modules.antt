-- What `plan header --python` prints of a plan: a module with its bytes, its names, and its motors' masks.
use Rattle.std.specs.Prelude.{ℕ, ◌++◌, codes, flat_map, length, List}
use Rattle.std.specs.Fmt.{decimal}
use Rattle.std.specs.List.{range_with_len}
use Rattle.plan_types.specs.Table.{machine_of}
use Rattle.plan_types.specs.Bytes.{bytes_of}
use Rattle.plan_motors.specs.declared.motor.Motor.{Motor}
use Rattle.plan_motors.specs.Mask.{mask_of, pattern_of}
use Rattle.plan_motors.specs.OfPlan.{motor_at}
use Rattle.plan_text.specs.Names.{Text, name_in}
use Rattle.plan_text.specs.Named.{Named}
use Rattle.plan_header.specs.Words.{machine_name}
use Rattle.plan_header.specs.Headers.{byte_words}
use Rattle.plan_header.specs.declared.python.TheConstants.{MODULE, PLANT, LAST}

-- a name in quotes
abbrev pub quoted : Text → Text
quoted name = codes "\"" ++ (name ++ codes "\"")

-- an item of a list is a line
abbrev pub item_line : Text → Text
item_line item = codes "        " ++ (item ++ codes ",\n")

-- a list has a title and an end
abbrev pub opened : Text → Text
opened title = codes "    " ++ (title ++ codes "=(\n")

abbrev pub closed : Text
closed = codes "    ),\n"

abbrev pub listed : Text → Text → Text
listed title items = opened title ++ (items ++ closed)

-- ---- the names, in the order of their numbers

abbrev pub name_item : List Text → ℕ → Text
name_item names number = item_line (quoted (name_in names number))

abbrev pub names_listed : Text → List Text → Text
names_listed title names = listed title (flat_map (name_item names) (range_with_len 0 (length names)))

abbrev pub machines_listed : Named → Text
machines_listed n = names_listed (codes "machines") n.machines

abbrev pub zones_listed : Named → Text
zones_listed n = names_listed (codes "zones") n.zones

abbrev pub places_listed : Named → Text
places_listed n = names_listed (codes "places") n.places

-- a pose has its machine's name and its own
abbrev pub pose_item : Named → ℕ → Text
pose_item n pose =
    item_line (codes "(" ++ (quoted (machine_name n (machine_of n.plan pose))
    ++ (codes ", " ++ (quoted (name_in n.poses pose) ++ codes ")"))))

abbrev pub poses_listed : Named → Text
poses_listed n = listed (codes "poses") (flat_map (pose_item n) (range_with_len 0 (length n.poses)))

-- a motor has its name, its mask and its pattern
abbrev pub motor_item : Named → List Text → List Motor → ℕ → Text
motor_item n names motors k =
    item_line (codes "(" ++ (quoted (name_in names k)
    ++ (codes ", " ++ (decimal (mask_of n.plan (motor_at motors k))
    ++ (codes ", " ++ (decimal (pattern_of n.plan (motor_at motors k)) ++ codes ")"))))))

abbrev pub motors_listed : Named → List Text → List Motor → Text
motors_listed n names motors =
    listed (codes "motors") (flat_map (motor_item n names motors) (range_with_len 0 (length names)))

-- ---- the module

abbrev pub bytes_between : List ℕ → Text
bytes_between bytes = MODULE.now ++ (byte_words bytes ++ PLANT.now)

abbrev pub bytes_listed : Named → Text
bytes_listed n = bytes_between (bytes_of n.plan)

abbrev pub names_of_kinds : Named → Text
names_of_kinds n = machines_listed n ++ (zones_listed n ++ places_listed n)

abbrev pub names_of_parts : Named → List Text → List Motor → Text
names_of_parts n names motors = poses_listed n ++ (motors_listed n names motors ++ LAST.now)

unfoldable pub module_text : Named → List Text → List Motor → Text
module_text n names motors = bytes_listed n ++ (names_of_kinds n ++ names_of_parts n names motors)
