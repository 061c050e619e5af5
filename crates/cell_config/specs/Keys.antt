-- The keys of configurations.
use Rattle.std.specs.Prelude.{ℕ, List, [], ◌∷◌, Bool, true, ◌&&◌, ◌||◌, codes}
use Rattle.std.specs.List.{list_all, list_any}
use Rattle.std.specs.Option.{option_map_or}
use Rattle.std.specs.Str.{bytes_eq}
use Rattle.toml.specs.Data.{Data, Members, no_members, member, as_table}

-- the keys of a table with their values
abbrev pub entries : Members → List (List ℕ × Data)
entries no_members = []
entries (member key value members) = (key, value) ∷ entries members

abbrev pub is_one_of : List (List ℕ) → List ℕ → Bool
is_one_of keys key = list_any (λ known. bytes_eq known key) keys

-- the keys at the top with plain values, those with sections, and the keys of a section
abbrev pub plain_keys : List (List ℕ)
plain_keys = codes "start" ∷ codes "stamp" ∷ codes "schedule" ∷ []

abbrev pub section_keys : List (List ℕ)
section_keys = codes "arm1" ∷ codes "arm2" ∷ codes "rotation" ∷ codes "turn" ∷ codes "gripper" ∷ []

abbrev pub inner_keys : List (List ℕ)
inner_keys = codes "raw" ∷ codes "tol" ∷ codes "points" ∷ []

abbrev pub has_inner_keys : Members → Bool
has_inner_keys section = list_all (λ entry. is_one_of inner_keys entry.0) (entries section)

-- a section that is a table has only known keys
abbrev pub is_known_inside : Data → Bool
is_known_inside value = option_map_or has_inner_keys (as_table value) true

abbrev pub is_known_entry : List ℕ × Data → Bool
is_known_entry (key, value) = is_one_of plain_keys key || is_one_of section_keys key && is_known_inside value

-- all keys are known, at the top and in each section that is a table
abbrev pub is_known : Members → Bool
is_known members = list_all is_known_entry (entries members)
