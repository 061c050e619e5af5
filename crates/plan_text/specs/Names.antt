-- Names of one kind, and the number of a name: its place among them.
use Rattle.std.specs.Prelude.{ℕ, Bool, ◌&&◌, ◌||◌, nat_eq, nat_le, List, [], ◌∷◌, codes, get_or, length, slice_index}
use Rattle.std.specs.Prelude.{Option}
use Rattle.std.specs.Char.{is_ascii_digit, is_ascii_lowercase}
use Rattle.std.specs.List.{list_all, list_any}
use Rattle.std.specs.Bool.{then_some}
use Rattle.std.specs.Str.{bytes_eq}
use Rattle.plan_types.specs.Below.{first_below}

abbrev pub Text : Type 0
Text = List ℕ

-- the name with a number
abbrev pub name_in : List Text → ℕ → Text
name_in names number = get_or names number []

-- a number, if its name is this
abbrev pub number_if : List Text → Text → ℕ → Option ℕ
number_if names name number = then_some (bytes_eq (name_in names number) name) number

-- the number of a name: its place among names, from 0
abbrev pub number_in : List Text → Text → Option ℕ
number_in names name = first_below (number_if names name) (length names)

-- which texts are names: a letter, then letters, digits and underscores, all in lower case; at most 32 characters
abbrev pub is_name_byte : ℕ → Bool
is_name_byte byte = is_ascii_lowercase byte || is_ascii_digit byte || nat_eq byte 95

abbrev pub is_name : Text → Bool
is_name text =
    is_ascii_lowercase (slice_index text 0) && nat_le (length text) 32 && list_all is_name_byte text

-- `watch`, `free`, `start` and the words of calls
abbrev pub script_words : List Text
script_words =
    codes "watch" ∷ codes "free" ∷ codes "start" ∷ codes "claim" ∷ codes "give" ∷ codes "yield" ∷ codes "take"
    ∷ codes "release" ∷ codes "inquire" ∷ codes "pose" ∷ codes "advance" ∷ codes "stop" ∷ codes "resume" ∷ []

abbrev pub is_reserved : Text → Bool
is_reserved name = list_any (λ word. bytes_eq word name) script_words
