-- What words ask for of every program: its help and its version.
use Rattle.std.specs.Prelude.{ℕ, Bool, false, List, [], ◌∷◌, ◌&&◌, ◌||◌, codes, if◌then◌else◌}
use Rattle.std.specs.List.{list_any}
use Rattle.std.specs.Str.{bytes_eq}
use Rattle.program_shell.specs.Versions.{asks_for_version}
use Rattle.program_shell.specs.declared.asked.Asked.{Asked}
use Rattle.program_shell.specs.declared.asked.Asked.TheVariants.{Help, Version, Other}

abbrev pub is_help : List ℕ → Bool
is_help word = bytes_eq word (codes "--help") || bytes_eq word (codes "-h")

abbrev pub is_among : List (List ℕ) → List ℕ → Bool
is_among own word = list_any (λ one. bytes_eq one word) own

-- `--help` or `-h` stands after the program's name, or after that and one of its own words
abbrev pub asks_for_help : List (List ℕ) → List (List ℕ) → Bool
asks_for_help own (name ∷ word ∷ []) = is_help word
asks_for_help own (name ∷ word ∷ next ∷ rest) = is_help word || (is_among own word && is_help next)
asks_for_help own _ = false

-- what words ask for; the first is the program's name
abbrev pub asked_of : List (List ℕ) → List (List ℕ) → Asked
asked_of own words =
    if asks_for_version words then Version
    else (if asks_for_help own words then Help
    else Other)
