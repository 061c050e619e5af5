-- The version of the programs.
use Rattle.std.specs.Prelude.{◌≡◌, ℕ, Bool, true, false, List, [], ◌∷◌, ◌++◌, codes}
use Rattle.std.specs.Str.{bytes_eq}
use Rattle.program_shell.specs.declared.version.TheConstants.{VERSION}

-- whether words are a program's name with `--version` after it
abbrev pub asks_for_version : List (List ℕ) → Bool
asks_for_version (name ∷ word ∷ []) = bytes_eq word (codes "--version")
asks_for_version _ = false

abbrev pub AskForVersion : List (List ℕ) → Type 0
AskForVersion words = asks_for_version words ≡ true

-- a program's name and its version
abbrev pub version_line : List ℕ → List ℕ
version_line name = name ++ (codes " " ++ (VERSION.now ++ codes "\n"))
