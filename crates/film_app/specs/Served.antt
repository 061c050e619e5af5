-- What a run of the program has done.
use Rattle.std.specs.Prelude.{ℕ, List, [], ◌∷◌, codes, Option, Some, None, if◌then◌else◌}
use Rattle.std.specs.Str.{bytes_eq}
use Rattle.program_shell.specs.Asked.{asked_of}
use Rattle.program_shell.specs.Served.{Served}
use Rattle.program_shell.specs.declared.asked.Asked.{Asked}
use Rattle.program_shell.specs.declared.asked.Asked.TheVariants as asked
use Rattle.cell_config.specs.Settings.{max_bytes_read}
use Rattle.film_app.specs.Pages.{FilmFails, WasFilmed}
use Rattle.film_app.specs.Loops.{LoopFails, WasLooped}
use Rattle.film_app.specs.declared.request.Request.{Request}
use Rattle.film_app.specs.declared.request.Request.TheVariants.{Film, Loop, Help, Version}

-- what a word of this program alone asks for
abbrev pub request_by : List ℕ → Option Request
request_by word = if bytes_eq word (codes "--loop") then Some Loop else None

-- what words ask for, by what they ask for of every program
abbrev pub request_asked : Asked → List (List ℕ) → Option Request
request_asked asked.Help words = Some Help
request_asked asked.Version words = Some Version
request_asked asked.Other (name ∷ []) = Some Film
request_asked asked.Other (name ∷ word ∷ []) = request_by word
request_asked asked.Other _ = None

-- what words ask for; the first is the program's name
abbrev pub request_of : List (List ℕ) → Option Request
request_of words = request_asked (asked_of (codes "--loop" ∷ []) words) words

-- what `serve` says of a film
abbrev pub Films : ℕ → Option (List ℕ) → Option (List ℕ) → Option (List ℕ) → Option (List ℕ) → Type 0
Films = Served WasFilmed FilmFails max_bytes_read

-- what it says of a picture that loops
abbrev pub Loops : ℕ → Option (List ℕ) → Option (List ℕ) → Option (List ℕ) → Option (List ℕ) → Type 0
Loops = Served WasLooped LoopFails max_bytes_read
