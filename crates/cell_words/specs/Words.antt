-- The program's words, as `clap` reads them.
use Rattle.std.specs.Prelude.{◌≡◌, ◌≤◌, ℕ, List, [], ◌∷◌, codes, ◌⊎◌, Option, Some, None, true, ⊤, if◌then◌else◌}
use Rattle.std.specs.Option.{option_map_or}
use Rattle.std.specs.Str.{bytes_eq}
use Rattle.std.specs.Str.Parse.{digits_value, without_leading_plus}
use Rattle.clap.specs.Words.{App, IsAmong, IsUnsignedIn, Row, Rule, Text, fault_of, new_app, new_rule, one_of}
use Rattle.clap.specs.Simple.{matches_of}
use Rattle.clap.specs.Words.{subcommand_of, with_rule, with_subcommand}
use Rattle.clap.specs.declared.builder.value_parser.ValueParser.TheVariants.{Unsigned}
use Rattle.clap.specs.declared.error.kind.ErrorKind.TheVariants.{DisplayHelp}
pub use Rattle.program_shell.specs.Words.{texts_of}
use Rattle.cell_words.specs.declared.words.RunFlags.{RunFlags}
use Rattle.cell_words.specs.declared.words.Mode.{Mode}
use Rattle.cell_words.specs.declared.words.Mode.TheVariants.{Replay, Sim, Run}

-- a flag that takes a number from 1 to the most, and has a default
abbrev pub number_flag : Text → ℕ → Text → Rule
number_flag name most default = record (new_rule name) {
  long = Some name;
  value_names = 1;
  parser = Some (Unsigned 1 most);
  defaults = default ∷ [];
}

abbrev pub max_turns : ℕ
max_turns = 100000

abbrev pub max_tries : ℕ
max_tries = 64

-- the word `run` with its flags
abbrev pub run_command : App
run_command =
    with_rule (with_rule (new_app (codes "run")) (number_flag (codes "turns") max_turns (codes "1000")))
    (number_flag (codes "tries") max_tries (codes "8"))

-- the program `cell`, with the words `replay`, `sim` and `run`
abbrev pub program : App
program =
    with_subcommand
    (with_subcommand
    (with_subcommand (new_app (codes "cell")) (new_app (codes "replay")).top)
    (new_app (codes "sim")).top)
    run_command.top

-- the number that a text spells, perhaps after a plus
abbrev pub number_of : Text → ℕ
number_of text = digits_value 10 (without_leading_plus text)

-- the number of a flag, or its default
abbrev pub number_in : Text → List Row → ℕ
number_in flag rows = option_map_or number_of (one_of flag rows) 0

-- the turns and the tries of the flags of `run`
abbrev pub flags_in : List Row → RunFlags
flags_in rows = record { turns = number_in (codes "turns") rows; tries = number_in (codes "tries") rows }

-- those of words with flags of `run` after the program's name
abbrev pub flags_of : List Text → RunFlags
flags_of words = flags_in (matches_of run_command words)

-- what the word after the program's name asks for: a replay if there is none
abbrev pub mode_named : Option (Text × List Row) → Mode
mode_named None = Replay
mode_named (Some (word, rows)) =
    if bytes_eq word (codes "sim") then Sim
    else (if bytes_eq word (codes "run") then Run (number_in (codes "turns") rows) (number_in (codes "tries") rows)
    else Replay)

abbrev pub mode_of : List Text → Mode
mode_of words = mode_named (subcommand_of program words)

-- `clap` accepts the words; the first is the program's name
abbrev pub AreTaken : List Text → Type 0
AreTaken words = fault_of program words ≡ []

-- they ask for help
abbrev pub AskForHelp : List Text → Type 0
AskForHelp words = IsAmong DisplayHelp (fault_of program words)

-- they ask for a replay: the program's name alone, or with the word `replay` after it
abbrev pub AskForReplay : List Text → Type 0
AskForReplay words = (name : Text) × ((words ≡ name ∷ []) ⊎ (words ≡ name ∷ codes "replay" ∷ []))

-- they ask for a simulation: the program's name with the word `sim` after it
abbrev pub AskForSim : List Text → Type 0
AskForSim words = (name : Text) × (words ≡ name ∷ codes "sim" ∷ [])

-- the program's name alone, or with one of its words after it
abbrev pub AreBare : List Text → Type 0
AreBare words =
    AskForReplay words ⊎ (AskForSim words ⊎ ((name : Text) × (words ≡ name ∷ codes "run" ∷ [])))

-- they ask for a run with these turns and tries: `clap` accepts them, and the word `run` follows the program's name
abbrev pub AskForRun : ℕ → ℕ → List Text → Type 0
AskForRun turns tries words = AreTaken words × (mode_of words ≡ Run turns tries)

-- `clap` accepts the words as flags of `run` after a program's name
abbrev pub AreTakenAsFlags : List Text → Type 0
AreTakenAsFlags words = fault_of run_command words ≡ []

-- they ask for help where flags of `run` may stand
abbrev pub AskForHelpOnFlags : List Text → Type 0
AskForHelpOnFlags words = IsAmong DisplayHelp (fault_of run_command words)

-- flags of `run` after a program's name ask for these turns and tries
abbrev pub AskByFlags : ℕ → ℕ → List Text → Type 0
AskByFlags turns tries words = AreTakenAsFlags words × (flags_of words ≡ record { turns = turns; tries = tries })

-- a run has from 1 to `max_turns` turns, and from 1 to `max_tries` tries
abbrev pub IsWithin : Mode → Type 0
IsWithin Replay = ⊤
IsWithin Sim = ⊤
IsWithin (Run turns tries) = (1 ≤ turns) × (turns ≤ max_turns) × (1 ≤ tries) × (tries ≤ max_tries)

-- the flag has a number from 1 to the most
abbrev pub HasNumber : Text → ℕ → List Row → Type 0
HasNumber flag most rows = (text : Text) × (one_of flag rows ≡ Some text) × IsUnsignedIn 1 most text

-- the flags of `run` have their numbers
abbrev pub HaveNumbers : List Row → Type 0
HaveNumbers rows = HasNumber (codes "turns") max_turns rows × HasNumber (codes "tries") max_tries rows

-- if the word `run` was found, its flags have their numbers
abbrev pub HasNumbers : Option (Text × List Row) → Type 0
HasNumbers None = ⊤
HasNumbers (Some (word, rows)) = bytes_eq word (codes "run") ≡ true → HaveNumbers rows
