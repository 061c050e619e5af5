-- Exit statuses, a fault's line, what was printed, and which words ask for the version, and for help.
use Rattle.std.specs.Prelude.{◌≡◌, ℕ, Bool, List, [], ◌∷◌, ◌++◌, codes, Option, Some, IsTrue}
use Rattle.std.specs.Borrow.{Bor}
use Rattle.std.specs.Io.KnownBytes.{Appends}
use Rattle.text_io.specs.Input.{TakesAtMost}
use Rattle.text_io.specs.Output.{WrotePrefix}
use Rattle.program_shell.specs.Asked.{asked_of}
use Rattle.program_shell.specs.Exits.{exit_status}
use Rattle.program_shell.specs.Faults.{fault_line}
use Rattle.program_shell.specs.Printed.{Prints}
use Rattle.program_shell.specs.Served.{Served}
use Rattle.program_shell.specs.Versions.{AskForVersion, version_line}
use Rattle.program_shell.specs.Words.{texts_of}
use Rattle.program_shell.specs.declared.asked.Asked.{Asked}
use Rattle.program_shell.specs.declared.asked.Asked.TheVariants.{Help, Other, Version}
use Rattle.program_shell.specs.declared.exit.Exit.TheVariants.{Well, Failed, Refused}
use Rattle.program_shell.specs.declared.version.TheConstants.{VERSION}

-- what words ask for after the name of a program that has the words `sim` and `run`
abbrev pub asked_after_name : List (List ℕ) → Asked
asked_after_name words = asked_of (codes "sim" ∷ codes "run" ∷ []) (codes "cell" ∷ words)

-- what words ask for of a program that has the words `sim`, `run` and `replay`
abbrev pub asked_of_three : List (List ℕ) → Asked
asked_of_three words = asked_of (codes "sim" ∷ codes "run" ∷ codes "replay" ∷ []) words

-- Two bytes of three were taken from the input. A run that goes well writes 1 and 2, one that fails writes 3.
abbrev pub Ends : ℕ → ℕ → List ℕ → Type 0
Ends most exit written =
    Served (λ input old new. new ≡ Some (1 ∷ 2 ∷ [])) (λ bytes old new. new ≡ Some (3 ∷ [])) most exit
    (Some (7 ∷ 8 ∷ 9 ∷ [])) (Some (9 ∷ [])) (Some []) (Some written)

-- what was printed of 1 and 2 after 7
abbrev pub PrintsBoth : ℕ → List ℕ → Type 0
PrintsBoth exit written = Prints exit (Some (7 ∷ [])) (Some written) (1 ∷ 2 ∷ [])

pub record RunsAreMet : Type 0 where
  pub well : Ends 2 0 (1 ∷ 2 ∷ [])
  pub failed : Ends 2 1 (3 ∷ [])
  pub no_status : ¬ Ends 2 2 (3 ∷ [])
  pub not_well : ¬ Ends 2 0 (3 ∷ [])
  pub not_failed : ¬ Ends 2 1 (1 ∷ 2 ∷ [])
  pub taken_too_much : ¬ Ends 1 0 (1 ∷ 2 ∷ [])
  pub printed : PrintsBoth 0 (7 ∷ 1 ∷ 2 ∷ [])
  pub printed_in_part : PrintsBoth 1 (7 ∷ 1 ∷ [])
  pub no_status_of_print : ¬ PrintsBoth 2 (7 ∷ 1 ∷ 2 ∷ [])
  pub not_printed : ¬ PrintsBoth 0 (7 ∷ 1 ∷ [])
  pub printed_other : ¬ PrintsBoth 1 (7 ∷ 2 ∷ [])
  pub printed_nothing : PrintsBoth 1 (7 ∷ [])
  pub printed_without_old : ¬ PrintsBoth 0 (1 ∷ 2 ∷ [])

-- whatever a text is, and whatever a program says of its runs
pub record RunsMean : Type 0 where
  pub well : (test : Option (List ℕ) → Option (List ℕ) → Option (List ℕ) → Bool)
      (fails : List ℕ → Option (List ℕ) → Option (List ℕ) → Bool) (most : ℕ)
      (input rest old new : Option (List ℕ))
      → Served (λ i o n. IsTrue (test i o n)) (λ bytes o n. IsTrue (fails bytes o n)) most 0 input rest old new
      → IsTrue (test input old new) × TakesAtMost input rest most
  pub failed : (test : Option (List ℕ) → Option (List ℕ) → Option (List ℕ) → Bool)
      (fails : List ℕ → Option (List ℕ) → Option (List ℕ) → Bool) (most : ℕ) (bytes : List ℕ)
      (rest old new : Option (List ℕ))
      → Served (λ i o n. IsTrue (test i o n)) (λ all o n. IsTrue (fails all o n)) most 1 (Some bytes) rest old new
      → IsTrue (fails bytes old new) × TakesAtMost (Some bytes) rest most
  pub printed : (old new : Option (List ℕ)) (text : List ℕ) → Prints 0 old new text → Appends old new text
  pub printed_in_part : (old new : Option (List ℕ)) (text : List ℕ) → Prints 1 old new text
      → WrotePrefix old new text

pub record ShellIsMet : Type 0 where
  pub well : exit_status Well ≡ 0
  pub failed : exit_status Failed ≡ 1
  pub refused : exit_status Refused ≡ 2
  pub memory : fault_line (codes "memory") ≡ codes "fault memory\n"
  pub two_words : fault_line (codes "badrow 17") ≡ codes "fault badrow 17\n"
  pub no_word : fault_line [] ≡ codes "fault \n"
  pub version_line_of_other : version_line (codes "history") ≡ codes "history " ++ (VERSION.now ++ codes "\n")
  pub version_line : version_line (codes "film") ≡ codes "film " ++ (VERSION.now ++ codes "\n")
  pub texts : (first second : Bor (List ℕ)) → texts_of (first ∷ second ∷ []) ≡ first.now ∷ second.now ∷ []
  pub three_texts : (first second third : Bor (List ℕ))
      → texts_of (first ∷ second ∷ third ∷ []) ≡ first.now ∷ second.now ∷ third.now ∷ []
  pub no_text : texts_of [] ≡ []
  pub version : AskForVersion (codes "cell" ∷ codes "--version" ∷ [])
  pub version_of_other : AskForVersion ([] ∷ codes "--version" ∷ [])
  pub version_by_letter : ¬ AskForVersion (codes "cell" ∷ codes "-V" ∷ [])
  pub version_and_more : ¬ AskForVersion (codes "cell" ∷ codes "--version" ∷ codes "sim" ∷ [])
  pub no_words : ¬ AskForVersion []
  pub name_alone : ¬ AskForVersion (codes "--version" ∷ [])
  pub other_word : ¬ AskForVersion (codes "cell" ∷ codes "version" ∷ [])
  pub one_word_more : ¬ AskForVersion (codes "cell" ∷ codes "sim" ∷ codes "--version" ∷ [])
  pub help : asked_after_name (codes "--help" ∷ []) ≡ Help
  pub help_by_letter : asked_after_name (codes "-h" ∷ []) ≡ Help
  pub help_of_word : asked_after_name (codes "sim" ∷ codes "--help" ∷ []) ≡ Help
  pub help_of_later_word : asked_after_name (codes "run" ∷ codes "-h" ∷ []) ≡ Help
  pub help_before_more : asked_after_name (codes "run" ∷ codes "--help" ∷ codes "go" ∷ []) ≡ Help
  pub help_of_other_word : asked_after_name (codes "go" ∷ codes "--help" ∷ []) ≡ Other
  pub help_of_two_words : asked_after_name (codes "sim" ∷ codes "run" ∷ codes "--help" ∷ []) ≡ Other
  pub help_before_words : asked_after_name (codes "--help" ∷ codes "go" ∷ codes "--version" ∷ []) ≡ Help
  pub version_before_help : asked_after_name (codes "--version" ∷ codes "--help" ∷ []) ≡ Other
  pub version_alone : asked_after_name (codes "--version" ∷ []) ≡ Version
  pub version_of_word : asked_after_name (codes "sim" ∷ codes "--version" ∷ []) ≡ Other
  pub word : asked_after_name (codes "sim" ∷ []) ≡ Other
  pub nothing : asked_after_name [] ≡ Other
  pub help_by_letter_before_more : asked_after_name (codes "-h" ∷ codes "go" ∷ []) ≡ Help
  pub help_of_word_by_letter : asked_after_name (codes "sim" ∷ codes "-h" ∷ codes "go" ∷ codes "on" ∷ []) ≡ Help
  pub help_without_dashes : asked_after_name (codes "help" ∷ []) ≡ Other
  pub help_by_one_dash : asked_after_name (codes "-help" ∷ []) ≡ Other
  pub help_by_great_letter : asked_after_name (codes "-H" ∷ []) ≡ Other
  pub help_by_two_dashes_and_letter : asked_after_name (codes "--h" ∷ codes "go" ∷ []) ≡ Other
  pub longer_word_than_help : asked_after_name (codes "--helps" ∷ []) ≡ Other
  pub help_as_name : asked_of_three (codes "--help" ∷ []) ≡ Other
  pub help_as_name_of_word : asked_of_three (codes "-h" ∷ codes "sim" ∷ []) ≡ Other
  pub help_of_third_word : asked_of_three (codes "x" ∷ codes "replay" ∷ codes "--help" ∷ []) ≡ Help
  pub help_without_name : asked_of_three (codes "sim" ∷ codes "run" ∷ codes "-h" ∷ []) ≡ Help
  pub no_word_of_three : asked_of_three [] ≡ Other
  pub version_of_three : asked_of_three (codes "replay" ∷ codes "--version" ∷ []) ≡ Version
  pub help_without_own_words : asked_of [] (codes "x" ∷ codes "--help" ∷ codes "y" ∷ []) ≡ Help
  pub help_of_no_own_word : asked_of [] (codes "x" ∷ codes "sim" ∷ codes "-h" ∷ []) ≡ Other
