-- Words with what they ask for, and words that are refused.
use Rattle.std.specs.Prelude.{◌≡◌, ℕ, List, [], ◌∷◌, codes, false, Some, None}
use Rattle.clap.specs.Words.{IsUnsignedIn, Row, Text, one_of, takes}
use Rattle.cell_words.specs.Words.{mode_of, program, AreBare, AreTaken, AskForHelp, AskForReplay, AskForRun, AskForSim}
use Rattle.cell_words.specs.Words.{AreTakenAsFlags, AskByFlags, AskForHelpOnFlags, HasNumber, HasNumbers, HaveNumbers}
use Rattle.cell_words.specs.Words.{IsWithin, mode_named, number_in, number_of}
use Rattle.cell_words.specs.declared.words.Mode.{Mode}
use Rattle.cell_words.specs.declared.words.Mode.TheVariants.{Replay, Sim, Run}

-- these words after the program's name ask for this
abbrev pub AskAfterName : List Text → Mode → Type 0
AskAfterName words mode = AreTaken (codes "cell" ∷ words) × (mode_of (codes "cell" ∷ words) ≡ mode)

abbrev pub AreRefused : List Text → Type 0
AreRefused words = takes program (codes "cell" ∷ words) ≡ false

-- `clap` gives its help for these words after the program's name
abbrev pub AskForHelpAfterName : List Text → Type 0
AskForHelpAfterName words = AskForHelp (codes "cell" ∷ words)

abbrev pub run_with : Text → Text → List Text
run_with flag number = codes "run" ∷ flag ∷ number ∷ []

pub record WordsAreMet : Type 0 where
  pub nothing : AskAfterName [] Replay
  pub replay : AskAfterName (codes "replay" ∷ []) Replay
  pub sim : AskAfterName (codes "sim" ∷ []) Sim
  pub run : AskAfterName (codes "run" ∷ []) (Run 1000 8)
  pub one_turn : AskAfterName (run_with (codes "--turns") (codes "1")) (Run 1 8)
  pub max_turns : AskAfterName (run_with (codes "--turns") (codes "100000")) (Run 100000 8)
  pub one_try : AskAfterName (run_with (codes "--tries") (codes "1")) (Run 1000 1)
  pub max_tries : AskAfterName (run_with (codes "--tries") (codes "64")) (Run 1000 64)
  pub plus : AskAfterName (run_with (codes "--turns") (codes "+7")) (Run 7 8)
  pub both : AskAfterName (codes "run" ∷ codes "--tries=64" ∷ codes "--turns=3" ∷ []) (Run 3 64)
  pub leading_noughts : AskAfterName (run_with (codes "--turns") (codes "00120")) (Run 120 8)
  pub ten_tries : AskAfterName (run_with (codes "--tries") (codes "10")) (Run 1000 10)
  pub turns_and_tries : AskAfterName (codes "run" ∷ codes "--turns" ∷ codes "99" ∷ codes "--tries" ∷ codes "7" ∷ [])
      (Run 99 7)
  pub turns_twice : AreRefused (codes "run" ∷ codes "--turns=3" ∷ codes "--turns=4" ∷ [])
  pub number_alone : AreRefused (codes "run" ∷ codes "3" ∷ [])
  pub no_digit : AreRefused (run_with (codes "--turns") (codes "x"))
  pub below_nought : AreRefused (run_with (codes "--tries") (codes "-1"))
  pub capital_word : AreRefused (codes "Run" ∷ [])
  pub shorter_word : AreRefused (codes "si" ∷ [])
  pub no_turn : AreRefused (run_with (codes "--turns") (codes "0"))
  pub turn_more : AreRefused (run_with (codes "--turns") (codes "100001"))
  pub no_try : AreRefused (run_with (codes "--tries") (codes "0"))
  pub try_more : AreRefused (run_with (codes "--tries") (codes "65"))
  pub no_number : AreRefused (codes "run" ∷ codes "--turns" ∷ [])
  pub other_flag : AreRefused (run_with (codes "--steps") (codes "3"))
  pub flag_of_run : AreRefused (codes "sim" ∷ codes "--turns" ∷ codes "3" ∷ [])
  pub other_word : AreRefused (codes "go" ∷ [])
  pub word_more : AreRefused (codes "replay" ∷ codes "replay" ∷ [])
  pub help : AskForHelpAfterName (codes "--help" ∷ [])
  pub help_by_letter : AskForHelpAfterName (codes "-h" ∷ [])
  pub help_of_word : AskForHelpAfterName (codes "sim" ∷ codes "--help" ∷ [])
  pub help_of_other_word : ¬ AskForHelpAfterName (codes "go" ∷ codes "--help" ∷ [])
  pub help_of_two_words : ¬ AskForHelpAfterName (codes "sim" ∷ codes "run" ∷ codes "--help" ∷ [])
  pub help_before_words : AskForHelpAfterName (codes "--help" ∷ codes "go" ∷ codes "--version" ∷ [])
  pub version_before_help : ¬ AskForHelpAfterName (codes "--version" ∷ codes "--help" ∷ [])
  pub version_of_word : AreRefused (codes "sim" ∷ codes "--version" ∷ [])

-- what is said of words in `serve`'s clauses, and of a mode
pub record ModesAreMet : Type 0 where
  pub run : AskForRun 3 64 (codes "cell" ∷ codes "run" ∷ codes "--tries=64" ∷ codes "--turns=3" ∷ [])
  pub other_turns : ¬ AskForRun 4 8 (codes "cell" ∷ run_with (codes "--turns") (codes "3"))
  pub other_tries : ¬ AskForRun 1000 7 (codes "cell" ∷ codes "run" ∷ [])
  pub refused_run : ¬ AskForRun 0 8 (codes "cell" ∷ run_with (codes "--turns") (codes "0"))
  pub name_alone : AskForReplay (codes "x" ∷ [])
  pub replay : AskForReplay (codes "x" ∷ codes "replay" ∷ [])
  pub sim : AskForSim (codes "x" ∷ codes "sim" ∷ [])
  pub no_name : ¬ AskForReplay []
  pub sim_as_replay : ¬ AskForReplay (codes "x" ∷ codes "sim" ∷ [])
  pub replay_as_sim : ¬ AskForSim (codes "x" ∷ codes "replay" ∷ [])
  pub name_as_sim : ¬ AskForSim (codes "x" ∷ [])
  pub sim_and_more : ¬ AskForSim (codes "x" ∷ codes "sim" ∷ codes "sim" ∷ [])
  pub replay_and_more : ¬ AskForReplay (codes "x" ∷ codes "replay" ∷ codes "replay" ∷ [])
  pub no_bare_words : ¬ AreBare []
  pub no_bare_run : ¬ AreBare (codes "x" ∷ codes "run" ∷ codes "--turns=3" ∷ [])
  pub bare_replay : AreBare (codes "x" ∷ codes "replay" ∷ [])
  pub named_none : mode_named None ≡ Replay
  pub named_sim : mode_named (Some (codes "sim", [])) ≡ Sim
  pub named_replay : mode_named (Some (codes "replay", [])) ≡ Replay
  pub no_flag : number_in (codes "turns") [] ≡ 0
  pub spelled : number_of (codes "+0064") ≡ 64
  pub of_replay : IsWithin Replay
  pub of_sim : IsWithin Sim
  pub bare_run : AreBare (codes "x" ∷ codes "run" ∷ [])
  pub bare_sim : AreBare (codes "x" ∷ codes "sim" ∷ [])
  pub bare_name : AreBare (codes "x" ∷ [])
  pub fewest : IsWithin (Run 1 1)
  pub most : IsWithin (Run 100000 64)
  pub no_turn : ¬ IsWithin (Run 0 1)
  pub no_try : ¬ IsWithin (Run 1 0)
  pub turn_more : ¬ IsWithin (Run 100001 1)
  pub try_more : ¬ IsWithin (Run 1 65)
  pub number : (flag : Text) (most : ℕ) (rows : List Row) → HasNumber flag most rows
      → (text : Text) × (one_of flag rows ≡ Some text) × IsUnsignedIn 1 most text
  pub is_number : (flag text : Text) (most : ℕ) (rows : List Row) → one_of flag rows ≡ Some text
      → IsUnsignedIn 1 most text → HasNumber flag most rows
  pub no_word : HasNumbers None
  pub other_word : (rows : List Row) → HasNumbers (Some (codes "sim", rows))
  pub have_numbers : (rows : List Row) → HaveNumbers rows
      → HasNumber (codes "turns") 100000 rows × HasNumber (codes "tries") 64 rows
  pub numbers : (rows : List Row) → HasNumbers (Some (codes "run", rows))
      → HasNumber (codes "turns") 100000 rows × HasNumber (codes "tries") 64 rows

-- flags of `run` after a program's name, and what stands there and is no flag
abbrev pub AreRefusedAsFlags : List Text → Type 0
AreRefusedAsFlags flags = ¬ AreTakenAsFlags (codes "x" ∷ flags)

abbrev pub AskForNumbers : ℕ → ℕ → List Text → Type 0
AskForNumbers turns tries flags = AskByFlags turns tries (codes "x" ∷ flags)

pub record FlagsAreMet : Type 0 where
  pub nothing : AskForNumbers 1000 8 []
  pub no_name : AskByFlags 1000 8 []
  pub both : AskForNumbers 3 64 (codes "--tries=64" ∷ codes "--turns=3" ∷ [])
  pub turns : AskForNumbers 100000 8 (codes "--turns" ∷ codes "100000" ∷ [])
  pub tries : AskForNumbers 1000 1 (codes "--tries" ∷ codes "+1" ∷ [])
  pub other_turns : ¬ AskForNumbers 1000 8 (codes "--turns" ∷ codes "5" ∷ [])
  pub other_tries : ¬ AskForNumbers 5 5 (codes "--turns" ∷ codes "5" ∷ [])
  pub no_turn : AreRefusedAsFlags (codes "--turns" ∷ codes "0" ∷ [])
  pub turn_more : AreRefusedAsFlags (codes "--turns=100001" ∷ [])
  pub no_try : AreRefusedAsFlags (codes "--tries=0" ∷ [])
  pub try_more : AreRefusedAsFlags (codes "--tries" ∷ codes "65" ∷ [])
  pub no_number : AreRefusedAsFlags (codes "--tries" ∷ [])
  pub other_flag : AreRefusedAsFlags (codes "--steps=3" ∷ [])
  pub word : AreRefusedAsFlags (codes "run" ∷ [])
  pub version : AreRefusedAsFlags (codes "--version" ∷ [])
  pub help : AskForHelpOnFlags (codes "x" ∷ codes "--help" ∷ [])
  pub help_by_letter : AskForHelpOnFlags (codes "x" ∷ codes "-h" ∷ codes "go" ∷ [])
  pub help_of_flag : AskForHelpOnFlags (codes "x" ∷ codes "--turns" ∷ codes "3" ∷ codes "--help" ∷ [])
  pub help_after_word : ¬ AskForHelpOnFlags (codes "x" ∷ codes "run" ∷ codes "--help" ∷ [])
  pub no_help : ¬ AskForHelpOnFlags (codes "x" ∷ [])
