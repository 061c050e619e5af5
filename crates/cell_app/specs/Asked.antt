-- What words ask for.
use Rattle.std.specs.Prelude.{◌≡◌, List, [], ◌∷◌, codes}
use Rattle.clap.specs.Words.{Text}
use Rattle.cell_words.specs.Words.{AreTaken, AskForReplay, AskForSim, mode_of}
use Rattle.cell_words.specs.declared.words.Mode.{Mode}
use Rattle.cell_words.specs.declared.words.Mode.TheVariants.{Replay, Sim, Run}

-- `clap` accepts the words, and they ask for this
abbrev pub AskFor : Mode → List Text → Type 0
AskFor mode words = AreTaken words × (mode_of words ≡ mode)

-- The program's name alone asks for a replay, as does the word `replay` after it. The word `sim` asks for a simulation.
-- Two dashes at the end change nothing.
pub record WordsAreServed : Type 0 where
  pub replay : (words : List Text) → AskForReplay words → AskFor Replay words
  pub sim : (words : List Text) → AskForSim words → AskFor Sim words
  pub nothing_more : AskFor Replay (codes "cell" ∷ codes "--" ∷ [])
  pub replay_alone : AskFor Replay (codes "cell" ∷ codes "replay" ∷ codes "--" ∷ [])
  pub sim_as_replay : ¬ AskFor Replay (codes "cell" ∷ codes "sim" ∷ [])
  pub name_alone : AskFor Replay (codes "cell" ∷ [])
  pub replay_word : AskFor Replay (codes "x" ∷ codes "replay" ∷ [])
  pub sim_word : AskFor Sim (codes "x" ∷ codes "sim" ∷ [])
  pub run_word : AskFor (Run 1000 8) (codes "cell" ∷ codes "run" ∷ [])
  pub refused_number : ¬ AskFor (Run 0 8) (codes "cell" ∷ codes "run" ∷ codes "--turns=0" ∷ [])
  pub replay_as_sim : ¬ AskFor Sim (codes "cell" ∷ codes "replay" ∷ [])
  pub other_word : ¬ AskFor Replay (codes "cell" ∷ codes "go" ∷ [])
  pub sim_alone : AskFor Sim (codes "cell" ∷ codes "sim" ∷ codes "--" ∷ [])
