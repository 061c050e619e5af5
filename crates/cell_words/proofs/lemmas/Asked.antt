-- Which mode words ask for.
use Rattle.std.proofs.Common.{◌≡◌, inl, inr, ℕ, List, [], ◌∷◌, codes, sym, ap, subst, ◌∙◌}
use Rattle.clap.specs.Words.{HasKind, IsAmong, Kinds, Text, kind_of}
use Rattle.clap.specs.declared.error.Error.{Error}
use Rattle.clap.specs.declared.error.kind.ErrorKind.TheVariants as ErrorKind
use Rattle.clap.proofs.OnLiterals.{clap_on_literals}
use Rattle.program_shell.specs.Versions.{AskForVersion}
use Rattle.program_shell.proofs.lemmas.Versions.{version_words}
use Rattle.cell_words.specs.Words.{AreTaken, AreTakenAsFlags, AskForRun, mode_of}
use Rattle.cell_words.specs.declared.words.Mode.{Mode}
use Rattle.cell_words.specs.declared.words.Mode.TheVariants.{Run}

-- the words ask for the run that was read
pub run_asked : (words : List Text) (m : Mode) (turns tries turns' tries' : ℕ) → m ≡ Run turns tries → m ≡ mode_of words → AskForRun turns' tries' words → (turns ≡ turns') × (tries ≡ tries')
run_asked words m turns tries turns' tries' e f k =
    let same : Run turns tries ≡ Run turns' tries' = sym e ∙ (f ∙ k.1) in
    (cc, cc)

-- ---- words that ask for the version

by_version : {P : Type 0} → (name : Text) → AreTaken (name ∷ codes "--version" ∷ []) → P
unfolding clap_on_literals
by_version name k = cc

-- `clap` doesn't take them, as words or as flags of `run`
pub version_untaken : {P : Type 0} → (words : List Text) → AskForVersion words → AreTaken words → P
version_untaken words asked k = let is = version_words words asked in by_version is.0 (subst AreTaken is.1 k)

pub flags_version_untaken : {P : Type 0} → (name : Text) → AreTakenAsFlags (name ∷ codes "--version" ∷ []) → P
unfolding clap_on_literals
flags_version_untaken name k = cc

-- ---- words that `clap` takes

-- of these the only error is out of memory
pub no_room : (kinds : Kinds) (e : Error) → HasKind kinds e → kinds ≡ [] → kind_of e ≡ ErrorKind.OutOfMemory
no_room kinds e (inl h) none = h
no_room (k ∷ ks) e (inr h) none = cc
no_room [] e (inr h) none = absurd h

-- ---- words that ask for help

pub help_asked : (kinds : Kinds) (e : Error) → HasKind kinds e → kind_of e ≡ ErrorKind.DisplayHelp → IsAmong ErrorKind.DisplayHelp kinds
help_asked kinds e (inl h) is = let lie : ErrorKind.OutOfMemory ≡ ErrorKind.DisplayHelp = sym h ∙ is in cc
help_asked kinds e (inr h) is = subst (λ k. IsAmong k kinds) is h
