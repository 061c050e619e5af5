-- Words that ask for the version.
use Rattle.std.proofs.Common.{◌≡◌, ℕ, List, [], ◌∷◌, codes, ap}
use Rattle.std.proofs.lemmas.Slice.Eq.{bytes_eq-Decides}
use Rattle.program_shell.specs.Versions.{AskForVersion}

pub version_words : (words : List (List ℕ)) → AskForVersion words → (name : List ℕ) × (words ≡ name ∷ codes "--version" ∷ [])
version_words [] k = cc
version_words (name ∷ []) k = cc
version_words (name ∷ word ∷ []) k = (name, ap (λ w. name ∷ w ∷ []) ((bytes_eq-Decides word (codes "--version")).0 k))
version_words (name ∷ word ∷ more ∷ rest) k = cc
