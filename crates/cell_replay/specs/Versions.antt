-- The versions of scripts, by the word that record 0 begins with.
use Rattle.std.specs.Prelude.{ℕ, Bool, true, List, [], ◌∷◌, codes, find, Option}
use Rattle.std.specs.Str.{bytes_eq}
use Rattle.cell_rules.specs.Types.{Call, Stop, Resume}
use Rattle.cell_rules.specs.FirstVersion as first
use Rattle.cell_replay.specs.declared.version.Version.{Version}
use Rattle.cell_replay.specs.declared.version.Version.TheVariants.{First, Second}

abbrev pub all_versions : List Version
all_versions = First ∷ Second ∷ []

abbrev pub version_word : Version → List ℕ
version_word First = codes "start"
version_word Second = codes "start2"

-- the version with this word
abbrev pub version_of : List ℕ → Option Version
version_of word = find (λ version. bytes_eq word (version_word version)) all_versions

-- the calls that a version has beside those of the first
abbrev pub further_calls : Version → List Call
further_calls First = []
further_calls Second = Stop ∷ Resume ∷ []

-- whether a version has this call
abbrev pub has_call : Version → Call → Bool
has_call First call = first.has_call call
has_call Second call = true
