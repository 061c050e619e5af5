-- What was printed of a text.
use Rattle.std.specs.Prelude.{◌≡◌, ◌<◌, ℕ, List, Option}
use Rattle.std.specs.Io.KnownBytes.{Appends}
use Rattle.text_io.specs.Output.{WrotePrefix}

-- by the exit status: the text was printed, or a prefix of it
pub record Prints (exit : ℕ) (old new : Option (List ℕ)) (text : List ℕ) : Type 0 where
  pub status : exit < 2
  pub well : exit ≡ 0 → Appends old new text
  pub failed : exit ≡ 1 → WrotePrefix old new text
