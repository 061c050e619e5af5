-- What `serve` says of a film, by how it ends.
use Rattle.std.proofs.Common.{inr, ℕ, List, Option, Some, None, Ok, IfSome}
use Rattle.std.specs.Io.KnownBytes.{Appends}
use Rattle.text_io.specs.Input.{TakesAtMost}
use Rattle.text_io.specs.Output.{WrotePrefix}
use Rattle.program_shell.specs.Printed.{Prints}
use Rattle.program_shell.proofs.lemmas.Serving.{printed}
use Rattle.cell_config.specs.Configured.{Says, shown}
use Rattle.cell_config.specs.Settings.{max_bytes_read}
use Rattle.cell_config.specs.declared.configuration.Config.{Config}
use Rattle.film_app.specs.Pages.{FilmFails, IsFilmOf, IsPageOf, WasFilmed}
use Rattle.film_app.specs.Served.{Films}

film_of : (bytes : List ℕ) (config : Config) (page : List ℕ) → Says bytes (Ok config) → IsPageOf config page → IsFilmOf bytes page
film_of bytes config page says k = record { settings = shown config; said = says; lines = k.0; shown = k.1.0; page = k.1.1 }

module _ (o rest old new : Option (List ℕ)) (taken : TakesAtMost o rest max_bytes_read) where
  shown_of : (p : Option (List ℕ)) (config : Config) (page : List ℕ) → IfSome p (λ bytes. Says bytes (Ok config)) → IsPageOf config page → Appends old new page → WasFilmed p old new
  shown_of None config page says k a = tt
  shown_of (Some bytes) config page says k a = (page, (film_of bytes config page says k, a))

  part_of : (p : Option (List ℕ)) (config : Config) (page : List ℕ) → IfSome p (λ bytes. Says bytes (Ok config)) → IsPageOf config page → WrotePrefix old new page → IfSome p (λ bytes. FilmFails bytes old new)
  part_of None config page says k w = tt
  part_of (Some bytes) config page says k w = inr (inr (page, (film_of bytes config page says k, w)))

  pub filmed : (n : ℕ) (config : Config) (page : List ℕ) → IfSome o (λ bytes. Says bytes (Ok config)) → IsPageOf config page → Prints n old new page → Films n o rest old new
  filmed n config page says k p = printed WasFilmed FilmFails max_bytes_read n page o rest old new p (shown_of o config page says k) (part_of o config page says k) taken
