-- What each exit status says of a film, and of a picture that loops.
use Rattle.std.specs.Prelude.{◌≡◌, ℕ, List, [], ◌∷◌, ◌++◌, codes, length, map, take, Option, Some, Ok, Err}
use Rattle.text_io.specs.Output.{WrotePrefix}
use Rattle.cell_notes.specs.declared.schedule.Turn.{Turn}
use Rattle.cell_rules.specs.ModelState.{ModelState}
use Rattle.cell_sensors.specs.Names.{Pair, pairs_of, Scale}
use Rattle.cell_parts.specs.Axes.{CellScales}
use Rattle.cell_plant.specs.Names.{cell_at_start, frames_of, on_curves, Step, IsRunBy}
use Rattle.cell_plant.specs.declared.frame.Frame.{Frame}
use Rattle.cell_picture.specs.Pictures.{IsPictureOf}
use Rattle.cell_config.specs.Configured.{Says, in_order}
use Rattle.cell_config.specs.ConfigWords.{config_fault_text}
use Rattle.cell_config.specs.Settings.{Settings, settings_of}
use Rattle.cell_config.specs.declared.configuration.Config.{Config}
use Rattle.cell_config.specs.declared.fault.ConfigFault.{ConfigFault}
use Rattle.film_app.specs.Lines.{film_lines}
use Rattle.film_app.specs.Loops.{IsLoopOf, IsPictureFrom, LoopFails}
use Rattle.film_app.specs.Pages.{FilmFails, IsFilmOf, IsPageOf, page_text}
use Rattle.film_app.specs.Served.{Films, Loops}

-- the first 100000 turns of a schedule were run, and this is so of the frames
abbrev pub RunShows : List Scale → List (List Pair) → ModelState → List Turn → (List Frame → Type 0) → Type 0
RunShows points curves opening turns Shows =
    (scales : CellScales) × (points ≡ in_order scales) × (steps : List Step)
    × IsRunBy scales (on_curves curves) (cell_at_start opening) (take 100000 turns) steps
    × Shows (frames_of opening (take 100000 turns) steps)

-- the configuration that the bytes give was run, and this is so of the frames and of the number of turns
abbrev pub BytesShow : List ℕ → (List Frame → ℕ → Type 0) → Type 0
BytesShow bytes Shows =
    (settings : Settings) × (settings_of bytes ≡ Ok settings)
    × RunShows settings.points settings.curves settings.start settings.schedule
    (λ frames. Shows frames (length settings.schedule))

-- the same of a configuration
abbrev pub ConfigShows : Config → (List Frame → ℕ → Type 0) → Type 0
ConfigShows config Shows =
    RunShows config.points (map pairs_of config.curves) config.start config.schedule.items
    (λ frames. Shows frames (length config.schedule.items))

-- one of these is so: the configuration was refused, or memory ran out, and a prefix of the fault's line was written;
-- or a text of this kind was written in part
abbrev pub FailsBy : List ℕ → (List ℕ → Type 0) → Option (List ℕ) → Option (List ℕ) → Type 0
FailsBy bytes IsText old new =
    ((fault : ConfigFault) → Says bytes (Err fault)
    → ¬ WrotePrefix old new (codes "fault " ++ (config_fault_text fault ++ codes "\n")))
    → (¬ WrotePrefix old new (codes "fault memory\n"))
    → ((text : List ℕ) → IsText text → ¬ WrotePrefix old new text) → ⊥

pub record StatusesTell : Type 0 where
  pub filmed : (bytes text : List ℕ) (rest : Option (List ℕ)) → Films 0 (Some bytes) rest (Some []) (Some text)
      → BytesShow bytes (λ frames turns. text ≡ page_text (film_lines frames) turns)
  pub looped : (bytes text : List ℕ) (rest : Option (List ℕ)) → Loops 0 (Some bytes) rest (Some []) (Some text)
      → BytesShow bytes (λ frames turns. IsPictureOf frames text)
  pub page : (config : Config) (text : List ℕ) → IsPageOf config text
      → ConfigShows config (λ frames turns. text ≡ page_text (film_lines frames) turns)
  pub picture : (config : Config) (text : List ℕ) → IsPictureFrom config text
      → ConfigShows config (λ frames turns. IsPictureOf frames text)
  pub film_failed : (bytes : List ℕ) (rest old new : Option (List ℕ)) → Films 1 (Some bytes) rest old new
      → FailsBy bytes (IsFilmOf bytes) old new
  pub loop_failed : (bytes : List ℕ) (rest old new : Option (List ℕ)) → Loops 1 (Some bytes) rest old new
      → FailsBy bytes (IsLoopOf bytes) old new
  pub film_lost : (bytes : List ℕ) → ¬ FilmFails bytes (Some (7 ∷ [])) (Some [])
  pub loop_lost : (bytes : List ℕ) → ¬ LoopFails bytes (Some (7 ∷ [])) (Some [])
