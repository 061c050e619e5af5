-- The page of a film.
use Rattle.std.specs.Prelude.{◌≡◌, ℕ, List, [], ◌++◌, length, map, take, codes, nat_lt, Option, Ok, Err, IfSome, ◌⊎◌}
use Rattle.std.specs.Prelude.{if◌then◌else◌}
use Rattle.std.specs.Fmt.{decimal}
use Rattle.std.specs.Io.KnownBytes.{Appends}
use Rattle.text_io.specs.Output.{WrotePrefix}
use Rattle.cell_notes.specs.declared.schedule.Turn.{Turn}
use Rattle.cell_rules.specs.ModelState.{ModelState}
use Rattle.cell_sensors.specs.Names.{Pair, pairs_of, Scale}
use Rattle.cell_parts.specs.Axes.{CellScales}
use Rattle.cell_plant.specs.Names.{cell_at_start, frames_of, CellGauges, on_curves, Step, IsRunBy}
use Rattle.cell_config.specs.Configured.{Says, in_order}
use Rattle.cell_config.specs.ConfigWords.{config_fault_text}
use Rattle.cell_config.specs.Settings.{Settings, settings_of}
use Rattle.cell_config.specs.declared.configuration.Config.{Config}
use Rattle.cell_config.specs.declared.fault.ConfigFault.{ConfigFault}
use Rattle.program_shell.specs.Faults.{fault_line}
use Rattle.film_app.specs.Lines.{film_lines}
use Rattle.film_app.specs.declared.page_head.TheConstants.{PAGE_HEAD}
use Rattle.film_app.specs.declared.page_tail.TheConstants.{PAGE_TAIL}

-- the most turns that a film shows
unfoldable pub max_turns : ℕ
max_turns = 100000

-- the line of a schedule that has more turns, which says how many
abbrev pub cut_line : ℕ → List ℕ
cut_line turns = if nat_lt max_turns turns then codes "cut " ++ (decimal turns ++ codes "\n") else []

-- the page of a film: its head, the lines of its frames, the line of a cut schedule, its tail
unfoldable pub page_text : List ℕ → ℕ → List ℕ
page_text lines turns = PAGE_HEAD.now ++ (lines ++ (cut_line turns ++ PAGE_TAIL.now))

-- lines are those of the frames of a run, by what the gauges may give
pub record ShowsRun (c : CellScales) (gives : CellGauges) (opening : ModelState) (turns : List Turn) (lines : List ℕ)
    : Type 0 where
  pub steps : List Step
  pub run : IsRunBy c gives (cell_at_start opening) turns steps
  pub shown : lines ≡ film_lines (frames_of opening turns steps)

-- lines are those of the run of a schedule up to the most turns, by scales with these points: each reading is the one
-- on its curve
pub record ShowsConfigured (points : List Scale) (curves : List (List Pair)) (opening : ModelState)
    (schedule : List Turn) (lines : List ℕ) : Type 0 where
  pub scales : CellScales
  pub fits : points ≡ in_order scales
  pub shown : ShowsRun scales (on_curves curves) opening (take max_turns schedule) lines

-- a text is the page of a configuration's run
abbrev pub IsPageOf : Config → List ℕ → Type 0
IsPageOf config text = (lines : List ℕ)
    × (ShowsConfigured config.points (map pairs_of config.curves) config.start config.schedule.items lines
    × (text ≡ page_text lines (length config.schedule.items)))

-- a text is the page of the run of the configuration that the bytes give
pub record IsFilmOf (bytes text : List ℕ) : Type 0 where
  pub settings : Settings
  pub said : settings_of bytes ≡ Ok settings
  pub lines : List ℕ
  pub shown : ShowsConfigured settings.points settings.curves settings.start settings.schedule lines
  pub page : text ≡ page_text lines (length settings.schedule)

-- the page was written
abbrev pub WasFilmed : Option (List ℕ) → Option (List ℕ) → Option (List ℕ) → Type 0
WasFilmed remaining old new = IfSome remaining (λ bytes. (text : List ℕ) × (IsFilmOf bytes text × Appends old new text))

-- No page was written, or a prefix of it: the configuration was refused, or memory ran out, and a prefix of the fault's
-- line was written; or the writer failed.
abbrev pub FilmFails : List ℕ → Option (List ℕ) → Option (List ℕ) → Type 0
FilmFails bytes old new =
    ((fault : ConfigFault) × (Says bytes (Err fault) × WrotePrefix old new (fault_line (config_fault_text fault))))
    ⊎ (WrotePrefix old new (fault_line (codes "memory"))
    ⊎ ((text : List ℕ) × (IsFilmOf bytes text × WrotePrefix old new text)))
