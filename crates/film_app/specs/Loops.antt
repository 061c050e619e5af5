-- The picture that loops.
use Rattle.std.specs.Prelude.{◌≡◌, ℕ, List, map, take, codes, Option, Ok, Err, IfSome, ◌⊎◌}
use Rattle.std.specs.Io.KnownBytes.{Appends}
use Rattle.text_io.specs.Output.{WrotePrefix}
use Rattle.cell_notes.specs.declared.schedule.Turn.{Turn}
use Rattle.cell_rules.specs.ModelState.{ModelState}
use Rattle.cell_sensors.specs.Names.{Pair, pairs_of, Scale}
use Rattle.cell_parts.specs.Axes.{CellScales}
use Rattle.cell_plant.specs.Names.{cell_at_start, frames_of, on_curves, Step, IsRunBy}
use Rattle.cell_plant.specs.declared.frame.Frame.{Frame}
use Rattle.cell_picture.specs.Pictures.{IsPictureOf}
use Rattle.cell_config.specs.Configured.{Says, in_order}
use Rattle.cell_config.specs.ConfigWords.{config_fault_text}
use Rattle.cell_config.specs.Settings.{Settings, settings_of}
use Rattle.cell_config.specs.declared.configuration.Config.{Config}
use Rattle.cell_config.specs.declared.fault.ConfigFault.{ConfigFault}
use Rattle.program_shell.specs.Faults.{fault_line}
use Rattle.film_app.specs.Pages.{max_turns}

-- frames are those of the run of a schedule up to the most turns, by scales with these points: each reading is the one
-- on its curve
pub record AreFramesOf (points : List Scale) (curves : List (List Pair)) (opening : ModelState) (schedule : List Turn)
    (frames : List Frame) : Type 0 where
  pub scales : CellScales
  pub fits : points ≡ in_order scales
  pub steps : List Step
  pub run : IsRunBy scales (on_curves curves) (cell_at_start opening) (take max_turns schedule) steps
  pub seen : frames ≡ frames_of opening (take max_turns schedule) steps

-- a text is the picture of the frames of a configuration's run
abbrev pub IsPictureFrom : Config → List ℕ → Type 0
IsPictureFrom config text = (frames : List Frame)
    × (AreFramesOf config.points (map pairs_of config.curves) config.start config.schedule.items frames
    × IsPictureOf frames text)

-- a text is the picture of the frames of the run of the configuration that the bytes give
pub record IsLoopOf (bytes text : List ℕ) : Type 0 where
  pub settings : Settings
  pub said : settings_of bytes ≡ Ok settings
  pub frames : List Frame
  pub seen : AreFramesOf settings.points settings.curves settings.start settings.schedule frames
  pub picture : IsPictureOf frames text

-- the picture was written
abbrev pub WasLooped : Option (List ℕ) → Option (List ℕ) → Option (List ℕ) → Type 0
WasLooped remaining old new = IfSome remaining (λ bytes. (text : List ℕ) × (IsLoopOf bytes text × Appends old new text))

-- No picture was written, or a prefix of it: the configuration was refused, or memory ran out, and a prefix of the
-- fault's line was written; or the writer failed.
abbrev pub LoopFails : List ℕ → Option (List ℕ) → Option (List ℕ) → Type 0
LoopFails bytes old new =
    ((fault : ConfigFault) × (Says bytes (Err fault) × WrotePrefix old new (fault_line (config_fault_text fault))))
    ⊎ (WrotePrefix old new (fault_line (codes "memory"))
    ⊎ ((text : List ℕ) × (IsLoopOf bytes text × WrotePrefix old new text)))
