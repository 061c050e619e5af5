-- What a run of the program has written.
use Rattle.std.specs.Prelude.{◌≡◌, ◌⊎◌, ℕ, codes, Option, Ok, Err, IfSome, string_bytes}
use Rattle.std.specs.Io.KnownBytes.{Appends}
use Rattle.text_io.specs.Output.{WrotePrefix}
use Rattle.program_shell.specs.Faults.{fault_line}
use Rattle.program_shell.specs.Served.{Served}
use Rattle.cell_config.specs.Configured.{Says}
use Rattle.cell_config.specs.ConfigWords.{config_fault_text}
use Rattle.cell_config.specs.Settings.{Settings, max_bytes_read, settings_of}
use Rattle.cell_config.specs.declared.fault.ConfigFault.{ConfigFault}
use Rattle.explore_app.specs.declared.request.Question.{Question}
use Rattle.explore_app.specs.declared.request.Question.TheVariants.{Standstill, Starving}
use Rattle.explore_app.specs.declared.screen.Screen.{Screen}
use Rattle.explore_app.specs.declared.screen.Screen.TheVariants.{Free, Warning}
use Rattle.explore_app.specs.Bounds.{Text}
use Rattle.explore_app.specs.Screens.{IsScreenOf, TellsFreedom, TellsTrouble}
use Rattle.explore_app.specs.Starving.{IsStarvingScreenOf, TellsBound, TellsRound, TellsStill}
use Rattle.explore_app.specs.Tallies.{AreLines}

-- a screen answers a question of a configuration's start
abbrev pub IsAnswerTo : Question → Settings → Screen → Type 0
IsAnswerTo Standstill given screen = IsScreenOf given screen
IsAnswerTo Starving given screen = IsStarvingScreenOf given screen

-- a screen that is no warning was written
abbrev pub WroteFree : Screen → Option Text → Option Text → Type 0
WroteFree (Free text) old new = Appends old new (string_bytes text)
WroteFree (Warning text) old new = ⊥

-- a text says that nothing stands still or starves from a start, by what explorations answer; or that something does
abbrev pub TellsWell : Question → Settings → Text → Type 0
TellsWell Standstill given text = TellsFreedom given.start text
TellsWell Starving given text = TellsBound given.start text

abbrev pub Warns : Question → Settings → Text → Type 0
Warns Standstill given text = TellsTrouble given text
Warns Starving given text = TellsStill given text ⊎ TellsRound given text

-- a text does so of the start of the configuration that the bytes give
pub record IsAnswerFor (Tells : Settings → Text → Type 0) (bytes text : Text) : Type 0 where
  pub settings : Settings
  pub said : settings_of bytes ≡ Ok settings
  pub tells : Tells settings text

-- the answer that nothing does was written
abbrev pub WasAnswered : Question → Option Text → Option Text → Option Text → Type 0
WasAnswered question input old new =
    IfSome input (λ bytes. (text : Text) × IsAnswerFor (TellsWell question) bytes text × Appends old new text)

-- Else a prefix of one of these was written: the line of a fault, if the configuration was refused, memory ran out, or
-- no schedule was found that leads a simulated cell there; a warning; the whole answer, if the writer failed.
abbrev pub AnswerFails : Question → Text → Option Text → Option Text → Type 0
AnswerFails question bytes old new =
    ((fault : ConfigFault) × (Says bytes (Err fault) × WrotePrefix old new (fault_line (config_fault_text fault))))
    ⊎ (WrotePrefix old new (fault_line (codes "memory"))
    ⊎ (WrotePrefix old new (fault_line (codes "the simulated cell doesn't come to it"))
    ⊎ (((text : Text) × (IsAnswerFor (Warns question) bytes text × WrotePrefix old new text))
    ⊎ ((text : Text) × (IsAnswerFor (TellsWell question) bytes text × WrotePrefix old new text)))))

-- what `serve` says of a configuration's start
abbrev pub Answers : Question → ℕ → Option Text → Option Text → Option Text → Option Text → Type 0
Answers question = Served (WasAnswered question) (AnswerFails question) max_bytes_read

-- the lines of all starts were written, up to this number of lines
abbrev pub WereListed : ℕ → Option Text → Option Text → Type 0
WereListed lines old new = (text : Text) × AreLines lines text × Appends old new text
