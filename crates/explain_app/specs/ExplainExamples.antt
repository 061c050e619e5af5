-- What explanations begin with, what may be written of an input, and which words ask for which kind of input.
use Rattle.std.specs.Prelude.{◌≡◌, ◌≤◌, ℕ, List, [], ◌∷◌, ◌++◌, codes, length, Option, Some, Ok, Err}
use Rattle.std.specs.Fmt.{decimal}
use Rattle.std.specs.Io.KnownBytes.{Keeps}
use Rattle.clap.specs.Words.{Text}
use Rattle.csv_rows.specs.declared.script_end.Outcome.TheVariants as outcome
use Rattle.csv_rows.specs.declared.script_end.ScriptFault.{ScriptFault}
use Rattle.csv_rows.specs.declared.script_end.ScriptFault.TheVariants.{NoStart, BadStart, BadRow, Long}
use Rattle.cell_config.specs.ConfigWords.{config_fault_text}
use Rattle.cell_config.specs.Settings.{Settings, settings_of}
use Rattle.cell_config.specs.declared.fault.ConfigFault.{ConfigFault}
use Rattle.cell_config.specs.declared.fault.ConfigFault.TheVariants.{Missing}
use Rattle.cell_replay.specs.Script.{script_outcome}
use Rattle.cell_replay.specs.declared.fault.ReplayFault.{ReplayFault}
use Rattle.cell_replay.specs.declared.fault.ReplayFault.TheVariants.{Read, Write, Memory}
use Rattle.explain_app.specs.Explained.{IsTextOfConfig, IsTextOfOutcome, IsTextOfScript, IsTextOfSettings}
use Rattle.explain_app.specs.Explained.{LeavesUnsaid, SaysOfConfig, SaysOfScript}
use Rattle.explain_app.specs.Explained.{WroteUnder, config_heading, script_heading}
use Rattle.explain_app.specs.Served.{AskOfConfig, AskOfScript, Explains, ExplainsConfig, ExplainsScript}
use Rattle.explain_app.specs.Served.{verdict_status}
use Rattle.explain_app.specs.declared.verdict.Verdict.TheVariants.{Taken, Refused}

-- these words after the program's name ask for an explanation of a script, or of a configuration
abbrev pub OfScript : List Text → Type 0
OfScript words = AskOfScript (codes "explain" ∷ words)

abbrev pub OfConfig : List Text → Type 0
OfConfig words = AskOfConfig (codes "explain" ∷ words)

-- a writer that had 7 may have this after words under the heading 5
abbrev pub Heads : List ℕ → Type 0
Heads written = WroteUnder (5 ∷ []) (Some (7 ∷ [])) (Some written)

-- a fault may leave this, if the explanation is 1 and 2
abbrev pub Leaves : ReplayFault → List ℕ → Type 0
Leaves fault written = LeavesUnsaid (λ text. text ≡ 1 ∷ 2 ∷ []) fault (Some []) (Some written)

-- Two bytes of three were taken from the input. Of one that isn't refused 0 is written, of another 1; an explanation is
-- 2 and 3.
abbrev pub Ends : ℕ → ℕ → List ℕ → Type 0
Ends most exit written =
    Explains (λ bytes verdict old new. new ≡ Some (verdict_status verdict ∷ [])) (λ input text. text ≡ 2 ∷ 3 ∷ []) most
    exit (Some (7 ∷ 8 ∷ 9 ∷ [])) (Some (9 ∷ [])) (Some []) (Some written)

pub record ExplanationsAreMet : Type 0 where
  pub no_start : script_heading NoStart ≡ codes "record 0, "
  pub bad_start : script_heading BadStart ≡ codes "record 0, "
  pub bad_row : script_heading (BadRow 12) ≡ codes "record 12, "
  pub any_row : (number : ℕ) → script_heading (BadRow number) ≡ codes "record " ++ (decimal number ++ codes ", ")
  pub long : script_heading Long ≡ codes "the script is too long: "
  pub missing : config_heading Missing ≡ codes "config missing: "
  pub headed : Heads (7 ∷ 5 ∷ 1 ∷ [])
  pub other_heading : ¬ Heads (7 ∷ 6 ∷ 1 ∷ [])
  pub no_heading : ¬ Heads (7 ∷ [])
  pub old_lost : ¬ Heads (5 ∷ 1 ∷ [])
  pub script_taken : SaysOfScript outcome.Clean Taken (Some (7 ∷ [])) (Some (7 ∷ []))
  pub told_of_taken : ¬ SaysOfScript outcome.Clean Taken (Some []) (Some (1 ∷ []))
  pub taken_as_refused : ¬ SaysOfScript outcome.Clean Refused (Some []) (Some [])
  pub script_refused : SaysOfScript (outcome.Refused (BadRow 1)) Refused (Some []) (Some (codes "record 1, x"))
  pub other_record : ¬ SaysOfScript (outcome.Refused (BadRow 1)) Refused (Some []) (Some (codes "record 2, x"))
  pub refused_as_taken : ¬ SaysOfScript (outcome.Refused (BadRow 1)) Taken (Some []) (Some (codes "record 1, x"))
  pub config_refused : SaysOfConfig (Err Missing) Refused (Some []) (Some (codes "config missing: x"))
  pub other_config : ¬ SaysOfConfig (Err Missing) Refused (Some []) (Some (codes "config kind: x"))
  pub missing_as_taken : ¬ SaysOfConfig (Err Missing) Taken (Some []) (Some (codes "config missing: x"))
  pub told_of_settings : (settings : Settings) → ¬ SaysOfConfig (Ok settings) Taken (Some []) (Some (1 ∷ []))
  pub settings_as_refused : (settings : Settings) → ¬ SaysOfConfig (Ok settings) Refused (Some []) (Some [])
  pub text_of_taken : ¬ IsTextOfOutcome outcome.Clean []
  pub text_of_settings : (settings : Settings) → ¬ IsTextOfSettings (Ok settings) []
  pub text_of_other : ¬ IsTextOfOutcome (outcome.Refused (BadRow 1)) (codes "record 2, x")
  pub text_of_config : ¬ IsTextOfSettings (Err Missing) (codes "config kind: x")
  pub nothing_read : Leaves Read []
  pub told_of_unread : ¬ Leaves Read (1 ∷ [])
  pub told_without_memory : ¬ Leaves Memory (1 ∷ [])
  pub told_in_part : Leaves Write (1 ∷ [])
  pub told_other : ¬ Leaves Write (2 ∷ [])
  pub silent : Ends 2 0 (0 ∷ [])
  pub told : Ends 2 1 (1 ∷ [])
  pub failed : Ends 2 3 (2 ∷ [])
  pub no_words : ¬ Ends 2 2 []
  pub no_status : ¬ Ends 2 4 []
  pub not_silent : ¬ Ends 2 0 (1 ∷ [])
  pub not_told : ¬ Ends 2 1 (0 ∷ [])
  pub not_failed : ¬ Ends 2 3 (3 ∷ [])
  pub taken_too_much : ¬ Ends 1 0 (0 ∷ [])
  pub nothing_asked : OfScript []
  pub replay_asked : OfScript (codes "replay" ∷ [])
  pub sim_asked : OfConfig (codes "sim" ∷ [])
  pub run_asked : OfConfig (codes "run" ∷ [])
  pub sim_of_script : ¬ OfScript (codes "sim" ∷ [])
  pub replay_of_config : ¬ OfConfig (codes "replay" ∷ [])
  pub other_word : ¬ OfConfig (codes "go" ∷ [])
  pub other_word_of_script : ¬ OfScript (codes "go" ∷ [])

-- What each exit status says of an input of known bytes: of a script, and of a configuration.
pub record StatusesTell : Type 0 where
  pub script_taken : (bytes : List ℕ) (rest old new : Option (List ℕ)) → ExplainsScript 0 (Some bytes) rest old new
      → (script_outcome bytes ≡ outcome.Clean) × Keeps old new
  pub script_refused : (bytes text : List ℕ) (rest : Option (List ℕ))
      → ExplainsScript 1 (Some bytes) rest (Some []) (Some text)
      → (fault : ScriptFault) × (script_outcome bytes ≡ outcome.Refused fault) × (words : List ℕ)
      × (text ≡ script_heading fault ++ words)
  pub script_told : (bytes : List ℕ) (rest old new : Option (List ℕ)) → ExplainsScript 1 (Some bytes) rest old new
      → (fault : ScriptFault) × (script_outcome bytes ≡ outcome.Refused fault)
      × WroteUnder (script_heading fault) old new
  pub script_untold : (input rest old new : Option (List ℕ)) → ExplainsScript 3 input rest old new
      → (fault : ReplayFault) × LeavesUnsaid (IsTextOfScript input) fault old new
  pub script_taken_off : (exit : ℕ) (bytes old new : List ℕ)
      → ExplainsScript exit (Some bytes) (Some []) (Some old) (Some new) → length bytes ≤ 4194305
  pub config_taken : (bytes : List ℕ) (rest old new : Option (List ℕ)) → ExplainsConfig 0 (Some bytes) rest old new
      → (settings : Settings) × (settings_of bytes ≡ Ok settings) × Keeps old new
  pub config_refused : (bytes text : List ℕ) (rest : Option (List ℕ))
      → ExplainsConfig 1 (Some bytes) rest (Some []) (Some text)
      → (fault : ConfigFault) × (settings_of bytes ≡ Err fault) × (words : List ℕ)
      × (text ≡ config_fault_text fault ++ codes ": " ++ words)
  pub config_told : (bytes : List ℕ) (rest old new : Option (List ℕ)) → ExplainsConfig 1 (Some bytes) rest old new
      → (fault : ConfigFault) × (settings_of bytes ≡ Err fault) × WroteUnder (config_heading fault) old new
  pub config_untold : (input rest old new : Option (List ℕ)) → ExplainsConfig 3 input rest old new
      → (fault : ReplayFault) × LeavesUnsaid (IsTextOfConfig input) fault old new
  pub config_taken_off : (exit : ℕ) (bytes old new : List ℕ)
      → ExplainsConfig exit (Some bytes) (Some []) (Some old) (Some new) → length bytes ≤ 2097153
  pub text_of_script : (bytes text : List ℕ) → IsTextOfScript (Some bytes) text
      → (fault : ScriptFault) × (script_outcome bytes ≡ outcome.Refused fault) × (words : List ℕ)
      × (text ≡ script_heading fault ++ words)
  pub text_of_config : (bytes text : List ℕ) → IsTextOfConfig (Some bytes) text
      → (fault : ConfigFault) × (settings_of bytes ≡ Err fault) × (words : List ℕ)
      × (text ≡ config_heading fault ++ words)
