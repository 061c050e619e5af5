-- What is written of an input.
use Rattle.std.specs.Prelude.{ℕ, ◌≡◌, List, ◌++◌, codes, Option, Result, Ok, Err, IfSome}
use Rattle.std.specs.Fmt.{decimal}
use Rattle.std.specs.Io.KnownBytes.{Appends, Keeps}
use Rattle.text_io.specs.Output.{WrotePrefix}
use Rattle.csv_rows.specs.declared.script_end.Outcome.{Outcome}
use Rattle.csv_rows.specs.declared.script_end.Outcome.TheVariants as outcome
use Rattle.csv_rows.specs.declared.script_end.ScriptFault.{ScriptFault}
use Rattle.csv_rows.specs.declared.script_end.ScriptFault.TheVariants.{NoStart, BadStart, BadRow, Long}
use Rattle.cell_replay.specs.Script.{script_outcome}
use Rattle.cell_config.specs.ConfigWords.{config_fault_text}
use Rattle.cell_config.specs.Settings.{Settings, settings_of}
use Rattle.cell_config.specs.declared.fault.ConfigFault.{ConfigFault}
use Rattle.cell_replay.specs.declared.fault.ReplayFault.{ReplayFault}
use Rattle.cell_replay.specs.declared.fault.ReplayFault.TheVariants.{Read, Write, Memory}
use Rattle.explain_app.specs.declared.verdict.Verdict.{Verdict}
use Rattle.explain_app.specs.declared.verdict.Verdict.TheVariants.{Taken, Refused}

-- how the explanation of a fault begins: it names the record
abbrev pub script_heading : ScriptFault → List ℕ
script_heading NoStart = codes "record 0, "
script_heading BadStart = codes "record 0, "
script_heading (BadRow number) = codes "record " ++ (decimal number ++ codes ", ")
script_heading Long = codes "the script is too long: "

-- it names the fault as the program's fault line does
abbrev pub config_heading : ConfigFault → List ℕ
config_heading fault = config_fault_text fault ++ codes ": "

-- a heading was written, and words
abbrev pub WroteUnder : List ℕ → Option (List ℕ) → Option (List ℕ) → Type 0
WroteUnder heading old new = (words : List ℕ) × Appends old new (heading ++ words)

-- Of a script that is answered to its end nothing is written. Of a refused one the explanation of its fault is.
abbrev pub SaysOfScript : Outcome → Verdict → Option (List ℕ) → Option (List ℕ) → Type 0
SaysOfScript outcome.Clean verdict old new = (verdict ≡ Taken) × Keeps old new
SaysOfScript (outcome.Refused fault) verdict old new = (verdict ≡ Refused) × WroteUnder (script_heading fault) old new

-- Of a configuration that is read nothing is written. Of a refused one the explanation of its first fault is.
abbrev pub SaysOfConfig : Result Settings ConfigFault → Verdict → Option (List ℕ) → Option (List ℕ) → Type 0
SaysOfConfig (Ok settings) verdict old new = (verdict ≡ Taken) × Keeps old new
SaysOfConfig (Err fault) verdict old new = (verdict ≡ Refused) × WroteUnder (config_heading fault) old new

-- the explanation of a refused script begins with the heading of its fault
abbrev pub IsTextOfOutcome : Outcome → List ℕ → Type 0
IsTextOfOutcome outcome.Clean text = ⊥
IsTextOfOutcome (outcome.Refused fault) text = (words : List ℕ) × (text ≡ script_heading fault ++ words)

-- so does that of a refused configuration
abbrev pub IsTextOfSettings : Result Settings ConfigFault → List ℕ → Type 0
IsTextOfSettings (Ok settings) text = ⊥
IsTextOfSettings (Err fault) text = (words : List ℕ) × (text ≡ config_heading fault ++ words)

-- a text explains why the script is refused that these known bytes are
abbrev pub IsTextOfScript : Option (List ℕ) → List ℕ → Type 0
IsTextOfScript input text = IfSome input (λ bytes. IsTextOfOutcome (script_outcome bytes) text)

-- a text explains why the configuration is refused
abbrev pub IsTextOfConfig : Option (List ℕ) → List ℕ → Type 0
IsTextOfConfig input text = IfSome input (λ bytes. IsTextOfSettings (settings_of bytes) text)

-- After a failed read, or out of memory, nothing was written. After a failed write a prefix of such a text was.
abbrev pub LeavesUnsaid : (List ℕ → Type 0) → ReplayFault → Option (List ℕ) → Option (List ℕ) → Type 0
LeavesUnsaid IsText Read old new = Keeps old new
LeavesUnsaid IsText Memory old new = Keeps old new
LeavesUnsaid IsText Write old new = (text : List ℕ) × (IsText text × WrotePrefix old new text)
