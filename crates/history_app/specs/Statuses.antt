-- What each exit status says of a recording, in other words; and which words ask for one.
use Rattle.std.specs.Prelude.{◌≡◌, ◌<◌, ◌≤◌, ℕ, Bool, true, false, List, [], ◌∷◌, ◌++◌, codes, length, Option}
use Rattle.std.specs.Prelude.{Some, Ok, Err}
use Rattle.std.specs.Io.KnownBytes.{Appends}
use Rattle.std.specs.List.{concat}
use Rattle.clap.specs.Words.{Text}
use Rattle.text_io.specs.Input.{TakesAtMost}
use Rattle.text_io.specs.Output.{WrotePrefix}
use Rattle.cell_rules.specs.Types.{Event, Machine, journal_of}
use Rattle.cell_rules.specs.Journal.{noted}
use Rattle.cell_rules.specs.Names.{ModelState, IsAudited, IsLegal, IsStartState}
use Rattle.csv_rows.specs.declared.script_end.Outcome.TheVariants.{Clean}
use Rattle.cell_replay.specs.Script.{event_lines, script_events, script_outcome, script_start, script_text, start_line}
use Rattle.cell_notes.specs.declared.run_record.RunRecord.{RunRecord}
use Rattle.cell_config.specs.Configured.{Says}
use Rattle.cell_config.specs.ConfigWords.{config_fault_text}
use Rattle.cell_config.specs.declared.fault.ConfigFault.{ConfigFault}
use Rattle.program_shell.specs.declared.exit.Exit.{Exit}
use Rattle.program_shell.specs.declared.exit.Exit.TheVariants.{Well, Failed, Refused}
use Rattle.cell_app.specs.Reported.{AreFine}
use Rattle.cell_app.specs.Served.{TellsWorkersOf}
use Rattle.history_app.specs.Answered.{start_of}
use Rattle.history_app.specs.Recorded.{IsTold, IsWritten, TellingFails, TellsPacedRun, WroteScript}
use Rattle.history_app.specs.Scripts.{script_of, version_for}
use Rattle.history_app.specs.Served.{AskForHistory, Records}

abbrev pub IsOf : RunRecord → List Event → Type 0
IsOf r history = IsAudited r.start (journal_of r.journals) r.end history

pub record RecordingsTell (turns tries : ℕ) (bytes : List ℕ) : Type 0 where
  pub run : (r : RunRecord) → TellsPacedRun turns tries bytes r
      → TellsWorkersOf turns tries bytes r × IsStartState r.start
  pub well : (text : List ℕ) (rest : Option (List ℕ)) → Records turns tries 0 (Some bytes) rest (Some []) (Some text)
      → (r : RunRecord) × TellsPacedRun turns tries bytes r × AreFine r.status
      × ((history : List Event) × IsOf r history × (length history ≤ 65536) × (text ≡ script_of r.start history))
  pub appended : (rest old new : Option (List ℕ)) → Records turns tries 0 (Some bytes) rest old new
      → (r : RunRecord) × TellsPacedRun turns tries bytes r × AreFine r.status
      × ((history : List Event) × IsOf r history × (length history ≤ 65536)
      × Appends old new (script_of r.start history))
  pub takes : (exit : ℕ) (rest old new : Option (List ℕ)) → Records turns tries exit (Some bytes) rest old new
      → (exit < 2) × TakesAtMost (Some bytes) rest 2097153
  pub replayed : (script : List ℕ) (rest : Option (List ℕ))
      → Records turns tries 0 (Some bytes) rest (Some []) (Some script)
      → (r : RunRecord) × TellsPacedRun turns tries bytes r × (script_outcome script ≡ Clean)
      × IsOf r (script_events script)
      × ((m : Machine) → noted r.start (script_events script) m ≡ journal_of r.journals m)
      × (script_text script
      ≡ concat (start_line (start_of r.start (script_events script)) ∷ event_lines r.start (script_events script)))
  pub failed : (rest old new : Option (List ℕ)) → Records turns tries 1 (Some bytes) rest old new
      → ((fault : ConfigFault) → Says bytes (Err fault)
      → ¬ WrotePrefix old new (codes "fault " ++ (config_fault_text fault ++ codes "\n")))
      → (¬ WrotePrefix old new (codes "fault memory\n")) → (¬ WrotePrefix old new (codes "fault spawn\n"))
      → ((r : RunRecord) → TellsPacedRun turns tries bytes r → ¬ TellingFails r old new) → ⊥
  pub took : (exit : ℕ) (old new : List ℕ) → Records turns tries exit (Some bytes) (Some []) (Some old) (Some new)
      → length bytes ≤ 2097153

-- a replay of the script of a legal history from a start
pub record HistoriesTell (opening : ModelState) (history : List Event) : Type 0 where
  pub answered : IsStartState opening → IsLegal opening history → length history ≤ 65536
      → (script_start (script_of opening history)
      ≡ Ok (record { version = version_for history; state = opening }))
      × (script_events (script_of opening history) ≡ history)
      × (script_outcome (script_of opening history) ≡ Clean)
      × (script_text (script_of opening history)
      ≡ concat (start_line (start_of opening history) ∷ event_lines opening history))

pub record TellingsTell (r : RunRecord) (old new : Option (List ℕ)) : Type 0 where
  pub whole : WroteScript r old new
      → (history : List Event) × IsOf r history × (length history ≤ 65536)
      × Appends old new (script_of r.start history)
  pub fails : TellingFails r old new
      → ((¬ AreFine r.status) → ¬ WroteScript r old new)
      → ((history : List Event) → IsOf r history → ¬ WrotePrefix old new (script_of r.start history))
      → ((history : List Event) → IsOf r history → 65536 < length history
      → ¬ WrotePrefix old new (codes "fault long\n"))
      → (¬ WrotePrefix old new (codes "fault memory\n")) → ⊥
  pub stopped : ¬ AreFine r.status → WroteScript r old new → TellingFails r old new
  pub long : (history : List Event) → IsOf r history → 65536 < length history
      → WrotePrefix old new (codes "fault long\n") → TellingFails r old new
  pub no_memory : WrotePrefix old new (codes "fault memory\n") → TellingFails r old new
  pub well : IsTold r Well old new → AreFine r.status × WroteScript r old new
  pub failed : IsTold r Failed old new → TellingFails r old new
  pub refused : ¬ IsTold r Refused old new

-- of the script 1 and 2 this was written, after other bytes or after none
abbrev pub WritesAfter : List ℕ → Bool → Exit → List ℕ → Type 0
WritesAfter old fine exit written = IsWritten (1 ∷ 2 ∷ []) fine exit (Some old) (Some written)

abbrev pub Writes : Bool → Exit → List ℕ → Type 0
Writes fine exit written = IsWritten (1 ∷ 2 ∷ []) fine exit (Some []) (Some written)

pub record WritingsAreMet : Type 0 where
  pub whole : Writes true Well (1 ∷ 2 ∷ [])
  pub part_as_whole : ¬ Writes true Well (1 ∷ [])
  pub stopped_as_fine : ¬ Writes false Well (1 ∷ 2 ∷ [])
  pub of_stopped : Writes false Failed (1 ∷ 2 ∷ [])
  pub part : Writes true Failed (1 ∷ [])
  pub other : ¬ Writes false Failed (2 ∷ [])
  pub nothing_written : Writes true Failed []
  pub after_other : WritesAfter (7 ∷ []) true Well (7 ∷ 1 ∷ 2 ∷ [])
  pub other_lost : ¬ WritesAfter (7 ∷ []) true Well (1 ∷ 2 ∷ [])
  pub stopped_after_other : WritesAfter (7 ∷ []) false Failed (7 ∷ 1 ∷ 2 ∷ [])
  pub part_after_other : WritesAfter (7 ∷ []) false Failed (7 ∷ 1 ∷ [])
  pub refused_of_stopped : ¬ Writes false Refused (1 ∷ 2 ∷ [])
  pub refused : ¬ Writes true Refused []

-- these words after the program's name ask for a recording with these turns and tries
abbrev pub AskAfterName : ℕ → ℕ → List Text → Type 0
AskAfterName turns tries words = AskForHistory turns tries (codes "history" ∷ words)

pub record WordsAreMet : Type 0 where
  pub nothing : AskAfterName 1000 8 []
  pub both : AskAfterName 3 64 (codes "--tries=64" ∷ codes "--turns=3" ∷ [])
  pub turns : AskAfterName 5 8 (codes "--turns" ∷ codes "5" ∷ [])
  pub most : AskAfterName 100000 64 (codes "--turns=100000" ∷ codes "--tries" ∷ codes "64" ∷ [])
  pub turn_more : ¬ AskAfterName 100001 8 (codes "--turns=100001" ∷ [])
  pub no_try : ¬ AskAfterName 1000 0 (codes "--tries=0" ∷ [])
  pub other_turns : ¬ AskAfterName 1000 8 (codes "--turns" ∷ codes "5" ∷ [])
  pub other_word : ¬ AskAfterName 1000 8 (codes "run" ∷ [])

pub record StatusesTell : Type 0 where
  pub recordings : (turns tries : ℕ) (bytes : List ℕ) → RecordingsTell turns tries bytes
  pub histories : (opening : ModelState) (history : List Event) → HistoriesTell opening history
  pub tellings : (r : RunRecord) (old new : Option (List ℕ)) → TellingsTell r old new
  pub writings : WritingsAreMet
  pub words : WordsAreMet
