-- How a replay answers what a recording has written.
use Rattle.std.specs.Prelude.{◌≡◌, ℕ, List, [], ◌∷◌, Some}
use Rattle.std.specs.List.{concat}
use Rattle.cell_rules.specs.Types.{Machine, journal_of}
use Rattle.cell_rules.specs.Journal.{noted}
use Rattle.cell_notes.specs.declared.run_record.RunRecord.{RunRecord}
use Rattle.csv_rows.specs.declared.script_end.Outcome.TheVariants.{Clean}
use Rattle.cell_replay.specs.Script.{event_lines, script_events, script_outcome, script_text, start_line}
use Rattle.history_app.specs.Answered.{start_of}
use Rattle.history_app.specs.Recorded.{IsHistoryOf, TellsPacedRun, WasRecorded}

-- A replay of a script gives the answers that a run's machines got: it is clean, its events are a legal history of the
-- run, of which each machine notes its journal, and its text has the line of each event, in order.
pub record AnswersAs (r : RunRecord) (script : List ℕ) : Type 0 where
  pub clean : script_outcome script ≡ Clean
  pub history : IsHistoryOf r (script_events script)
  pub journals : (m : Machine) → noted r.start (script_events script) m ≡ journal_of r.journals m
  pub text : script_text script ≡
      concat (start_line (start_of r.start (script_events script)) ∷ event_lines r.start (script_events script))

-- so does a replay of what a recording has written, if that is all that its writer has
abbrev pub RecordingsAreAnswered : Type 0
RecordingsAreAnswered =
    (turns tries : ℕ) (bytes script : List ℕ) → WasRecorded turns tries (Some bytes) (Some []) (Some script)
    → (r : RunRecord) × (TellsPacedRun turns tries bytes r × AnswersAs r script)
