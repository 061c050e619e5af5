-- How the script of a history is answered.
use Rattle.std.specs.Prelude.{◌≡◌, ◌≤◌, ◌∷◌, List, length, Ok}
use Rattle.std.specs.List.{concat}
use Rattle.cell_types.specs.declared.answer.Event.{Event}
use Rattle.cell_rules.specs.Names.{ModelState, IsLegal, IsStartState}
use Rattle.csv_rows.specs.ScriptEnd.{max_records}
use Rattle.csv_rows.specs.declared.script_end.Outcome.TheVariants.{Clean}
use Rattle.cell_replay.specs.Script.{event_lines, start_line}
use Rattle.cell_replay.specs.Script.{script_events, script_outcome, script_start, script_text}
use Rattle.cell_replay.specs.declared.script_start.Start.{Start}
use Rattle.history_app.specs.Scripts.{script_of, version_for}

-- the start of a history's script
abbrev pub start_of : ModelState → List Event → Start
start_of opening history = record { version = version_for history; state = opening }

-- a replay of the script starts from the opening and is clean; its requests are the machines and calls of the events,
-- and its answers are theirs; so its text has the line of each event, in order
pub record IsAnswered (opening : ModelState) (history : List Event) : Type 0 where
  pub start : script_start (script_of opening history) ≡ Ok (start_of opening history)
  pub events : script_events (script_of opening history) ≡ history
  pub clean : script_outcome (script_of opening history) ≡ Clean
  pub text : script_text (script_of opening history) ≡
      concat (start_line (start_of opening history) ∷ event_lines opening history)

-- so is the script of each legal history from a start, if it has no more events than a script may have
abbrev pub HistoriesAreAnswered : Type 0
HistoriesAreAnswered =
    (opening : ModelState) (history : List Event) → IsStartState opening → IsLegal opening history
    → length history ≤ max_records → IsAnswered opening history
