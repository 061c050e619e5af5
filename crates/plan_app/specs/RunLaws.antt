-- A replay answers what a run has printed as the machines were answered.
use Rattle.std.specs.Prelude.{◌≡◌, ℕ, Bool, List, [], ◌++◌, Option, Some, Ok}
use Rattle.csv_rows.specs.declared.script_end.Outcome.TheVariants.{Clean}
use Rattle.plan_types.specs.declared.answer.Event.{Event}
use Rattle.plan_rules.specs.declared.state.State.{State}
use Rattle.plan_rules.specs.History.{IsLegal}
use Rattle.plan_text.specs.Histories.{answer_lines, script_of}
use Rattle.plan_text.specs.HistoryLaws.{IsStartOf}
use Rattle.plan_text.specs.Named.{Named}
use Rattle.plan_text.specs.Script.{script_answers, script_start, start_line}
use Rattle.plan_document.specs.declared.resolving.ProgrammedPlan.{ProgrammedPlan}
use Rattle.plan_app.specs.Asked.{IsAsked}
use Rattle.plan_app.specs.Input.{document_in, script_in}
use Rattle.plan_app.specs.Runs.{TellsRun}
use Rattle.plan_app.specs.Served.{WritesRunIn}

-- a script begins with a start, and a replay of it is clean, with the line of each event of a history: its own answer,
-- and the stamp after it
pub record IsReplayedAs (n : Named) (start : State) (history : List Event) (script : List ℕ) : Type 0 where
  pub starts : script_start n script ≡ Ok start
  pub clean : (script_answers n script).outcome ≡ Clean
  pub text : (script_answers n script).text ≡ start_line start ++ answer_lines n 1 start history

-- of the plan of a document or of one word of its plant, and what tells a run of it: its script is that of the run's
-- history, and so is any input's that has this script, as the document and this text after it
pub record RunsAreReplayed (word : Option ℕ) (document : List ℕ) (plan : ProgrammedPlan) (turns : ℕ) (start : State)
    (fine : Bool) (text : List ℕ) : Type 0 where
  pub script : IsAsked word document plan → (run : TellsRun plan turns start fine text)
      → script_in text ≡ script_of plan.named start run.history
  pub replayed : IsAsked word document plan → IsStartOf plan.named start → (run : TellsRun plan turns start fine text)
      → (input : List ℕ) → script_in input ≡ script_in text
      → IsReplayedAs plan.named start run.history (script_in input)

-- a text has the script of a legal history of a plan
pub record HasHistory (plan : ProgrammedPlan) (text : List ℕ) : Type 0 where
  pub start : State
  pub history : List Event
  pub legal : IsLegal plan.named.plan start history
  pub replayed : (input : List ℕ) → script_in input ≡ script_in text
      → IsReplayedAs plan.named start history (script_in input)

-- so has what is written with status 0
abbrev pub WritingsAreReplayed : Type 0
WritingsAreReplayed =
    (word : Option ℕ) (turns : ℕ) (bytes text : List ℕ) → WritesRunIn word turns bytes (Some []) (Some text)
    → (plan : ProgrammedPlan) × IsAsked word (document_in bytes) plan × HasHistory plan text
