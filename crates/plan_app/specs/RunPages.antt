-- What `plan run --page` prints: the page of a run.
use Rattle.std.specs.Prelude.{◌≡◌, ◌≤◌, ℕ, Bool, true, false, List, [], ◌++◌, codes, flat_map, get_or, length}
use Rattle.std.specs.Prelude.{string_bytes, Option, Some, None, IsTrue}
use Rattle.std.specs.List.{range_with_len}
use Rattle.csv_rows.specs.ScriptEnd.{max_records}
use Rattle.plan_types.specs.declared.answer.Answer.TheVariants.{Refused}
use Rattle.plan_types.specs.declared.answer.Event.{Event}
use Rattle.plan_types.specs.declared.answer.Refusal.{Refusal}
use Rattle.plan_rules.specs.declared.state.State.{State}
use Rattle.plan_text.specs.Answers.{answer_text}
use Rattle.plan_text.specs.Named.{Named}
use Rattle.plan_text.specs.Names.{Text}
use Rattle.plan_document.specs.declared.resolving.ProgrammedPlan.{ProgrammedPlan}
use Rattle.plan_header.specs.Words.{machine_name}
use Rattle.plan_app.specs.Pages.{page_text}
use Rattle.plan_app.specs.Runs.{IsRunOf}
use Rattle.plan_app.specs.RunTexts.{are_fine, are_own}
use Rattle.plan_app.specs.Words.{counted}
use Rattle.plan_app.specs.declared.run.Told.{Told}
use Rattle.plan_app.specs.declared.run_page.TheConstants.{STOPPED}
use Rattle.plan_app.specs.declared.run.Told.TheVariants.{Fine, Stopped}

-- ---- the note: how many turns machines took, and what has stopped them

abbrev pub turns_note : Named → ℕ → Text
turns_note n turns =
    counted n.plan.machines (codes "machine") ++ (codes " took " ++ (counted turns (codes "turn")
    ++ codes " each, in threads of their own"))

abbrev pub stopped_words : Named → ℕ → Text
stopped_words n m = codes "; " ++ (machine_name n m ++ STOPPED.now)

abbrev pub refused_note : Named → Refusal → ℕ → Text
refused_note n refusal m = stopped_words n m ++ answer_text n (Refused refusal)

abbrev pub stop_note : Named → Option Refusal → ℕ → Text
stop_note n None m = []
stop_note n (Some refusal) m = refused_note n refusal m

abbrev pub stop_note_of : Named → List (Option Refusal) → ℕ → Text
stop_note_of n stops m = stop_note n (get_or stops m None) m

abbrev pub run_note : Named → ℕ → List (Option Refusal) → Text
run_note n turns stops = turns_note n turns ++ flat_map (stop_note_of n stops) (range_with_len 0 n.plan.machines)

-- ---- the page

-- a text is the page of a run: of its history, from the start; and whether no machine was stopped
pub record ShowsRun (plan : ProgrammedPlan) (turns : ℕ) (start : State) (fine : Bool) (text : List ℕ) : Type 0 where
  pub history : List Event
  pub stops : List (Option Refusal)
  pub is : IsRunOf plan turns start history stops
  pub own : IsTrue (are_own plan.named history)
  pub few : length history ≤ max_records
  pub none : fine ≡ are_fine stops
  pub told : text ≡ page_text plan (run_note plan.named turns stops) start history

-- what is printed: the page, if no machine was stopped or if one was
abbrev pub IsShown : ProgrammedPlan → ℕ → State → Told → Type 0
IsShown plan turns start (Fine text) = ShowsRun plan turns start true (string_bytes text)
IsShown plan turns start (Stopped text) = ShowsRun plan turns start false (string_bytes text)
