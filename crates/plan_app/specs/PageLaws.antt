-- What holds of every page.
use Rattle.std.specs.Prelude.{◌≡◌, ◌≤◌, ℕ, Bool, List, ◌++◌, flat_map, length, Option, Some, None}
use Rattle.plan_types.specs.declared.answer.Event.{Event}
use Rattle.plan_rules.specs.declared.state.State.{State}
use Rattle.plan_rules.specs.History.{IsLegal}
use Rattle.plan_explorer.specs.declared.situation.Situation.{Situation}
use Rattle.plan_explorer.specs.Programs.{PlanPrograms}
use Rattle.plan_explorer.specs.Situations.{first_situation, turn_of, unstamped}
use Rattle.plan_explorer.specs.Walks.{event_of, events_of}
use Rattle.plan_text.specs.Named.{Named}
use Rattle.plan_text.specs.Names.{Text}
use Rattle.plan_document.specs.declared.resolving.ProgrammedPlan.{ProgrammedPlan}
use Rattle.plan_app.specs.Films.{film_lines}
use Rattle.plan_app.specs.Going.{asked_line, way_text}
use Rattle.plan_app.specs.PageData.{data_of}
use Rattle.plan_app.specs.RunPages.{ShowsRun}
use Rattle.plan_app.specs.Pages.{Shows, TellsPage, in_vain, tail_of, watched_events}
use Rattle.plan_app.specs.declared.page_head.TheConstants.{PLAN_HEAD}
use Rattle.plan_app.specs.declared.page_middle.TheConstants.{PLAN_MIDDLE}

-- a page has data and lines of what it shows, of 100,000 turns at most
pub record IsWhole (plan : ProgrammedPlan) (opening : State) (text : Text) : Type 0 where
  pub note : Text
  pub events : List Event
  pub shows : Shows plan.named plan.programs opening note events
  pub few : length events ≤ 100000
  pub told : text ≡ PLAN_HEAD.now ++ (data_of plan note ++ (PLAN_MIDDLE.now
      ++ (film_lines plan.named (unstamped opening) events ++ tail_of plan.named.plan)))

pub record PagesTell : Type 0 where
  pub whole : (plan : ProgrammedPlan) (opening : State) (text : Text) → TellsPage plan opening text
      → IsWhole plan opening text
  -- each answer is the interlock's own, in the state that the lines before it have led to
  pub legal : (n : Named) (ps : PlanPrograms) (opening : State) (note : Text) (events : List Event)
      → Shows n ps opening note events → length events ≤ 100000 → IsLegal n.plan (unstamped opening) events
  pub run : (plan : ProgrammedPlan) (turns : ℕ) (start : State) (fine : Bool) (text : Text)
      → (shown : ShowsRun plan turns start fine text) → IsLegal plan.named.plan start shown.history
  -- turns that lead somewhere are those that `explore` tells, line by line
  pub told : (n : Named) (ps : PlanPrograms) (opening : State) (turns : List ℕ)
      → way_text n ps opening turns
      ≡ flat_map (λ e. asked_line n (Some e)) (events_of n.plan ps (first_situation opening) turns)
  -- what is asked in vain leaves all as it is; without it a round has its turns alone
  pub vain : (n : Named) (ps : PlanPrograms) (at : Situation) (m : ℕ) (e : Event) → unstamped at.state ≡ at.state
      → event_of n.plan ps at m ≡ Some e → in_vain e ≡ Some e → turn_of n.plan ps at m ≡ at
  pub nobody : (n : Named) (ps : PlanPrograms) (at : Situation) (last : Option Event) (turns : List ℕ)
      → watched_events n ps None at last turns ≡ events_of n.plan ps at turns
