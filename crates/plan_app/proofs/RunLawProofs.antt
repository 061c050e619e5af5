-- The laws of runs.
use Rattle.std.proofs.Common.{◌≡◌, ◌∙◌, ℕ, Bool, true, List, Option, None, Some, ap, sym, subst}
use Rattle.plan_rules.specs.declared.state.State.{State}
use Rattle.plan_text.specs.Histories.{script_of}
use Rattle.plan_text.specs.HistoryLaws.{AreToldApart, HistoriesAreAnswered, IsAnswered, IsStartOf, StartsAreOfPlans}
use Rattle.plan_document.specs.declared.resolving.ProgrammedPlan.{ProgrammedPlan}
use Rattle.plan_app.specs.Asked.{IsAsked}
use Rattle.plan_app.specs.Input.{script_in}
use Rattle.plan_app.specs.RunLaws.{IsReplayedAs, RunsAreReplayed, WritingsAreReplayed}
use Rattle.plan_app.specs.RunTexts.{comments_of}
use Rattle.plan_app.specs.Runs.{TellsRun}
use Rattle.plan_app.proofs.Comments.{all_comments, comments_end}
use Rattle.plan_app.proofs.Replaying.{all_own, script_after}
use Rattle.plan_app.proofs.ToldApart.{told_apart}

-- also on one word: its plan is that of a document of its own
apart : (word : Option ℕ) (document : List ℕ) (plan : ProgrammedPlan) → IsAsked word document plan → AreToldApart plan.named
apart None document plan is = told_apart is.says.document plan.named is.says.says.named
apart (Some number) document plan is =
    let on = is.says.says.says.plans number plan is.there in
    told_apart on.0 plan.named on.1.says.named

module _ (answered : HistoriesAreAnswered) (starts : StartsAreOfPlans) (word : Option ℕ) (document : List ℕ) (plan : ProgrammedPlan) (turns : ℕ) (start : State) (fine : Bool) (text : List ℕ) where
  script_told : IsAsked word document plan → (run : TellsRun plan turns start fine text) → script_in text ≡ script_of plan.named start run.history
  script_told is run =
      let n = plan.named in
      let ends = comments_end n turns run.history run.stops in
      ap script_in run.told
      ∙ script_after (comments_of n turns run.history run.stops) _ (all_comments n turns run.history run.stops (apart word document plan is)) ends.feed ends.some

  replayed : IsAsked word document plan → IsStartOf plan.named start → (run : TellsRun plan turns start fine text) → (input : List ℕ) → script_in input ≡ script_in text → IsReplayedAs plan.named start run.history (script_in input)
  replayed is begun run input same =
      let n = plan.named in
      let a : IsAnswered n start run.history = answered n start run.history (apart word document plan is) begun run.is.audited.legal (all_own n run.history run.own) run.few in
      subst (IsReplayedAs n start run.history) (sym (same ∙ script_told is run)) (record { starts = a.start; clean = a.clean; text = a.text })

  pub runs_replayed : RunsAreReplayed word document plan turns start fine text
  runs_replayed = record { script = script_told; replayed = replayed }

pub writings_replayed : HistoriesAreAnswered → StartsAreOfPlans → WritingsAreReplayed
writings_replayed answered starts word turns bytes text (plan, is, (start, begins, (written, run, appended))) =
    let told : TellsRun plan turns start true text = subst (TellsRun plan turns start true) (sym appended) run in (
      plan,
      is,
      record {
        start = start;
        history = told.history;
        legal = told.is.audited.legal;
        replayed = λ input same. (runs_replayed answered starts word _ plan turns start true text).replayed is (starts plan.named (script_in bytes) start begins) told input same;
      },
    )
