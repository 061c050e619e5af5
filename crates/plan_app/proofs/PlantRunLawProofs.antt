-- The laws of runs of plants.
use Rattle.std.proofs.Common.{◌≡◌, ◌∙◌, ◌+◌, ◌<◌, ◌≤◌, ℕ, zero, suc, Bool, true, List, Some, length, slice_get, inl, inr, ap, sym, subst, arith}
use Rattle.std.specs.List.{list_all, range_with_len}
use Rattle.std.proofs.lemmas.Bool.{and_parts, cases_lt}
use Rattle.std.proofs.lemmas.Option.{slice_get_within}
use Rattle.plan_types.specs.declared.answer.Event.{Event}
use Rattle.plan_rules.specs.declared.state.State.{State}
use Rattle.plan_explorer.specs.Plants.{state_on}
use Rattle.plan_text.specs.Histories.{script_of}
use Rattle.plan_text.specs.HistoryLaws.{AreToldApart, HistoriesAreAnswered, IsAnswered}
use Rattle.plan_document.specs.Plants.{IsPlantIn}
use Rattle.plan_document.specs.declared.plants.ProgrammedPlant.{ProgrammedPlant}
use Rattle.plan_document.specs.declared.resolving.ProgrammedPlan.{ProgrammedPlan}
use Rattle.plan_picture.proofs.lemmas.Having.{in_each, in_second, whole}
use Rattle.plan_picture.specs.PictureLaws.{Has}
use Rattle.plan_app.specs.Input.{script_in}
use Rattle.plan_app.specs.PlantRunLaws.{PlantRunsAreReplayed, PlantWritingsAreReplayed}
use Rattle.plan_app.specs.PlantRunTexts.{all_of, are_own_if, are_own_on, comments_of, history_on, part_by, part_if, part_on, plant_run_text}
use Rattle.plan_app.specs.PlantRuns.{TellsPlantRun}
use Rattle.plan_app.specs.RunLaws.{IsReplayedAs}
use Rattle.plan_app.specs.RunTexts.{are_own, history_line}
use Rattle.plan_app.proofs.Comments.{history_comment, history_end}
use Rattle.plan_app.proofs.PlantStarting.{openings_of_plans}
use Rattle.plan_app.proofs.Replaying.{all_own, script_after}
use Rattle.plan_app.proofs.ToldApart.{told_apart}

-- what holds of all numbers holds of one
all_in_range : (f : ℕ → Bool) (first count k : ℕ) → list_all f (range_with_len first count) ≡ true → first ≤ k → k < first + count → f k ≡ true
all_in_range f first zero k all low high = absurd (omega arith)
all_in_range f first (suc count) k all low high =
    let h = and_parts (f first) (list_all f (range_with_len (first + 1) count)) all in
    elim (cases_lt first k) [
      | inl l ↦ all_in_range f (first + 1) count k h.1 (omega arith) (omega arith)
      | inr l ↦ let same : first ≡ k = omega arith in subst (λ j. f j ≡ true) same h.0
    ]

-- the plan of each word is that of a document of its own
apart_on : (document : List ℕ) (plant : ProgrammedPlant) → IsPlantIn document plant → (word : ℕ) (plan : ProgrammedPlan)
    → slice_get plant.plans.items word ≡ Some plan → AreToldApart plan.named
apart_on document plant is word plan there =
    let on = is.says.says.plans word plan there in
    told_apart on.0 plan.named on.1.says.named

-- a text has the part of each word
part_there : (plans : List ProgrammedPlan) (turns : ℕ) (starts : List State) (histories : List (List Event)) (stops : _) (word : ℕ) (plan : ProgrammedPlan)
    → slice_get plans word ≡ Some plan
    → Has (plant_run_text plans turns starts histories stops) (part_by plan.named word (state_on starts word) (history_on histories word))
unfolding plant_run_text
part_there plans turns starts histories stops word plan there =
    let part = part_by plan.named word (state_on starts word) (history_on histories word) in
    let is : part ≡ part_on plans starts histories word =
    ap (λ o. part_if o word (state_on starts word) (history_on histories word)) (sym there) in
    in_second (comments_of plans (slice_get plans 0) turns (all_of histories) stops) _ part
    (in_each (part_on plans starts histories) part word (length plans) (slice_get_within plans word plan there)
    (subst (λ t. Has t part) is (whole part)))

-- its script comes after a comment
script_there : (plan : ProgrammedPlan) (word : ℕ) (start : State) (history : List Event)
    → script_in (part_by plan.named word start history) ≡ script_of plan.named start history
script_there plan word start history =
    let ends = history_end (Some word) (length history) in
    script_after (history_line (Some word) (length history)) _ (history_comment (Some word) (length history)) ends.feed ends.some

pub plant_runs_replayed : HistoriesAreAnswered → PlantRunsAreReplayed
plant_runs_replayed answered document plant turns starts fine text is begun run word plan there =
    let plans = plant.plans.items in
    let n = plan.named in
    let start = state_on starts word in
    let history = history_on run.histories word in
    let below : word < length plans = slice_get_within plans word plan there in
    let own : are_own n history ≡ true =
    ap (λ o. are_own_if o history) (sym there) ∙ all_in_range (are_own_on plans run.histories) 0 (length plans) word run.own (omega arith) (omega (arith, below)) in
    let legal = (run.is.explained word plan there).1.legal in
    let a : IsAnswered n start history =
    answered n start history (apart_on document plant is word plan there) (begun.each word plan there) legal (all_own n history own) (run.few word) in
    record {
      legal = legal;
      part = subst (λ t. Has t (part_by n word start history)) (sym run.told) (part_there plans turns starts run.histories run.stops word plan there);
      script = script_there plan word start history;
      replayed = λ input same. subst (IsReplayedAs n start history) (sym same) (record { starts = a.start; clean = a.clean; text = a.text });
    }

pub plant_writings_replayed : HistoriesAreAnswered → PlantWritingsAreReplayed
plant_writings_replayed answered turns bytes text (plant, is, (openings, begins, (written, run, appended))) =
    let told : TellsPlantRun plant turns openings true text = subst (TellsPlantRun plant turns openings true) (sym appended) run in (
      plant,
      is,
      λ word plan there. (
        state_on openings word,
        history_on told.histories word,
        plant_runs_replayed answered _ plant turns openings true text is (openings_of_plans plant _ openings begins) told word plan there,
      ),
    )
