-- What `plan explore` prints of a plan and its programs.
use Rattle.std.specs.Prelude.{◌≡◌, ◌⊎◌, ℕ, Bool, true, false, ◌++◌, codes, flat_map, length, List, [], string_bytes}
use Rattle.std.specs.Prelude.{slice_get, Some, None}
use Rattle.plan_types.specs.declared.answer.Event.{Event}
use Rattle.plan_rules.specs.declared.state.State.{State}
use Rattle.plan_explorer.specs.Explored.{AreShortest, ComeTo, ComeToMore, LeadToStandstill}
use Rattle.plan_explorer.specs.Explored.{NoneStandsStill, NoneStandsStillBefore}
use Rattle.plan_explorer.specs.Programs.{PlanPrograms}
use Rattle.plan_explorer.specs.Runs.{NoRunStandsStill}
use Rattle.plan_explorer.specs.Situations.{after_turns, first_situation}
use Rattle.plan_explorer.specs.Walks.{outlook_of}
use Rattle.plan_liveness.specs.declared.answer.Liveness.{Liveness}
use Rattle.plan_liveness.specs.declared.answer.Progress.{Progress}
use Rattle.plan_liveness.specs.Answers.{IfStarves, IfWithin, IsLiveness}
use Rattle.plan_liveness.specs.Plates.{PlatesMove, PlatesRest}
use Rattle.plan_text.specs.Names.{Text}
use Rattle.plan_text.specs.Named.{Named}
use Rattle.plan_app.specs.Going.{going_text, line_of, way_text}
use Rattle.plan_app.specs.Starving.{any_starves}
use Rattle.plan_app.specs.Words.{counted}
use Rattle.plan_app.specs.declared.explore.TheConstants.{ANY_ORDER, FREE, MORE, SHORTEST, STANDSTILL, UNFINISHED}
use Rattle.plan_app.specs.declared.explore.Extent.{Extent}
use Rattle.plan_app.specs.declared.explore.Extent.TheVariants.{Fewer, Any}
use Rattle.plan_app.specs.declared.explore.Screen.{Screen}
use Rattle.plan_app.specs.declared.explore.Screen.TheVariants.{Free, Starving, Standstill, Unfinished}

-- ---- a standstill

abbrev pub count_line : ℕ → Text
count_line turns = STANDSTILL.now ++ (counted turns (codes "turn") ++ SHORTEST.now)

-- what a machine asks, and why it waits
abbrev pub wait_line : Named → Event → Text
wait_line n e = line_of n (codes " waits: ") e

-- what the turns that lead to it ask
abbrev pub turns_text : Named → PlanPrograms → State → List ℕ → Text
turns_text n ps opening turns = codes "turns:\n" ++ way_text n ps opening turns

abbrev pub standstill_text : Named → PlanPrograms → State → List ℕ → List Event → Text
standstill_text n ps opening turns waiting =
    count_line (length turns) ++ (flat_map (wait_line n) waiting ++ turns_text n ps opening turns)

-- what the machines ask after turns from an opening
abbrev pub outlook_after : Named → PlanPrograms → State → List ℕ → List Event
outlook_after n ps opening turns = outlook_of n.plan ps (after_turns n.plan ps (first_situation opening) turns)

-- the fewest turns to a standstill, and what each machine waits for there
pub record TellsStandstill (n : Named) (ps : PlanPrograms) (opening : State) (text : Text) : Type 0 where
  pub turns : List ℕ
  pub lead : LeadToStandstill n.plan ps opening turns
  pub shortest : AreShortest n.plan ps opening turns
  pub told : text ≡ standstill_text n ps opening turns (outlook_after n ps opening turns)

-- ---- no standstill

-- the number of situations
abbrev pub free_line : ℕ → Text
free_line situations = FREE.now ++ (counted situations (codes "situation") ++ codes "\n")

abbrev pub MoveOn : Named → PlanPrograms → State → Progress → Type 0
MoveOn n ps opening plates = IfWithin plates (PlatesMove n.plan ps None [] (first_situation opening))

abbrev pub MayRest : Named → PlanPrograms → State → Progress → Type 0
MayRest n ps opening plates = IfStarves plates (PlatesRest n.plan ps None [] (first_situation opening))

-- the answers are those of explorations: of each machine, and of plates
pub record AreAnswers (n : Named) (ps : PlanPrograms) (opening : State) (answers : List Liveness) (plates : Progress)
    : Type 0 where
  pub count : length answers ≡ length ps
  pub each : (m : ℕ) (answer : Liveness) → slice_get answers m ≡ Some answer
      → IsLiveness n.plan ps (first_situation opening) m answer
  pub moving : MoveOn n ps opening plates
  pub resting : MayRest n ps opening plates

-- whether some starve by the answers, and what is said by them
abbrev pub ByAnswers : Type 0 → Type 0
ByAnswers A = List Liveness → Progress → A

-- In no order of turns is there a standstill, and `situations` is the number of situations that the machines come to.
-- What is said of machines that go on is said by what explorations answer, and `starve` is whether some starve by that.
pub record TellsGoingBy (n : Named) (ps : PlanPrograms) (opening : State) (starves : ByAnswers Bool)
    (going : ByAnswers Text) (starve : Bool) (text : Text) : Type 0 where
  pub free : NoneStandsStill n.plan ps opening
  pub runs : NoRunStandsStill n.plan ps opening
  pub situations : ℕ
  pub come : ComeTo n.plan ps opening situations
  pub answers : List Liveness
  pub plates : Progress
  pub are : AreAnswers n ps opening answers plates
  pub starving : starves answers plates ≡ starve
  pub told : text ≡ free_line situations ++ going answers plates

-- of all machines: some machine may starve, or plates may rest
abbrev pub TellsGoing : Named → PlanPrograms → State → Bool → Text → Type 0
TellsGoing n ps opening starve text =
    TellsGoingBy n ps opening (any_starves n) (going_text n ps opening) starve text

-- by that none starves
abbrev pub TellsFree : Named → PlanPrograms → State → Text → Type 0
TellsFree n ps opening text = TellsGoing n ps opening false text

-- or some do
abbrev pub TellsStarving : Named → PlanPrograms → State → Text → Type 0
TellsStarving n ps opening text = TellsGoing n ps opening true text

-- ---- more situations than are explored

-- one fact of turns that are fewer than these, another one of turns in any order
abbrev pub OfTurns : (ℕ → Type 0) → Type 0 → Extent → Type 0
OfTurns before always (Fewer turns) = before turns
OfTurns before always Any = always

-- turns lead to more situations than `most`, and to a standstill none that are fewer than these, or none at all
pub record IsUnfinished (most : ℕ) (n : Named) (ps : PlanPrograms) (opening : State) (extent : Extent) : Type 0 where
  pub more : ComeToMore n.plan ps opening most
  pub none : OfTurns (NoneStandsStillBefore n.plan ps opening) (NoneStandsStill n.plan ps opening) extent

abbrev pub extent_words : Extent → Text
extent_words (Fewer turns) = UNFINISHED.now ++ counted turns (codes "turn")
extent_words Any = ANY_ORDER.now

abbrev pub unfinished_words : ℕ → Extent → Text
unfinished_words most extent = MORE.now ++ (counted most (codes "situation") ++ extent_words extent)

-- what is said of all machines together
abbrev pub large_words : ℕ → Extent → Text
large_words most extent = codes "large: " ++ unfinished_words most extent

abbrev pub TellsUnfinished : ℕ → Named → PlanPrograms → State → Text → Type 0
TellsUnfinished most n ps opening words =
    (turns : ℕ) × IsUnfinished most n ps opening (Fewer turns) × (words ≡ large_words most (Fewer turns))

-- ---- what is printed is what was found

abbrev pub IsScreenBy : ℕ → Named → PlanPrograms → State → ByAnswers Bool → ByAnswers Text → Screen → Type 0
IsScreenBy most n ps opening starves going (Free text) =
    TellsGoingBy n ps opening starves going false (string_bytes text)
IsScreenBy most n ps opening starves going (Starving text) =
    TellsGoingBy n ps opening starves going true (string_bytes text)
IsScreenBy most n ps opening starves going (Standstill text) = TellsStandstill n ps opening (string_bytes text)
IsScreenBy most n ps opening starves going (Unfinished extent) = IsUnfinished most n ps opening extent

abbrev pub IsScreen : ℕ → Named → PlanPrograms → State → Screen → Type 0
IsScreen most n ps opening screen = IsScreenBy most n ps opening (any_starves n) (going_text n ps opening) screen

-- whether all is well by a text: nothing stands still, and none starves
abbrev pub TellsScreenBy : Named → PlanPrograms → State → ByAnswers Bool → ByAnswers Text → Bool → Text → Type 0
TellsScreenBy n ps opening starves going true text = TellsGoingBy n ps opening starves going false text
TellsScreenBy n ps opening starves going false text =
    TellsStandstill n ps opening text ⊎ TellsGoingBy n ps opening starves going true text

abbrev pub TellsScreen : Named → PlanPrograms → State → Bool → Text → Type 0
TellsScreen n ps opening well text =
    TellsScreenBy n ps opening (any_starves n) (going_text n ps opening) well text

-- a screen says that nothing stands still, and whether some starve; or that turns lead to a standstill, where the
-- machines wait so
abbrev pub ShowsFree : ℕ → Text → Bool → Screen → Type 0
ShowsFree situations going starve (Free text) =
    (starve ≡ false) × (string_bytes text ≡ free_line situations ++ going)
ShowsFree situations going starve (Starving text) =
    (starve ≡ true) × (string_bytes text ≡ free_line situations ++ going)
ShowsFree situations going starve (Standstill text) = ⊥
ShowsFree situations going starve (Unfinished extent) = ⊥

abbrev pub ShowsGoingBy : Named → PlanPrograms → State → ByAnswers Bool → ByAnswers Text → ℕ → Screen → Type 0
ShowsGoingBy n ps opening starves going situations screen =
    (answers : List Liveness) × (plates : Progress) × AreAnswers n ps opening answers plates
    × ShowsFree situations (going answers plates) (starves answers plates) screen

abbrev pub ShowsGoing : Named → PlanPrograms → State → ℕ → Screen → Type 0
ShowsGoing n ps opening situations screen =
    ShowsGoingBy n ps opening (any_starves n) (going_text n ps opening) situations screen

abbrev pub ShowsStandstill : Named → PlanPrograms → State → List Event → List ℕ → Screen → Type 0
ShowsStandstill n ps opening waiting turns (Free text) = ⊥
ShowsStandstill n ps opening waiting turns (Starving text) = ⊥
ShowsStandstill n ps opening waiting turns (Standstill text) =
    string_bytes text ≡ standstill_text n ps opening turns waiting
ShowsStandstill n ps opening waiting turns (Unfinished extent) = ⊥
