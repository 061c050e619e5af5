-- What is said of two machines that pass two zones, each of them on a word of its own, and of two that share nothing;
-- and what a text, or what was written, says for certain.
use Rattle.std.specs.Prelude.{◌≡◌, ◌⊎◌, ℕ, Bool, true, false, ◌&&◌, ◌||◌, List, [], ◌∷◌, ◌++◌, codes, length, slice_get}
use Rattle.std.specs.Prelude.{Ok, Some, None}
use Rattle.plan_types.specs.declared.answer.Answer.TheVariants.{Done, Refused}
use Rattle.plan_types.specs.declared.answer.Refusal.TheVariants.{Held}
use Rattle.plan_types.specs.declared.call.Call.TheVariants.{Claim, Give, Release, SetPose}
use Rattle.plan_types.specs.Examples.{pose}
use Rattle.plan_types.specs.Table.{plan_table}
use Rattle.plan_rules.specs.declared.state.State.{State}
use Rattle.graph_progress.specs.declared.answer.Reason.TheVariants.{Unchecked}
use Rattle.plan_explorer.specs.declared.plant_walk.RoutedEvent.{RoutedEvent}
use Rattle.plan_explorer.specs.Groups.{group_in}
use Rattle.plan_explorer.specs.PlantExamples.{claims, crossing, crosswise, in_order, on, openings}
use Rattle.plan_explorer.specs.PlantExplored.{AreShortest, ComeTo, ComeToMore, LeadToStandstill, NoneStandsStill}
use Rattle.plan_explorer.specs.PlantExplored.{NoneStandsStillBefore}
use Rattle.plan_explorer.specs.PlantPrograms.{RoutedPrograms, calls_of}
use Rattle.plan_explorer.specs.Plants.{first_situation}
use Rattle.plan_liveness.specs.declared.answer.FairOrder.{FairOrder}
use Rattle.plan_liveness.specs.declared.answer.Liveness.{Liveness}
use Rattle.plan_liveness.specs.declared.answer.Liveness.TheVariants.{Always, IfOne, Silent, Starves}
use Rattle.plan_liveness.specs.declared.answer.Progress.{Progress}
use Rattle.plan_liveness.specs.declared.answer.Progress.TheVariants.{Within, Unknown}
use Rattle.plan_liveness.specs.declared.answer.Progress.TheVariants as progress
use Rattle.plan_liveness.specs.PlantAnswers.{IsPlantLiveness}
use Rattle.plan_liveness.specs.PlantGroups.{AreGroups, alone}
use Rattle.plan_liveness.specs.PlantPlates.{IsPlateProgress}
use Rattle.plan_text.specs.Names.{Text}
use Rattle.plan_text.specs.Named.{Named, named}
use Rattle.plan_document.specs.Plants.{IsPlantIn}
use Rattle.plan_document.specs.declared.plants.ProgrammedPlant.{ProgrammedPlant}
use Rattle.plan_document.specs.declared.resolving.ProgrammedPlan.{ProgrammedPlan}
use Rattle.plan_app.specs.Apart.{TellsBy, TellsExploration, TellsLargeBy, TellsLargePart, group_of, large_of}
use Rattle.plan_app.specs.Apart.{some_are_apart}
use Rattle.plan_app.specs.Going as of_plan
use Rattle.plan_app.specs.GoingExamples.{ends}
use Rattle.plan_app.specs.Input.{document_in, script_in}
use Rattle.plan_app.specs.PlantGoing.{asked_line, everyone, found_text, going_text, machines_text, news}
use Rattle.plan_app.specs.PlantGoing.{outlook_line, plates_text, starves_text}
use Rattle.plan_app.specs.PlantScreens.{AreAnswers, TellsFree, TellsGoing, TellsPlant, TellsStandstill}
use Rattle.plan_app.specs.PlantScreens.{TellsStarving}
use Rattle.plan_app.specs.PlantScreens.{any_starves, names_text, plates_starve, standstill_text, told_of, turns_told}
use Rattle.plan_app.specs.PlantScreens.{wait_line}
use Rattle.plan_app.specs.PlantStarts.{plant_start, tables_of}
use Rattle.plan_app.specs.Screens as of_screen
use Rattle.plan_app.specs.Screens.{free_line, large_words}
use Rattle.plan_app.specs.Served.{ExploresWords}
use Rattle.plan_app.specs.WordExamples.{within}
use Rattle.plan_app.specs.declared.explore.Extent.TheVariants.{Fewer, Any}

-- the zone of one word is the north one, that of the other the south one
abbrev pub on_word : Text → Named
on_word zone = named crossing (codes "first" ∷ codes "second" ∷ []) (zone ∷ []) [] (codes "opened" ∷ [])

-- an order of turns: first these, and then again and again those
pub record IsOrder (order : FairOrder) (first again : List ℕ) : Type 0 where
  pub stem : order.stem.items ≡ first
  pub cycle : order.cycle.items ≡ again

-- the second machine is passed over, each time that the first goes round
abbrev pub passed_over : Text
passed_over =
    codes "  a fair order in which it starves: first\n" ++ codes "  and then again and again\n"
    ++ codes "  second could go on: claim north: done\n" ++ codes "  first asks: claim north: done\n"
    ++ codes "  second waits: claim north: held first\n" ++ codes "  first asks: claim south: done\n"
    ++ codes "  first asks: release south: done\n" ++ codes "  first asks: release north: done\n"

-- nothing is known of plates
abbrev pub unknown : Progress
unknown = Unknown Unchecked

-- after its claim the first machine would give a plate on the word of the other
abbrev pub giving : RoutedPrograms
giving = (on 0 (Claim 0) ∷ on 1 (Give 0) ∷ []) ∷ (on 1 (Claim 0) ∷ on 1 (Release 0) ∷ []) ∷ []

-- by the plans of both words
pub record CrossingLines (plans : List ProgrammedPlan) : Type 0 where
  pub waits : wait_line plans (claims 0 1 (Refused (Held 1))) ≡ codes "first waits: claim south: held second\n"
  pub other_word : wait_line plans (claims 1 0 (Refused (Held 0))) ≡ codes "second waits: claim north: held first\n"
  pub asks : asked_line plans (claims 1 0 (Refused (Held 0))) ≡ codes "  second asks: claim north: held first\n"
  pub no_word : wait_line plans (claims 0 2 (Refused (Held 1))) ≡ []
  pub at_once : standstill_text plans 0 [] [] ≡ codes "a standstill after 0 turns, and no fewer\n" ++ codes "turns:\n"
  -- each has claimed the zone of one word, and waits for that of the other
  pub whole : turns_told plans crosswise openings (0 ∷ 1 ∷ [])
      ≡ codes "a standstill after 2 turns, and no fewer\n" ++ codes "first waits: claim south: held second\n"
      ++ codes "second waits: claim north: held first\n" ++ codes "turns:\n"
      ++ codes "  first asks: claim north: done\n" ++ codes "  second asks: claim south: done\n"
  -- what a machine that starves would be answered, said where it is another: of another word too
  pub could : outlook_line plans (claims 1 1 Done) ≡ codes "  second could go on: claim south: done\n"
  pub first_news : news plans None (Some (claims 0 1 (Refused (Held 1))))
      ≡ codes "  first waits: claim south: held second\n"
  pub same : news plans (Some (claims 0 1 Done)) (Some (claims 0 1 Done)) ≡ []
  pub other_zone : news plans (Some (claims 0 0 Done)) (Some (claims 0 1 Done))
      ≡ codes "  first could go on: claim south: done\n"
  -- the first machine starves, though on each word by itself it would go on
  pub crossed : (order : FairOrder) → IsOrder order (0 ∷ 1 ∷ []) (0 ∷ 1 ∷ [])
      → starves_text plans crosswise openings 0 order
      ≡ codes "  a fair order in which it starves: first\n" ++ codes "  first asks: claim north: done\n"
      ++ codes "  second asks: claim south: done\n" ++ codes "  and then again and again\n"
      ++ codes "  first waits: claim south: held second\n" ++ codes "  first asks: claim south: held second\n"
      ++ codes "  second asks: claim north: held first\n"
  -- each machine by its own answer
  pub going : (order : FairOrder) → IsOrder order [] (0 ∷ 0 ∷ 0 ∷ 0 ∷ [])
      → going_text everyone plans in_order openings (Always (within 7 0) ∷ IfOne 1 (within 4 3) order ∷ []) unknown
      ≡ codes "first goes on for ever in each fair order: within k * 7 turns\n"
      ++ codes "second goes on for ever if it isn't passed over for ever: within k * 4 + k * k * 3 turns\n"
      ++ passed_over ++ ends
  pub starves : (order : FairOrder) → IsOrder order [] (0 ∷ 0 ∷ 0 ∷ 0 ∷ [])
      → found_text (on_word (codes "north")) plans in_order openings 1 (Starves order)
      ≡ codes "second may starve though no machine is passed over for ever\n" ++ passed_over
  -- of plates, if some program moves any
  pub moving : plates_text plans giving openings (Within (within 6 0))
      ≡ codes "plates move for ever in each fair order: within k * 6 turns\n"
  pub resting : (order : FairOrder) → IsOrder order (0 ∷ []) (1 ∷ [])
      → plates_text plans giving openings (progress.Starves order)
      ≡ codes "plates may rest for ever\n" ++ codes "  a fair order in which none moves: first\n"
      ++ codes "  first asks: claim north: done\n" ++ codes "  and then again and again\n"
      ++ codes "  second asks: claim south: done\n"
  pub not_known : plates_text plans giving openings unknown
      ≡ codes "it isn't known whether plates move for ever\n"
  pub no_plates : plates_text plans in_order openings (Within (within 6 0)) ≡ []
  pub both_go_on : going_text everyone plans giving openings (Silent ∷ Silent ∷ []) (Within (within 6 0))
      ≡ codes "first asks nothing\n" ++ codes "second asks nothing\n"
      ++ codes "plates move for ever in each fair order: within k * 6 turns\n" ++ ends

abbrev pub CrossingsAreTold : Type 0
CrossingsAreTold =
    (north south : ProgrammedPlan) → north.named ≡ on_word (codes "north") → south.named ≡ on_word (codes "south")
    → CrossingLines (north ∷ south ∷ [])

-- ---- two machines that share nothing

-- on a word of its own each has a pose
abbrev pub turner : ℕ → Named
turner machine =
    named (plan_table 2 [] (pose machine false None None ∷ []) []) (codes "first" ∷ codes "second" ∷ []) [] []
    (codes "turned" ∷ [])

abbrev pub turning : RoutedPrograms
turning = (on 0 (SetPose 0) ∷ []) ∷ (on 1 (SetPose 0) ∷ []) ∷ []

-- the number of each machine's group
abbrev pub lines : List ℕ
lines = 0 ∷ 1 ∷ []

-- a text is the part of the first machine, and then that of the second one: each told of its machine, by its program
pub record IsTwoParts (plans : List ProgrammedPlan) (openings : List State) (well : Bool) (text : Text) : Type 0 where
  pub fine : Bool
  pub first : Text
  pub of_first : TellsPlant (group_of lines 0) plans (alone (group_of lines 0) turning) openings fine first
  pub also : Bool
  pub second : Text
  pub of_second : TellsPlant (group_of lines 1) plans (alone (group_of lines 1) turning) openings also second
  pub both : well ≡ (fine && also)
  pub told : text ≡ (codes "apart from all others: first\n" ++ first)
      ++ (codes "apart from all others: second\n" ++ second)

-- by the plans of both words, and from any openings
pub record LinesApart (plans : List ProgrammedPlan) (openings : List State) : Type 0 where
  pub groups : AreGroups (tables_of plans) (group_in lines)
  pub apart : some_are_apart lines (calls_of turning) ≡ true
  pub together : some_are_apart (0 ∷ 0 ∷ []) (calls_of turning) ≡ false
  pub parts : (well : Bool) (text : Text) → TellsBy true (told_of plans turning openings) lines well text
      → IsTwoParts plans openings well text
  -- of the second machine alone
  pub goes_on : (ps : RoutedPrograms) → length ps ≡ 2
      → plates_text plans ps openings unknown ≡ []
      → going_text (group_of lines 1) plans ps openings (Silent ∷ Always (within 1 0) ∷ []) unknown
      ≡ codes "second goes on for ever in each fair order: within k * 1 turns\n" ++ ends
  pub large : large_of 2000 (names_text plans lines 1 2) (Fewer 5)
      ≡ codes "large: second: more than 2000 situations; nothing stands still in fewer than 5 turns"
  pub in_any_order : large_of 2000 (names_text plans lines 1 2) Any
      ≡ codes "large: second: more than 2000 situations; nothing stands still in any order of turns"
  pub of_other : (order : FairOrder) → any_starves (group_of lines 1) (Starves order ∷ Silent ∷ []) 2 ≡ false

abbrev pub LinesAreTold : Type 0
LinesAreTold =
    (one other : ProgrammedPlan) (openings : List State) → one.named ≡ turner 0 → other.named ≡ turner 1
    → LinesApart (one ∷ other ∷ []) openings

-- ---- what is said for certain

-- each line has the names of the word of its call, and each machine's name is that of the first word
pub record PlantLinesTell : Type 0 where
  pub waits : (plans : List ProgrammedPlan) (plan : ProgrammedPlan) (e : RoutedEvent)
      → slice_get plans e.word ≡ Some plan → wait_line plans e ≡ of_screen.wait_line plan.named e.event
  pub asks : (plans : List ProgrammedPlan) (plan : ProgrammedPlan) (e : RoutedEvent)
      → slice_get plans e.word ≡ Some plan → asked_line plans e ≡ of_plan.asked_line plan.named (Some e.event)
  pub outlook : (plans : List ProgrammedPlan) (plan : ProgrammedPlan) (e : RoutedEvent)
      → slice_get plans e.word ≡ Some plan → outlook_line plans e ≡ of_plan.told_outlook plan.named e.event
  pub no_words : (ours : ℕ → Bool) (ps : RoutedPrograms) (openings : List State) (answers : List Liveness)
      → machines_text ours [] ps openings answers ≡ []

-- what is said is so, of all words together
pub record PlantScreensAreMeant : Type 0 where
  pub lines : PlantLinesTell
  pub none : (ours : ℕ → Bool) (plans : List ProgrammedPlan) (ps : RoutedPrograms) (openings : List State)
      (starve : Bool) (text : Text) → TellsGoing ours plans ps openings starve text
      → NoneStandsStill (tables_of plans) ps openings
  pub situations : (ours : ℕ → Bool) (plans : List ProgrammedPlan) (ps : RoutedPrograms) (openings : List State)
      (starve : Bool) (text : Text) → TellsGoing ours plans ps openings starve text
      → (situations : ℕ) × (answers : List Liveness) × (plates : Progress)
      × ComeTo (tables_of plans) ps openings situations × AreAnswers plans ps openings answers
      × IsPlateProgress (tables_of plans) ps (first_situation openings) plates
      × (text ≡ free_line situations ++ going_text ours plans ps openings answers plates)
  -- either none starves, nor may plates rest; or some do
  pub none_starves : (ours : ℕ → Bool) (plans : List ProgrammedPlan) (ps : RoutedPrograms) (openings : List State)
      (text : Text) → TellsFree ours plans ps openings text
      → (answers : List Liveness) × (plates : Progress) × AreAnswers plans ps openings answers
      × IsPlateProgress (tables_of plans) ps (first_situation openings) plates
      × ((any_starves ours answers (length ps) || plates_starve ps plates) ≡ false)
  pub some_starves : (ours : ℕ → Bool) (plans : List ProgrammedPlan) (ps : RoutedPrograms) (openings : List State)
      (text : Text) → TellsStarving ours plans ps openings text
      → (answers : List Liveness) × (plates : Progress) × AreAnswers plans ps openings answers
      × IsPlateProgress (tables_of plans) ps (first_situation openings) plates
      × ((any_starves ours answers (length ps) || plates_starve ps plates) ≡ true)
  pub all_go_on : any_starves everyone (Always (within 7 0) ∷ Silent ∷ []) 2 ≡ false
  pub one_starves : (order : FairOrder)
      → any_starves everyone (Always (within 7 0) ∷ IfOne 1 (within 4 3) order ∷ []) 2 ≡ true
  pub plates_move : plates_starve giving (Within (within 6 0)) ≡ false
  pub plates_rest : (order : FairOrder) → plates_starve giving (progress.Starves order) ≡ true
  pub none_moves : (order : FairOrder) → plates_starve in_order (progress.Starves order) ≡ false
  pub count : (plans : List ProgrammedPlan) (ps : RoutedPrograms) (openings : List State) (answers : List Liveness)
      → AreAnswers plans ps openings answers → length answers ≡ length ps
  pub each : (plans : List ProgrammedPlan) (ps : RoutedPrograms) (openings : List State) (answers : List Liveness)
      → AreAnswers plans ps openings answers → (m : ℕ) (answer : Liveness) → slice_get answers m ≡ Some answer
      → IsPlantLiveness (tables_of plans) ps (first_situation openings) m answer
  pub stands : (plans : List ProgrammedPlan) (ps : RoutedPrograms) (openings : List State) (text : Text)
      → TellsStandstill plans ps openings text
      → (turns : List ℕ) × LeadToStandstill (tables_of plans) ps openings turns
      × AreShortest (tables_of plans) ps openings turns × (text ≡ turns_told plans ps openings turns)
  -- past the limit nothing stands still in fewer turns than are told, or in any order
  pub more : (most : ℕ) (plans : List ProgrammedPlan) (ps : RoutedPrograms) (openings : List State)
      (groups : List ℕ) (words : Text) → TellsLargeBy most false (told_of plans ps openings) groups words
      → ComeToMore (tables_of plans) ps openings most
  pub unfinished : (most : ℕ) (plans : List ProgrammedPlan) (ps : RoutedPrograms) (openings : List State)
      (groups : List ℕ) (words : Text) → TellsLargeBy most false (told_of plans ps openings) groups words
      → ((turns : ℕ) × NoneStandsStillBefore (tables_of plans) ps openings turns
      × (words ≡ large_words most (Fewer turns)))
      ⊎ (NoneStandsStill (tables_of plans) ps openings × (words ≡ large_words most Any))
  -- "in any order" is said only where no turns at all lead to a standstill, of all machines or of a group alone
  pub in_any_order : (most : ℕ) (plans : List ProgrammedPlan) (ps : RoutedPrograms) (openings : List State)
      (groups : List ℕ) → TellsLargeBy most false (told_of plans ps openings) groups (large_words most Any)
      → NoneStandsStill (tables_of plans) ps openings
  pub part_in_any_order : (most : ℕ) (plans : List ProgrammedPlan) (ps : RoutedPrograms) (openings : List State)
      (groups : List ℕ) (first : ℕ) → TellsLargePart most (told_of plans ps openings) groups first
      (large_of most (names_text plans groups first (length ps)) Any)
      → NoneStandsStill (tables_of plans) (alone (group_of groups first) ps) openings
  -- by the plant of the document in an input, and the start of the script after that
  pub served : (bytes old new : List ℕ) → ExploresWords (Some bytes) (Some old) (Some new)
      → (plant : ProgrammedPlant) × IsPlantIn (document_in bytes) plant × (openings : List State)
      × (plant_start plant (script_in bytes) ≡ Ok openings)
      × (text : List ℕ) × TellsExploration (told_of plant.plans.items plant.programs.programs openings) true text
      × (new ≡ old ++ text)
