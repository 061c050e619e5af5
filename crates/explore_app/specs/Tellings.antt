-- What screens and lines say, in other words.
use Rattle.std.specs.Prelude.{◌≡◌, ◌⊎◌, ℕ, ◌+◌, Bool, true, false, List, [], ◌∷◌, ◌++◌, length, All, Option, Some, None}
use Rattle.std.specs.Prelude.{Ok, Err, IfSome, String, codes, string_bytes}
use Rattle.std.specs.declared.alloc.Global.{Global}
use Rattle.text_io.specs.Input.{TakesAtMost}
use Rattle.text_io.specs.Output.{WrotePrefix}
use Rattle.cell_rules.specs.Types.{Call, Machine, Feed, Table, Robot, Press, Deposit, Crane, Settled}
use Rattle.cell_rules.specs.Names.{ModelState, IsStartState, plates_of, reply}
use Rattle.cell_notes.specs.ByMachine.{at_machine, values_of}
use Rattle.cell_notes.specs.declared.schedule.Turn.{Turn}
use Rattle.cell_parts.specs.Axes.{CellScales}
use Rattle.cell_plant.specs.Names.{IsRunBy, Step as RunStep, cell_at_start, frames_of, on_curves}
use Rattle.cell_plant.specs.declared.frame.Frame.{Frame}
use Rattle.cell_config.specs.Configured.{Says, in_order}
use Rattle.cell_config.specs.Settings.{Settings, max_bytes_read, settings_of}
use Rattle.cell_config.specs.declared.fault.ConfigFault.{ConfigFault}
use Rattle.cell_explorer.specs.Calls.{call_of}
use Rattle.cell_explorer.specs.Columns.{cell_columns}
use Rattle.cell_explorer.specs.Explored.{NoneEnds, ComeTo, LeadsToStandstill, LeadsToRefusal, IsShortest}
use Rattle.cell_explorer.specs.Explored.{IfEnd, IfFree}
use Rattle.cell_explorer.specs.Situations.{prospect_of}
use Rattle.cell_explorer.specs.Walks.{asks_on, end_of, next_turn}
use Rattle.cell_explorer.specs.declared.exploring.Explored.TheVariants as explored
use Rattle.cell_explorer.specs.declared.situation.Situation.{Situation}
use Rattle.cell_explorer.specs.declared.walk.Walk.{Walk}
use Rattle.cell_liveness.specs.Answers.{IfStarves, IfWithin}
use Rattle.cell_liveness.specs.GoingOn.{PlatesGoOn}
use Rattle.cell_liveness.specs.Starving.{IsStarving}
use Rattle.cell_liveness.specs.declared.answers.Plates.{Plates}
use Rattle.explore_app.specs.declared.bound.Bound.{Bound}
use Rattle.explore_app.specs.declared.ending.Ending.{Ending}
use Rattle.explore_app.specs.declared.ending.Ending.TheVariants as ending
use Rattle.explore_app.specs.declared.liveness.Liveness.{Liveness}
use Rattle.explore_app.specs.declared.liveness.Liveness.TheVariants.{Unknown}
use Rattle.explore_app.specs.declared.request.Question.{Question}
use Rattle.explore_app.specs.declared.request.Question.TheVariants.{Standstill, Starving}
use Rattle.explore_app.specs.declared.screen.Screen.{Screen}
use Rattle.explore_app.specs.declared.screen.Screen.TheVariants.{Free, Warning}
use Rattle.explore_app.specs.declared.step.Step.{Step}
use Rattle.explore_app.specs.declared.tally.Tally.{Tally}
use Rattle.explore_app.specs.Bounds.{Text}
use Rattle.explore_app.specs.Liveness.{any_starves, liveness_of_each}
use Rattle.explore_app.specs.Rings.{is_about}
use Rattle.explore_app.specs.Schedules.{LeadsTo, LeadsToEnding}
use Rattle.explore_app.specs.Screens.{ComesTo, GoOnWithin, IsScreenOf, MayStarve, Shows, ShowsEnding, ShowsFree}
use Rattle.explore_app.specs.Screens.{TellsGoing, TellsRefusal, TellsStandstill, TellsTrouble}
use Rattle.explore_app.specs.Screens.{ending_screen, free_screen, screen_text}
use Rattle.explore_app.specs.Served.{AnswerFails, Answers, WasAnswered, WereListed}
use Rattle.explore_app.specs.Starving.{IsRoundTurn, IsStarvingScreenOf, ShowsCircle, ShowsRound, Starves, TellsBound}
use Rattle.explore_app.specs.Starving.{TellsRound, TellsStill, asking, going_turns, is_idle, is_of_round, round_screen}
use Rattle.explore_app.specs.Starving.{weak_screen}
use Rattle.explore_app.specs.Starts.{starts_with}
use Rattle.explore_app.specs.Tallies.{AreLines, Finding, IsLivenessFrom, IsTally, WasFound, both_tallies, no_tally}
use Rattle.explore_app.specs.Tallies.{tally_line, tally_of}

-- a start, its turns and what they come to
pub record ScreensTell (given : Settings) (text : String Global) : Type 0 where
  -- a screen that is no warning tells that nothing stands still or starves; a warning, one of three things that do
  pub free_tells_freedom : IsScreenOf given (Free text) → TellsGoing given.start false (string_bytes text)
  pub freedom_is_no_warning : TellsGoing given.start false (string_bytes text) → IsScreenOf given (Free text)
  pub warning_tells_one_of_three : IsScreenOf given (Warning text)
      → (¬ TellsGoing given.start true (string_bytes text)) → (¬ TellsStandstill given (string_bytes text))
      → (¬ TellsRefusal given (string_bytes text)) → ⊥
  pub starving_warns : TellsGoing given.start true (string_bytes text) → IsScreenOf given (Warning text)
  pub standstill_warns : TellsStandstill given (string_bytes text) → IsScreenOf given (Warning text)
  pub refusal_warns : TellsRefusal given (string_bytes text) → IsScreenOf given (Warning text)
  pub free : (situations : ℕ) → Shows given (explored.Free situations) (Free text)
      → ShowsFree given.start situations false (string_bytes text)
  pub starving : (situations : ℕ) → Shows given (explored.Free situations) (Warning text)
      → ShowsFree given.start situations true (string_bytes text)
  pub standstill : (way : _) → Shows given (explored.Standstill way) (Warning text)
      → ShowsEnding given ending.Standstill way.items (string_bytes text)
  pub standstill_is_a_warning : (way : _) → ¬ Shows given (explored.Standstill way) (Free text)
  pub refusal : (way : _) → Shows given (explored.Refusal way) (Warning text)
      → ShowsEnding given ending.Refusal way.items (string_bytes text)
  pub refusal_is_a_warning : (way : _) → ¬ Shows given (explored.Refusal way) (Free text)

-- what is told of a start, and shown of it
pub record TextsTell (s : ModelState) (text : Text) : Type 0 where
  pub freedom_is_found : (starve : Bool) → TellsGoing s starve text
      → (situations : ℕ) × NoneEnds s × ComeTo s situations × ShowsFree s situations starve text
  pub freedom_is_shown : (situations : ℕ) (starve : Bool) → ShowsFree s situations starve text
      → (plates : Plates) × GoOnWithin s plates × MayStarve s plates × (any_starves plates ≡ starve)
      × (text ≡ free_screen s situations plates)
  pub walk_is_taken : (way : List Machine) (walk : Walk) → ComesTo s way walk
      → (walk.asks.items ≡ asks_on s way) × (walk.end ≡ end_of s way)
      × (walk.next ≡ values_of (next_turn cell_columns (end_of s way)))
  pub someone_moves : (plates : Plates) → GoOnWithin s plates
      → IfWithin plates.any (PlatesGoOn s None (Some Press))
  pub each_moves : (plates : Plates) → GoOnWithin s plates
      → IfWithin plates.feed (PlatesGoOn s (Some Feed) (Some Press))
      × IfWithin plates.table (PlatesGoOn s (Some Table) (Some Press))
      × IfWithin plates.robot (PlatesGoOn s (Some Robot) (Some Press))
      × IfWithin plates.press (PlatesGoOn s (Some Press) (Some Press))
      × IfWithin plates.deposit (PlatesGoOn s (Some Deposit) (Some Press))
      × IfWithin plates.crane (PlatesGoOn s (Some Crane) (Some Press))
  pub someone_starves : (plates : Plates) → MayStarve s plates
      → IfStarves plates.any (IsStarving s None (Some Press))
  pub each_starves : (plates : Plates) → MayStarve s plates
      → IfStarves plates.feed (IsStarving s (Some Feed) (Some Press))
      × IfStarves plates.table (IsStarving s (Some Table) (Some Press))
      × IfStarves plates.robot (IsStarving s (Some Robot) (Some Press))
      × IfStarves plates.press (IsStarving s (Some Press) (Some Press))
      × IfStarves plates.deposit (IsStarving s (Some Deposit) (Some Press))
      × IfStarves plates.crane (IsStarving s (Some Crane) (Some Press))

-- a run of a schedule's turns in a configuration's cell, from its start, whose last frame shows a situation
abbrev pub IsPlayed : Settings → Situation → List Turn → Type 0
IsPlayed given at schedule =
    (c : CellScales) × (given.points ≡ in_order c) × (steps : List RunStep)
    × IsRunBy c (on_curves given.curves) (cell_at_start given.start) schedule steps × (before : List Frame)
    × (last : Frame) × (frames_of given.start schedule steps ≡ before ++ last ∷ [])
    × (last.steps.feed ≡ at.feed.step) × (last.steps.table ≡ at.table.step) × (last.steps.robot ≡ at.robot.step)
    × (last.steps.press ≡ at.press.step) × (last.steps.deposit ≡ at.deposit.step)
    × (last.steps.crane ≡ at.crane.step) × (record (last.state) { stamp = 0 } ≡ at.state)

-- what is told of the turns to an ending, and shown of a schedule that leads there
pub record EndingsTell (given : Settings) (text : Text) : Type 0 where
  pub standstill_is_found : TellsStandstill given text
      → (way : List Machine) × LeadsToStandstill given.start way × IsShortest given.start way
      × ShowsEnding given ending.Standstill way text
  pub refusal_is_found : TellsRefusal given text
      → (way : List Machine) × LeadsToRefusal given.start way × IsShortest given.start way
      × ShowsEnding given ending.Refusal way text
  pub ending_is_shown : (e : Ending) (way : List Machine) → ShowsEnding given e way text
      → (walk : Walk) × ComesTo given.start way walk × (schedule : List Turn) × LeadsToEnding given e walk schedule
      × (text ≡ ending_screen given.start e (length way) walk schedule)
  -- the schedule leads there: played in this cell from this start, it ends in the walk's end
  pub schedule_leads : (e : Ending) (walk : Walk) (schedule : List Turn) → LeadsToEnding given e walk schedule
      → LeadsTo given walk.end schedule
  pub schedule_is_played : (at : Situation) (schedule : List Turn) → LeadsTo given at schedule
      → IsPlayed given at schedule
  -- its last turn is one in which a machine asks, so it has one
  pub no_empty_schedule : (e : Ending) (walk : Walk) → ¬ LeadsToEnding given e walk []
  pub machine_asks : (e : Ending) (walk : Walk) (schedule : List Turn) (led : LeadsToEnding given e walk schedule)
      → (m : Machine) × (call : Call) × (stamp : ℕ) × ((at_machine walk.next m).call ≡ Some call)
      × (is_about e (at_machine walk.next m).prospect ≡ true)
      × (led.last.asked ≡ Some (call, Ok (Settled (reply walk.end.state m call) stamp)))

-- how plates starve
pub record StarvingTells (given : Settings) (text : String Global) : Type 0 where
  pub free_tells_bound : IsStarvingScreenOf given (Free text)
      → (bound : Option Bound) × IfSome bound (λ b. PlatesGoOn given.start None None b.plain b.helped)
      × (string_bytes text ≡ weak_screen given.start bound)
  pub bound_is_no_warning : TellsBound given.start (string_bytes text) → IsStarvingScreenOf given (Free text)
  pub warning_tells_one_of_two : IsStarvingScreenOf given (Warning text)
      → (¬ TellsStill given (string_bytes text)) → (¬ TellsRound given (string_bytes text)) → ⊥
  pub still_warns : TellsStill given (string_bytes text) → IsStarvingScreenOf given (Warning text)
  pub round_warns : TellsRound given (string_bytes text) → IsStarvingScreenOf given (Warning text)
  pub circle : (turns : ℕ) (still : _) → Starves given.start turns still
      → (stem : List Machine) × (cycle : List Machine) × IsStarving given.start None None stem cycle
      × (length stem ≡ turns) × (walk : Walk) × ComesTo given.start stem walk × (is_idle walk cycle ≡ still)
  pub still : TellsStill given (string_bytes text)
      → (turns : ℕ) × Starves given.start turns true × (screen : Screen) × IsScreenOf given screen
      × (string_bytes text ≡ screen_text screen)
  pub round : TellsRound given (string_bytes text)
      → (turns : ℕ) × (starves : Starves given.start turns false)
      × ShowsRound given starves.stem starves.cycle starves.walk (string_bytes text)
  pub circle_is_a_warning : (stem cycle : List Machine) (walk : Walk) → ¬ ShowsCircle given stem cycle walk (Free text)
  pub circle_is_shown : (stem cycle : List Machine) (walk : Walk) → ShowsCircle given stem cycle walk (Warning text)
      → ShowsRound given stem cycle walk (string_bytes text)
  pub shown : (stem cycle : List Machine) (walk : Walk) → ShowsRound given stem cycle walk (string_bytes text)
      → (round : List Step) × All (IsRoundTurn given.start) round × (going_turns round ≡ asking given.start stem cycle)
      × (schedule : List Turn) × LeadsTo given walk.end schedule
      × (string_bytes text ≡ round_screen given.start (length stem) round schedule)
  pub turn : (step : Step) → IsRoundTurn given.start step
      → (way : List Machine) × ComesTo given.start way step.walk
      × (call_of cell_columns step.machine (end_of given.start way) ≡ Some step.call)
      × (is_of_round step.goes_on (prospect_of cell_columns step.machine (end_of given.start way)) ≡ true)

-- what was found from a start
pub record FindingsTell (s : ModelState) : Type 0 where
  pub free : (situations : ℕ) → WasFound s (explored.Free situations) → NoneEnds s × ComeTo s situations
  pub standstill : (way : _) → WasFound s (explored.Standstill way)
      → LeadsToStandstill s way.items × IsShortest s way.items
  pub refusal : (way : _) → WasFound s (explored.Refusal way) → LeadsToRefusal s way.items × IsShortest s way.items
  pub liveness : (liveness : Liveness) → IsLivenessFrom s liveness
      → (plates : Plates) × GoOnWithin s plates × MayStarve s plates × (liveness_of_each plates ≡ liveness)

-- tallies and lines
pub record TalliesTell : Type 0 where
  pub finding : (plates : ℕ) (f : Finding plates)
      → IsStartState f.start × (plates_of f.start ≡ plates) × WasFound f.start f.found
      × IfFree f.found (λ _. IsLivenessFrom f.start f.liveness) × IfEnd f.found (λ _. f.liveness ≡ Unknown)
  pub tally : (plates : ℕ) (starts : List ModelState) (t : Tally) → IsTally plates starts t
      → ((starts ≡ []) × (t ≡ no_tally))
      ⊎ (((f : Finding plates) × (starts ≡ f.start ∷ []) × (t ≡ tally_of f.found f.liveness))
      ⊎ ((some : List ModelState) × (others : List ModelState) × (a : Tally) × (b : Tally) × IsTally plates some a
      × IsTally plates others b × (starts ≡ some ++ others) × (t ≡ both_tallies a b)))
  pub lines : (count : ℕ) (text : Text) → AreLines count text
      → ((count ≡ 0) × (text ≡ []))
      ⊎ ((n : ℕ) × (t : Tally) × (before : Text) × (count ≡ n + 1) × AreLines n before
      × IsTally n (starts_with n) t × (text ≡ before ++ tally_line n t))

-- what was written
pub record AnswersTell (bytes text : Text) : Type 0 where
  pub standstill : WasAnswered Standstill (Some bytes) (Some []) (Some text)
      → (settings : Settings) × (settings_of bytes ≡ Ok settings) × TellsGoing settings.start false text
  pub starving : WasAnswered Starving (Some bytes) (Some []) (Some text)
      → (settings : Settings) × (settings_of bytes ≡ Ok settings) × TellsBound settings.start text
  pub listed : (lines : ℕ) → WereListed lines (Some []) (Some text) → AreLines lines text
  pub nothing_lost : (lines : ℕ) → ¬ WereListed lines (Some (7 ∷ [])) (Some [])
  -- status 0 and status 1
  pub well : (question : Question) (rest : Option Text) → Answers question 0 (Some bytes) rest (Some []) (Some text)
      → WasAnswered question (Some bytes) (Some []) (Some text)
  pub fails : (question : Question) (rest : Option Text) → Answers question 1 (Some bytes) rest (Some []) (Some text)
      → AnswerFails question bytes (Some []) (Some text)
  pub reads : (question : Question) (exit : ℕ) (rest new : Option Text)
      → Answers question exit (Some bytes) rest (Some []) new → TakesAtMost (Some bytes) rest max_bytes_read
  pub warns : (settings : Settings) → settings_of bytes ≡ Ok settings → TellsTrouble settings text
      → AnswerFails Standstill bytes (Some []) (Some text)
  pub warns_of_round : (settings : Settings) → settings_of bytes ≡ Ok settings → TellsRound settings text
      → AnswerFails Starving bytes (Some []) (Some text)
  pub warns_of_still : (settings : Settings) → settings_of bytes ≡ Ok settings → TellsStill settings text
      → AnswerFails Starving bytes (Some []) (Some text)
  pub other : AnswerFails Standstill bytes (Some []) (Some text)
      → (¬ ((fault : ConfigFault) × Says bytes (Err fault)))
      → (¬ WrotePrefix (Some []) (Some text) (codes "fault memory\n"))
      → (¬ WrotePrefix (Some []) (Some text) (codes "fault the simulated cell doesn't come to it\n"))
      → (settings : Settings) × (settings_of bytes ≡ Ok settings) × (whole : Text)
      × (TellsTrouble settings whole ⊎ TellsGoing settings.start false whole)
      × WrotePrefix (Some []) (Some text) whole

pub record TellingsAreWhole : Type 0 where
  pub screens : (given : Settings) (text : String Global) → ScreensTell given text
  pub texts : (s : ModelState) (text : Text) → TextsTell s text
  pub endings : (given : Settings) (text : Text) → EndingsTell given text
  pub starving : (given : Settings) (text : String Global) → StarvingTells given text
  pub findings : (s : ModelState) → FindingsTell s
  pub tallies : TalliesTell
  pub answers : (bytes text : Text) → AnswersTell bytes text
