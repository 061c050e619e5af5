-- The screens of how plates starve from a start.
use Rattle.std.specs.Prelude.{◌≡◌, ◌++◌, ◌⊎◌, ◌||◌, ℕ, Bool, true, false, not, List, [], ◌∷◌}
use Rattle.std.specs.Prelude.{length, All, codes, string_bytes}
use Rattle.std.specs.Prelude.{Option, Some, None, IfSome, if◌then◌else◌}
use Rattle.std.specs.Fmt.{decimal}
use Rattle.std.specs.List.{flat_map}
use Rattle.cell_rules.specs.Types.{Call, Machine}
use Rattle.cell_rules.specs.Names.{ModelState, reply}
use Rattle.cell_notes.specs.declared.schedule.Turn.{Turn}
use Rattle.cell_notes.specs.Names.{at_machine}
use Rattle.cell_config.specs.Settings.{Settings}
use Rattle.cell_explorer.specs.declared.turning.Prospect.{Prospect}
use Rattle.cell_explorer.specs.declared.turning.Prospect.TheVariants.{Acts, Waits, Stops}
use Rattle.cell_explorer.specs.Columns.{cell_columns}
use Rattle.cell_explorer.specs.Situations.{prospect_of, waits}
use Rattle.cell_explorer.specs.Calls.{call_of}
use Rattle.cell_explorer.specs.Walks.{end_of}
use Rattle.cell_explorer.specs.declared.situation.Situation.{Situation}
use Rattle.cell_explorer.specs.declared.walk.Walk.{Walk}
use Rattle.cell_liveness.specs.GoingOn.{PlatesGoOn}
use Rattle.cell_liveness.specs.Starving.{IsStarving}
use Rattle.explore_app.specs.declared.bound.Bound.{Bound}
use Rattle.explore_app.specs.declared.step.Step.{Step}
use Rattle.explore_app.specs.declared.screen.Screen.{Screen}
use Rattle.explore_app.specs.declared.screen.Screen.TheVariants.{Free, Warning}
use Rattle.explore_app.specs.Bounds.{Text, bound_words}
use Rattle.explore_app.specs.Rings.{going_on_line, waiting_line}
use Rattle.explore_app.specs.Schedules.{LeadsTo}
use Rattle.explore_app.specs.Screens.{ComesTo, IsScreenOf, plates_line, schedule_key, screen_text, start_key}

-- ---- lines

-- a turn of a round: its machine goes on, or waits
abbrev pub round_line : Step → Text
round_line step =
    if step.goes_on
    then going_on_line step.machine step.call (reply step.walk.end.state step.machine step.call)
    else waiting_line step.machine step.call (reply step.walk.end.state step.machine step.call)

abbrev pub round_lines : List Step → Text
round_lines round = flat_map round_line round

unfoldable pub stem_line : ℕ → Text
stem_line turns =
    codes "# no plate moves any more, if after " ++ decimal turns ++ codes " turns these go on for ever:\n"

-- where no round is known
unfoldable pub weak_line : Option Bound → Text
weak_line (Some b) = codes "# a plate moves within " ++ bound_words b ++ codes " of each weakly fair schedule\n"
weak_line None = codes "# it isn't known whether plates starve\n"

-- ---- screens

unfoldable pub round_head : ModelState → ℕ → List Step → Text
round_head s turns round = plates_line s ++ stem_line turns ++ round_lines round ++ start_key s

unfoldable pub round_screen : ModelState → ℕ → List Step → List Turn → Text
round_screen s turns round schedule = round_head s turns round ++ schedule_key schedule

unfoldable pub weak_screen : ModelState → Option Bound → Text
weak_screen s bound = plates_line s ++ weak_line bound ++ start_key s

-- ---- what they say

-- a machine goes on, or waits
abbrev pub is_of_round : Bool → Prospect → Bool
is_of_round goes_on prospect = goes_on || waits prospect

-- a turn of a round comes after some turns from the start: its machine asks this there, and goes on or waits
pub record IsRoundTurn (s : ModelState) (step : Step) : Type 0 where
  pub way : List Machine
  pub comes_to : ComesTo s way step.walk
  pub asks : call_of cell_columns step.machine step.walk.end ≡ Some step.call
  pub is_of : is_of_round step.goes_on (prospect_of cell_columns step.machine step.walk.end) ≡ true

-- what a turn asks, and in which situation
abbrev pub Asking : Type 0
Asking = Machine × Call × Situation

abbrev pub asking_if : Machine → Situation → Option Call → List Asking
asking_if m at (Some call) = (m, call, at) ∷ []
asking_if m at None = []

-- what a machine's turn asks after turns from the start, if it asks
abbrev pub asking_after : ModelState → List Machine → Machine → List Asking
asking_after s way m = asking_if m (end_of s way) (call_of cell_columns m (end_of s way))

-- what turns ask, one after another, after others from the start
abbrev pub asking : ModelState → List Machine → List Machine → List Asking
asking s way [] = []
asking s way (m ∷ ms) = asking_after s way m ++ asking s (way ++ m ∷ []) ms

-- what the turns of a round ask that go on
abbrev pub going_turn : Step → List Asking
going_turn step = if step.goes_on then (step.machine, step.call, step.walk.end) ∷ [] else []

abbrev pub going_turns : List Step → List Asking
going_turns round = flat_map going_turn round

-- of one turn, if there is one; it is to ask this if it goes on
abbrev pub going_step : Option Step → List Asking
going_step None = []
going_step (Some step) = going_turn step

abbrev pub going_after : Bool → ModelState → List Machine → Machine → List Asking
going_after goes_on s way m = if goes_on then asking_after s way m else []

-- A round of a circle to which the stem leads. Those that go on are all turns of the circle that ask something, in
-- order.
pub record IsRound (s : ModelState) (stem cycle : List Machine) (round : List Step) : Type 0 where
  pub turns : All (IsRoundTurn s) round
  pub whole : going_turns round ≡ asking s stem cycle

-- a text shows a round of a circle to which a walk leads, and a schedule that ends where the walk does
pub record ShowsRound (given : Settings) (stem cycle : List Machine) (walk : Walk) (text : Text) : Type 0 where
  pub round : List Step
  pub is_round : IsRound given.start stem cycle round
  pub schedule : List Turn
  pub leads : LeadsTo given walk.end schedule
  pub shown : text ≡ round_screen given.start (length stem) round schedule

-- a machine's next turn changes something
abbrev pub acts : Prospect → Bool
acts Acts = true
acts Waits = false
acts Stops = false

-- the first turn of a circle changes nothing, after a walk to it
abbrev pub is_idle : Walk → List Machine → Bool
is_idle walk [] = true
is_idle walk (m ∷ ms) = not (acts (at_machine walk.next m).prospect)

-- turns from a start lead into a circle of turns in which no plate moves; whether it is a standstill
pub record Starves (s : ModelState) (turns : ℕ) (still : Bool) : Type 0 where
  pub stem : List Machine
  pub cycle : List Machine
  pub leads : IsStarving s None None stem cycle
  pub long : length stem ≡ turns
  pub walk : Walk
  pub comes_to : ComesTo s stem walk
  pub idle : is_idle walk cycle ≡ still

-- a screen shows a round, as a warning
abbrev pub ShowsCircle : Settings → List Machine → List Machine → Walk → Screen → Type 0
ShowsCircle given stem cycle walk (Free text) = ⊥
ShowsCircle given stem cycle walk (Warning text) = ShowsRound given stem cycle walk (string_bytes text)

-- they lead to a standstill, and a text is that of the start's screen
pub record TellsStill (given : Settings) (text : Text) : Type 0 where
  pub turns : ℕ
  pub starves : Starves given.start turns true
  pub screen : Screen
  pub is_screen : IsScreenOf given screen
  pub shown : text ≡ screen_text screen

-- they lead to none, and a text shows the round
pub record TellsRound (given : Settings) (text : Text) : Type 0 where
  pub turns : ℕ
  pub starves : Starves given.start turns false
  pub shown : ShowsRound given starves.stem starves.cycle starves.walk text

-- a text shows within how many steps a plate moves, or that this isn't known
pub record TellsBound (s : ModelState) (text : Text) : Type 0 where
  pub bound : Option Bound
  pub go_on : IfSome bound (λ b. PlatesGoOn s None None b.plain b.helped)
  pub shown : text ≡ weak_screen s bound

-- a screen is that of how plates starve: it is a warning where they do
abbrev pub IsStarvingScreenOf : Settings → Screen → Type 0
IsStarvingScreenOf given (Free text) = TellsBound given.start (string_bytes text)
IsStarvingScreenOf given (Warning text) = TellsStill given (string_bytes text) ⊎ TellsRound given (string_bytes text)
