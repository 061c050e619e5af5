-- What `plan explore` prints, and what it prints of groups of machines that share nothing with each other: of a plan,
-- or of a plant on all its words.
use Rattle.std.specs.Prelude.{◌≡◌, ◌<◌, ℕ, zero, suc, Bool, true, false, ◌&&◌, ◌||◌, not, nat_lt, List, []}
use Rattle.std.specs.Prelude.{◌++◌, codes, flat_map, length, slice_get, Option, Some, None, Result, Ok, Err}
use Rattle.std.specs.Prelude.{String, string_bytes}
use Rattle.std.specs.declared.alloc.Global.{Global}
use Rattle.std.specs.Prelude.{if◌then◌else◌}
use Rattle.std.specs.List.{range_with_len}
use Rattle.plan_types.specs.Below.{any_below}
use Rattle.plan_types.specs.declared.call.Call.{Call}
use Rattle.plan_types.specs.declared.call.Call.TheVariants.{Claim, Give, Yield, Take, Release, SetPose, Inquire, Stop}
use Rattle.plan_types.specs.declared.call.Call.TheVariants.{Resume, Advance}
use Rattle.plan_rules.specs.declared.state.State.{State}
use Rattle.plan_explorer.specs.Groups.{AreGroups, AreSmallest, alone, group_in, in_group}
use Rattle.plan_explorer.specs.Programs.{PlanPrograms, program_of}
use Rattle.plan_liveness.specs.declared.answer.Liveness.{Liveness}
use Rattle.plan_liveness.specs.declared.answer.Progress.{Progress}
use Rattle.plan_text.specs.Named.{Named}
use Rattle.plan_text.specs.Names.{Text}
use Rattle.plan_header.specs.Words.{machine_name}
use Rattle.plan_app.specs.Going.{machine_text, plates_if_any}
use Rattle.plan_app.specs.Screens.{IsScreenBy, IsUnfinished, TellsScreen, TellsScreenBy, large_words}
use Rattle.plan_app.specs.Screens.{unfinished_words}
use Rattle.plan_app.specs.Starving.{may_starve, plates_may_rest}
use Rattle.plan_app.specs.declared.apart.Exploration.{Exploration}
use Rattle.plan_app.specs.declared.apart.Exploration.TheVariants.{Well, Unwell, Large}
use Rattle.plan_app.specs.declared.explore.Extent.{Extent}
use Rattle.plan_app.specs.declared.explore.Screen.{Screen}
use Rattle.plan_app.specs.declared.explore.Screen.TheVariants.{Free, Starving, Standstill, Unfinished}
use Rattle.plan_app.specs.declared.going.TheConstants.{FAIRNESS}

-- ---- groups, by the number of each machine's group

-- the machines of a machine's group
abbrev pub group_of : List ℕ → ℕ → ℕ → Bool
group_of groups m = in_group (group_in groups) (group_in groups m)

-- a machine is the first of its group
abbrev pub is_first : List ℕ → ℕ → Bool
is_first groups m = not (any_below (group_of groups m) m)

-- two machines with programs, of different groups
abbrev pub has_program : PlanPrograms → ℕ → Bool
has_program ps m = nat_lt 0 (length (program_of ps m))

abbrev pub are_apart : List ℕ → PlanPrograms → ℕ → ℕ → Bool
are_apart groups ps m k = has_program ps m && (has_program ps k && not (group_of groups m k))

abbrev pub is_apart : List ℕ → PlanPrograms → ℕ → Bool
is_apart groups ps m = any_below (are_apart groups ps m) (length ps)

-- at least two groups have programs
abbrev pub some_are_apart : List ℕ → PlanPrograms → Bool
some_are_apart groups ps = any_below (is_apart groups ps) (length ps)

-- ---- what is said of a group, by its programs alone

abbrev pub next_name : Named → List ℕ → ℕ → ℕ → Text
next_name n groups first m =
    if nat_lt first m && group_of groups first m then codes ", " ++ machine_name n m else []

-- its machines
abbrev pub names_text : Named → List ℕ → ℕ → ℕ → Text
names_text n groups first count =
    machine_name n first ++ flat_map (next_name n groups first) (range_with_len 0 count)

-- the head of its part, by these names
abbrev pub head_of : Text → Text
head_of names = codes "apart from all others: " ++ (names ++ codes "\n")

-- a call gives or takes a plate, or lets one come or go
abbrev pub hands_over : Option Call → Bool
hands_over None = false
hands_over (Some (Claim z)) = false
hands_over (Some (Give z)) = true
hands_over (Some (Yield z)) = false
hands_over (Some (Take z)) = true
hands_over (Some (Release z)) = false
hands_over (Some (SetPose p)) = false
hands_over (Some (Inquire z)) = false
hands_over (Some Stop) = false
hands_over (Some Resume) = false
hands_over (Some (Advance p)) = true

abbrev pub hands_over_at : PlanPrograms → ℕ → ℕ → Bool
hands_over_at ps m k = hands_over (slice_get (program_of ps m) k)

abbrev pub moves_plates : PlanPrograms → ℕ → Bool
moves_plates ps m = any_below (hands_over_at ps m) (length (program_of ps m))

abbrev pub some_move_plates : PlanPrograms → Bool
some_move_plates ps = any_below (moves_plates ps) (length ps)

-- of plates a part speaks only if a program of its group moves some
abbrev pub part_plates : Named → PlanPrograms → State → Progress → Text
part_plates n ps opening plates = if some_move_plates ps then plates_if_any n ps opening plates else []

-- of machines it speaks of its own
abbrev pub if_own : (ℕ → Bool) → (ℕ → Text) → ℕ → Text
if_own ours told m = if ours m then told m else []

abbrev pub own_text : (ℕ → Bool) → Named → PlanPrograms → State → List Liveness → ℕ → Text
own_text ours n ps opening answers m = if_own ours (machine_text n ps opening answers) m

abbrev pub part_text : (ℕ → Bool) → Named → PlanPrograms → State → List Liveness → Progress → Text
part_text ours n ps opening answers plates =
    flat_map (own_text ours n ps opening answers) (range_with_len 0 (length ps))
    ++ (part_plates n ps opening plates ++ FAIRNESS.now)

-- one of its machines may starve, or its plates may rest
abbrev pub may_starve_if : Option Liveness → Bool
may_starve_if None = false
may_starve_if (Some found) = may_starve found

abbrev pub own_starves : (ℕ → Bool) → List Liveness → ℕ → Bool
own_starves ours answers m = ours m && may_starve_if (slice_get answers m)

abbrev pub part_starves : (ℕ → Bool) → Named → PlanPrograms → List Liveness → Progress → Bool
part_starves ours n ps answers plates =
    any_below (own_starves ours answers) (length ps) || (some_move_plates ps && plates_may_rest n plates)

-- what is found of it
abbrev pub IsPartScreen : ℕ → Named → PlanPrograms → State → (ℕ → Bool) → Screen → Type 0
IsPartScreen most n ps opening ours screen =
    IsScreenBy most n ps opening (part_starves ours n ps) (part_text ours n ps opening) screen

-- whether all is well by a screen, and its text; or which turns lead to no standstill
abbrev pub told_by : Screen → Result (Bool × String Global) Extent
told_by (Free text) = Ok (true, text)
told_by (Starving text) = Ok (false, text)
told_by (Standstill text) = Ok (false, text)
told_by (Unfinished extent) = Err extent

-- the text of a part without its head, and whether all is well in it
abbrev pub TellsAlone : Named → PlanPrograms → State → (ℕ → Bool) → Bool → Text → Type 0
TellsAlone n ps opening ours well text =
    TellsScreenBy n ps opening (part_starves ours n ps) (part_text ours n ps opening) well text

-- this is told; or which turns lead to no standstill, where turns lead to more situations than are explored
abbrev pub IsTold : (Bool → Text → Type 0) → (Extent → Type 0) → Result (Bool × String Global) Extent → Type 0
IsTold tells unfinished (Ok told) = tells told.0 (string_bytes told.1)
IsTold tells unfinished (Err extent) = unfinished extent

abbrev pub IsPart : ℕ → Named → PlanPrograms → State → (ℕ → Bool) → Result (Bool × String Global) Extent → Type 0
IsPart most n ps opening ours told = IsTold (TellsAlone n ps opening ours) (IsUnfinished most n ps opening) told

-- ---- what is said of all groups, of a plan or of a plant

-- What there is to tell, from an opening: of all machines together, and of some alone, whether all is well, and a text;
-- or which turns are known to lead to no standstill, where more situations than a number are found.
pub record Telling : Type 1 where
  -- what this number of machines asks
  pub count : ℕ
  pub programs : PlanPrograms
  -- the names of a group's machines, by the numbers of the groups and the group's first machine
  pub names : List ℕ → ℕ → Text
  pub all : Bool → Text → Type 0
  pub alone : (ℕ → Bool) → Bool → Text → Type 0
  pub all_unfinished : ℕ → Extent → Type 0
  pub unfinished : ℕ → (ℕ → Bool) → Extent → Type 0
  -- machines of two groups share nothing, and no groups could be smaller
  pub apart : (ℕ → ℕ) → Type 0
  pub smallest : (ℕ → ℕ) → Type 0

-- its head, and then what is said of its machines alone
abbrev pub TellsPart : Telling → List ℕ → ℕ → Bool → Text → Type 0
TellsPart v groups first well text =
    (said : Text) × v.alone (group_of groups first) well said × (text ≡ head_of (v.names groups first) ++ said)

-- one text is another one, and then a part
abbrev pub AddsPart : Telling → List ℕ → ℕ → Bool → Text → Text → Type 0
AddsPart v groups first well old new = (part : Text) × TellsPart v groups first well part × (new ≡ old ++ part)

-- what comes before, and then a part: all is well if it is in both
abbrev pub TellsBoth : (Bool → Text → Type 0) → (Bool → Text → Type 0) → Bool → Text → Type 0
TellsBoth before part well text =
    (early : Bool) × (late : Bool) × (earlier : Text) × (later : Text) × before early earlier × part late later
    × (well ≡ (early && late)) × (text ≡ earlier ++ later)

abbrev pub TellsNext : Bool → (Bool → Text → Type 0) → (Bool → Text → Type 0) → Bool → Text → Type 0
TellsNext true before part well text = TellsBoth before part well text
TellsNext false before part well text = before well text

-- the parts of the groups whose first machine is below a number, in the order of these
abbrev pub TellsParts : Telling → List ℕ → ℕ → Bool → Text → Type 0
TellsParts v groups zero well text = (well ≡ true) × (text ≡ [])
TellsParts v groups (suc m) well text =
    TellsNext (is_first groups m) (TellsParts v groups m) (TellsPart v groups m) well text

-- ---- what is printed: of each group if at least two have programs, else of all machines together

abbrev pub TellsBy : Bool → Telling → List ℕ → Bool → Text → Type 0
TellsBy true v groups well text = TellsParts v groups v.count well text
TellsBy false v groups well text = v.all well text

pub record TellsExploration (v : Telling) (well : Bool) (text : Text) : Type 0 where
  pub groups : List ℕ
  pub apart : v.apart (group_in groups)
  pub smallest : v.smallest (group_in groups)
  pub told : TellsBy (some_are_apart groups v.programs) v groups well text

-- where turns of a group alone lead to more situations than are explored, its machines are named
abbrev pub large_of : ℕ → Text → Extent → Text
large_of most names extent = codes "large: " ++ (names ++ (codes ": " ++ unfinished_words most extent))

abbrev pub TellsLargePart : ℕ → Telling → List ℕ → ℕ → Text → Type 0
TellsLargePart most v groups first words =
    (extent : Extent) × v.unfinished most (group_of groups first) extent
    × (words ≡ large_of most (v.names groups first) extent)

-- or turns of all machines together do
abbrev pub TellsLargeBy : ℕ → Bool → Telling → List ℕ → Text → Type 0
TellsLargeBy most true v groups words = (first : ℕ) × (first < v.count) × TellsLargePart most v groups first words
TellsLargeBy most false v groups words =
    (extent : Extent) × v.all_unfinished most extent × (words ≡ large_words most extent)

pub record TellsLarge (most : ℕ) (v : Telling) (words : Text) : Type 0 where
  pub groups : List ℕ
  pub apart : v.apart (group_in groups)
  pub smallest : v.smallest (group_in groups)
  pub told : TellsLargeBy most (some_are_apart groups v.programs) v groups words

-- by the groups
abbrev pub IsExplorationBy : ℕ → Bool → Telling → List ℕ → Exploration → Type 0
IsExplorationBy most apart v groups (Well text) = TellsBy apart v groups true (string_bytes text)
IsExplorationBy most apart v groups (Unwell text) = TellsBy apart v groups false (string_bytes text)
IsExplorationBy most apart v groups (Large words) = TellsLargeBy most apart v groups (string_bytes words)

-- it is these words
abbrev pub IsLarge : Text → Exploration → Type 0
IsLarge said (Well text) = ⊥
IsLarge said (Unwell text) = ⊥
IsLarge said (Large words) = string_bytes words ≡ said

abbrev pub IsExploration : ℕ → Telling → Exploration → Type 0
IsExploration most v (Well text) = TellsExploration v true (string_bytes text)
IsExploration most v (Unwell text) = TellsExploration v false (string_bytes text)
IsExploration most v (Large words) = TellsLarge most v (string_bytes words)

-- ---- of a plan

abbrev pub told_of : Named → PlanPrograms → State → Telling
told_of n ps opening = record {
  count = length ps;
  programs = ps;
  names = λ groups first. names_text n groups first (length ps);
  all = TellsScreen n ps opening;
  alone = λ ours. TellsAlone n (alone ours ps) opening ours;
  all_unfinished = λ most. IsUnfinished most n ps opening;
  unfinished = λ most ours. IsUnfinished most n (alone ours ps) opening;
  apart = AreGroups n.plan;
  smallest = AreSmallest n.plan;
}
