-- What `plan words` prints of a plant: what each word has, and which word keeps the motors of each hazard apart.
use Rattle.std.specs.Prelude.{◌≡◌, ℕ, ◌<◌, Bool, true, false, is_some, List, [], ◌++◌, codes, flat_map, length}
use Rattle.std.specs.Prelude.{slice_get, Option, Some, None, IsTrue, string_bytes}
use Rattle.std.specs.Fmt.{decimal}
use Rattle.std.specs.List.{list_all, range_with_len}
use Rattle.plan_motors.specs.OfPlan.{hazard_at}
use Rattle.plan_motors.specs.Verdict.{is_never}
use Rattle.plan_motors.specs.declared.verdict.Verdict.{Verdict}
use Rattle.plan_text.specs.Named.{Named}
use Rattle.plan_text.specs.Names.{Text, name_in}
use Rattle.plan_word.specs.Layout.{counts_of}
use Rattle.plan_document.specs.declared.resolving.ProgrammedPlan.{ProgrammedPlan}
use Rattle.plan_picture.specs.Pictures.{IsVerdictOf, verdict_words}
use Rattle.plan_app.specs.Reports.{names_line, width_line}
use Rattle.plan_app.specs.Words.{counted}
use Rattle.plan_app.specs.declared.on_words.Keeper.{Keeper}
use Rattle.plan_app.specs.declared.on_words.Listing.{Listing}
use Rattle.plan_app.specs.declared.on_words.Listing.TheVariants.{Kept, Unkept}

-- ---- which word keeps motors apart

-- what is shown of the motors of a hazard, by the plan of one word
abbrev pub IsVerdictOn : ProgrammedPlan → ℕ → Verdict → Type 0
IsVerdictOn plan hazard v =
    IsVerdictOf plan.named.plan plan.motors.motors.items (hazard_at plan.motors.hazards.items hazard) v

-- on this word a state permits both
pub record PermitsBoth (plans : List ProgrammedPlan) (hazard word : ℕ) : Type 0 where
  pub plan : ProgrammedPlan
  pub there : slice_get plans word ≡ Some plan
  pub verdict : Verdict
  pub shown : IsVerdictOn plan hazard verdict
  pub unkept : is_never verdict ≡ false

-- the first word that keeps them apart, and by what
pub record IsKeeper (plans : List ProgrammedPlan) (hazard : ℕ) (keeper : Keeper) : Type 0 where
  pub plan : ProgrammedPlan
  pub there : slice_get plans keeper.word ≡ Some plan
  pub shown : IsVerdictOn plan hazard keeper.verdict
  pub keeps : IsTrue (is_never keeper.verdict)
  pub first : (word : ℕ) → word < keeper.word → PermitsBoth plans hazard word

-- or there is none
abbrev pub IsKeptBy : List ProgrammedPlan → ℕ → Option Keeper → Type 0
IsKeptBy plans hazard (Some keeper) = IsKeeper plans hazard keeper
IsKeptBy plans hazard None = (word : ℕ) → word < length plans → PermitsBoth plans hazard word

-- the hazards stand in the plan of each word
abbrev pub hazards_in : Option ProgrammedPlan → ℕ
hazards_in None = 0
hazards_in (Some plan) = length plan.motors.hazards.items

abbrev pub hazard_count : List ProgrammedPlan → ℕ
hazard_count plans = hazards_in (slice_get plans 0)

pub record AreKeepers (plans : List ProgrammedPlan) (keepers : List (Option Keeper)) : Type 0 where
  pub count : length keepers ≡ hazard_count plans
  pub each : (hazard : ℕ) (keeper : Option Keeper) → slice_get keepers hazard ≡ Some keeper
      → IsKeptBy plans hazard keeper

-- ---- words

abbrev pub count_line : ℕ → Text
count_line count = counted count (codes "word") ++ codes "\n"

abbrev pub indented : Text → List Text → Text
indented kind names = codes "  " ++ names_line kind names

abbrev pub number_words : ℕ → Text
number_words word = codes "word " ++ (decimal word ++ codes ": ")

abbrev pub named_lines : Named → Text
named_lines n =
    indented (codes "zone") n.zones ++ (indented (codes "place") n.places ++ indented (codes "pose") n.poses)

-- `word 0: a word of 29 bits`, and the names of what it has
abbrev pub word_lines : Named → ℕ → Text
word_lines n word = number_words word ++ (width_line (counts_of n.plan) ++ named_lines n)

abbrev pub lines_if : Option ProgrammedPlan → ℕ → Text
lines_if None word = []
lines_if (Some plan) word = word_lines plan.named word

abbrev pub lines_of : List ProgrammedPlan → ℕ → Text
lines_of plans word = lines_if (slice_get plans word) word

-- ---- hazards

-- `kept apart by interior on word 1`
abbrev pub apart_words : Named → Keeper → Text
apart_words n keeper = verdict_words n keeper.verdict ++ (codes " on word " ++ decimal keeper.word)

abbrev pub words_by : Option ProgrammedPlan → Keeper → Text
words_by None keeper = []
words_by (Some plan) keeper = apart_words plan.named keeper

abbrev pub keeper_words : List ProgrammedPlan → Option Keeper → Text
keeper_words plans None = codes "NOT kept apart on any word"
keeper_words plans (Some keeper) = words_by (slice_get plans keeper.word) keeper

abbrev pub keeper_line : List ProgrammedPlan → List Text → ℕ → Option Keeper → Text
keeper_line plans titles hazard keeper =
    (name_in titles hazard ++ codes ": ") ++ (keeper_words plans keeper ++ codes "\n")

abbrev pub line_if : List ProgrammedPlan → List Text → ℕ → Option (Option Keeper) → Text
line_if plans titles hazard None = []
line_if plans titles hazard (Some keeper) = keeper_line plans titles hazard keeper

abbrev pub hazard_line : List ProgrammedPlan → List Text → List (Option Keeper) → ℕ → Text
hazard_line plans titles keepers hazard = line_if plans titles hazard (slice_get keepers hazard)

abbrev pub hazard_lines : List ProgrammedPlan → List Text → List (Option Keeper) → Text
hazard_lines plans titles keepers = flat_map (hazard_line plans titles keepers) (range_with_len 0 (length titles))

-- by the titles in the plan of the first word
abbrev pub titled_lines : List ProgrammedPlan → Option ProgrammedPlan → List (Option Keeper) → Text
titled_lines plans None keepers = []
titled_lines plans (Some plan) keepers = hazard_lines plans plan.motors.hazard_names keepers

-- ---- the text

unfoldable pub words_text : List ProgrammedPlan → List (Option Keeper) → Text
words_text plans keepers =
    count_line (length plans)
    ++ (flat_map (lines_of plans) (range_with_len 0 (length plans)) ++ titled_lines plans (slice_get plans 0) keepers)

-- which word keeps the motors of each hazard apart; and whether each hazard has one
pub record TellsWords (plans : List ProgrammedPlan) (kept : Bool) (text : Text) : Type 0 where
  pub keepers : List (Option Keeper)
  pub are : AreKeepers plans keepers
  pub right : list_all is_some keepers ≡ kept
  pub told : text ≡ words_text plans keepers

abbrev pub IsListing : List ProgrammedPlan → Listing → Type 0
IsListing plans (Kept text) = TellsWords plans true (string_bytes text)
IsListing plans (Unkept text) = TellsWords plans false (string_bytes text)
