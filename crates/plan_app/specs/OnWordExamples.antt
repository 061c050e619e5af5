-- What is said of the words of a plant: literal lines, a whole text; and what it means.
use Rattle.std.specs.Prelude.{◌≡◌, ℕ, ◌<◌, true, false, List, [], ◌∷◌, ◌++◌, codes, length, slice_get}
use Rattle.std.specs.Prelude.{Some, None}
use Rattle.plan_header.specs.HeaderExamples.{gates, lift}
use Rattle.plan_motors.specs.OfPlan.{hazard_at, motor_at}
use Rattle.plan_motors.specs.Poses.{NeverFromPostures}
use Rattle.plan_motors.specs.declared.exclusion.Cause.TheVariants.{Zone, Place}
use Rattle.plan_motors.specs.declared.verdict.Verdict.{Verdict}
use Rattle.plan_motors.specs.declared.verdict.Verdict.TheVariants.{Excluded, ByPoses}
use Rattle.plan_text.specs.Names.{Text}
use Rattle.plan_document.specs.declared.resolving.ProgrammedPlan.{ProgrammedPlan}
use Rattle.plan_picture.specs.Pictures.{opening}
use Rattle.plan_app.specs.OnWords.{PermitsBoth, TellsWords, apart_words, count_line, hazard_count, hazard_line}
use Rattle.plan_app.specs.OnWords.{keeper_words, lines_of, word_lines, words_text}
use Rattle.plan_app.specs.declared.on_words.Keeper.{Keeper}

abbrev pub keeper : ℕ → Verdict → Keeper
keeper word verdict = record { word = word; verdict = verdict }

abbrev pub lift_lines : Text
lift_lines =
    codes "word 0: a word of 34 bits\n" ++ codes "  2 zones: lower upper\n"
    ++ codes "  3 places: cabin ground loft\n" ++ codes "  5 poses: travel load_low unload_high unload_low load_high\n"

abbrev pub gates_lines : Text
gates_lines =
    codes "word 1: a word of 29 bits\n" ++ codes "  2 zones: east west\n"
    ++ codes "  4 places: first second quay pier\n" ++ codes "  2 poses: travel tide\n"

-- by the plans of a lift and of gates
pub record WordLines : Type 0 where
  pub one : count_line 1 ≡ codes "1 word\n"
  pub four : count_line 4 ≡ codes "4 words\n"
  pub of_lift : word_lines lift 0 ≡ lift_lines
  pub of_gates : word_lines gates 1 ≡ gates_lines
  pub no_plan : lines_of [] 0 ≡ []
  pub zone : apart_words lift (keeper 0 (Excluded (Zone 1))) ≡ codes "kept apart by upper on word 0"
  pub place : apart_words gates (keeper 12 (Excluded (Place 3))) ≡ codes "kept apart by place pier on word 12"
  pub poses : apart_words lift (keeper 1 (ByPoses 0)) ≡ codes "kept apart by the poses of lift on word 1"
  pub none : keeper_words [] None ≡ codes "NOT kept apart on any word"
  pub not_looked_at : hazard_line [] (codes "flood" ∷ []) [] 0 ≡ []
  -- a hazard that the second word keeps, and one that none does
  pub whole : (first second : ProgrammedPlan) → first.named ≡ lift → second.named ≡ gates
      → first.motors.hazard_names ≡ codes "flood" ∷ codes "both gates" ∷ []
      → words_text (first ∷ second ∷ []) (Some (keeper 1 (Excluded (Zone 1))) ∷ None ∷ [])
      ≡ codes "2 words\n" ++ (lift_lines ++ (gates_lines
      ++ (codes "flood: kept apart by west on word 1\n" ++ codes "both gates: NOT kept apart on any word\n")))

-- the motors of a hazard are never permitted both, by the plan of some word, from a start on
pub record IsKeptOnAWord (plans : List ProgrammedPlan) (hazard : ℕ) : Type 0 where
  pub word : ℕ
  pub plan : ProgrammedPlan
  pub there : slice_get plans word ≡ Some plan
  pub never : NeverFromPostures plan.named.plan opening
      (motor_at plan.motors.motors.items (hazard_at plan.motors.hazards.items hazard).first)
      (motor_at plan.motors.motors.items (hazard_at plan.motors.hazards.items hazard).second)

-- if all is well, that is so of each hazard; and else the motors of some hazard are permitted both on each word
pub record WordsTell : Type 0 where
  pub kept : (plans : List ProgrammedPlan) (text : Text) → TellsWords plans true text → (hazard : ℕ)
      → hazard < hazard_count plans → IsKeptOnAWord plans hazard
  pub unkept : (plans : List ProgrammedPlan) (text : Text) → TellsWords plans false text
      → (hazard : ℕ) × (hazard < hazard_count plans)
      × ((word : ℕ) → word < length plans → PermitsBoth plans hazard word)
