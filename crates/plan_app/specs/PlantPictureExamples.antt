-- What the picture of a plant says of hazards: literal ones, by a lift and by gates; and of each hazard in any plant.
use Rattle.std.specs.Prelude.{◌≡◌, ℕ, ◌+◌, ◌<◌, List, [], ◌∷◌, ◌++◌, codes, length, Option, Some, None, is_some}
use Rattle.plan_header.specs.HeaderExamples.{gates, lift}
use Rattle.plan_motors.specs.declared.exclusion.Cause.TheVariants.{Zone}
use Rattle.plan_motors.specs.declared.verdict.Verdict.TheVariants.{Excluded, ByPoses}
use Rattle.plan_text.specs.Names.{Text}
use Rattle.plan_document.specs.declared.resolving.ProgrammedPlan.{ProgrammedPlan}
use Rattle.plan_picture.specs.Elements.{slanted}
use Rattle.plan_picture.specs.PictureExamples.{two_words}
use Rattle.plan_picture.specs.PictureLaws.{Has}
use Rattle.plan_picture.specs.Pictures.{found_class, found_part}
use Rattle.plan_picture.specs.Scenes.{hazard_column, plant_scene}
use Rattle.plan_app.specs.OnWords.{IsKeptBy, hazard_count, keeper_words}
use Rattle.plan_app.specs.OnWordExamples.{keeper}
use Rattle.plan_app.specs.PlantPictures.{IsPlantPicture, found_on}
use Rattle.plan_app.specs.declared.on_words.Keeper.{Keeper}

-- what stands at the first hazard of a plant whose words are those of a lift and of gates
abbrev pub said_of : ProgrammedPlan → ProgrammedPlan → Option Keeper → Text
said_of first second keeper = found_part two_words 0 (found_on (first ∷ second ∷ []) keeper)

pub record HazardsAreSaid (first second : ProgrammedPlan) : Type 0 where
  -- that word 1 keeps apart, that word 0 does, and that none does
  pub second_word : said_of first second (Some (keeper 1 (Excluded (Zone 1))))
      ≡ codes "<text class=\"kept\" transform=\"translate(614 220) rotate(-45)\" font-size=\"13\">"
      ++ codes "kept apart by west on word 1</text>\n"
  pub first_word : said_of first second (Some (keeper 0 (ByPoses 0)))
      ≡ codes "<text class=\"kept\" transform=\"translate(614 220) rotate(-45)\" font-size=\"11\">"
      ++ codes "kept apart by the poses of lift on word 0</text>\n"
  pub no_word : said_of first second None
      ≡ codes "<text class=\"unkept\" transform=\"translate(614 220) rotate(-45)\" font-size=\"13\">"
      ++ codes "NOT kept apart on any word</text>\n"

abbrev pub PlantPicturesAreTold : Type 0
PlantPicturesAreTold =
    (first second : ProgrammedPlan) → first.named ≡ lift → second.named ≡ gates → HazardsAreSaid first second

-- in the column of a hazard stands which word keeps its motors apart, and by what; or that none does
pub record IsSaidAt (plans : List ProgrammedPlan) (text : Text) (hazard column : ℕ) : Type 0 where
  pub keeper : Option Keeper
  pub is : IsKeptBy plans hazard keeper
  pub drawn :
      Has text (slanted (found_class (is_some keeper)) (column + 34) 220 13 280 (keeper_words plans keeper))

-- that is so of each hazard that has a name
abbrev pub PlantPicturesTell : Type 0
PlantPicturesTell =
    (first : ProgrammedPlan) (later : List ProgrammedPlan) (text : Text) → IsPlantPicture (first ∷ later) text
    → (hazard : ℕ) → hazard < hazard_count (first ∷ later) → hazard < length first.motors.hazard_names
    → IsSaidAt (first ∷ later) text hazard (hazard_column (plant_scene first (first ∷ later)) hazard)
