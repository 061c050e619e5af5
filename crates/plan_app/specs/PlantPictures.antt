-- What `plan draw --words` prints of a plant: its picture, with the word that keeps the motors of each hazard apart.
use Rattle.std.specs.Prelude.{◌≡◌, List, map, Option, is_some}
use Rattle.plan_text.specs.Names.{Text}
use Rattle.plan_document.specs.declared.resolving.ProgrammedPlan.{ProgrammedPlan}
use Rattle.plan_picture.specs.Pictures.{Found, plant_picture_text}
use Rattle.plan_app.specs.OnWords.{AreKeepers, keeper_words}
use Rattle.plan_app.specs.declared.on_words.Keeper.{Keeper}

-- what is said of a hazard: which word keeps its motors apart, and by what, or that none does
abbrev pub found_on : List ProgrammedPlan → Option Keeper → Found
found_on plans keeper = record { kept = is_some keeper; words = keeper_words plans keeper }

-- a picture of a plant, with what is said of each of its hazards
pub record IsPlantPicture (plans : List ProgrammedPlan) (text : Text) : Type 0 where
  pub keepers : List (Option Keeper)
  pub are : AreKeepers plans keepers
  pub told : text ≡ plant_picture_text plans (map (found_on plans) keepers)
