-- The examples of `plant_pictures_are_told`, and the law `plant_pictures_tell`.
use Rattle.std.proofs.Common.{◌≡◌, ◌∙◌, ◌+◌, ◌<◌, ◌∷◌, get_or, map, slice_get, is_some, option_map, Option, Some, None, ap, refl, subst, sym}
use Rattle.std.proofs.lemmas.Option.{slice_get-get_or, slice_get-map}
use Rattle.std.specs.Fmt.{digits}
use Rattle.plan_text.specs.Names.{Text}
use Rattle.plan_picture.specs.Elements.{slanted}
use Rattle.plan_picture.specs.PictureLaws.{AllIsDrawn, Has}
use Rattle.plan_picture.specs.Scenes.{hazard_column, plant_scene}
use Rattle.plan_picture.specs.Pictures.{found_class}
use Rattle.plan_app.specs.OnWords.{keeper_words}
use Rattle.plan_app.specs.PlantPictures.{found_on}
use Rattle.plan_app.specs.PlantPictureExamples.{PlantPicturesAreTold, PlantPicturesTell}
use Rattle.plan_app.specs.declared.on_words.Keeper.{Keeper}

pub plant-pictures-told : PlantPicturesAreTold
unfolding digits
plant-pictures-told = λ first second one two. record {
  second_word = rw two refl;
  first_word = rw one refl;
  no_word = refl;
}

-- each hazard has what is said by its own keeper
pub plant-pictures-tell : AllIsDrawn → PlantPicturesTell
plant-pictures-tell drawn first later text is hazard few named =
    let plans = first ∷ later in
    let keeper : Option Keeper = get_or is.keepers hazard None in
    let there : slice_get is.keepers hazard ≡ Some keeper =
    slice_get-get_or is.keepers hazard None (subst (λ n. hazard < n) (sym is.are.count) few) in
    let found : slice_get (map (found_on plans) is.keepers) hazard ≡ Some (found_on plans keeper) =
    slice_get-map (found_on plans) is.keepers hazard ∙ ap (option_map (found_on plans)) there in
    let said : Text =
    slanted (found_class (is_some keeper)) (hazard_column (plant_scene first plans) hazard + 34) 220 13 280 (keeper_words plans keeper) in
    record {
      keeper = keeper;
      is = is.are.each hazard keeper there;
      drawn = subst (λ t. Has t said) (sym is.told)
          (drawn.hazards.found (plant_scene first plans) (map (found_on plans) is.keepers) hazard (found_on plans keeper) named found);
    }
