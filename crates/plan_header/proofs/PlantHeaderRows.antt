-- The examples of `plant_headers_are_met`.
use Rattle.std.proofs.Common.{refl}
use Rattle.std.specs.Fmt.{digits}
use Rattle.plan_motors.specs.Mask.{mask_of, pattern_of}
use Rattle.plan_header.specs.PlantHeaders.{plant_header_text}
use Rattle.plan_header.specs.PlantHeaderExamples.{PlantLines, PlantTexts}

pub plant-lines : PlantLines
unfolding digits mask_of pattern_of
plant-lines = record {
  zones = refl;
  pose = refl;
  parties = refl;
  last = refl;
  masks = refl;
  one_bit = refl;
  second_guest = refl;
  names = refl;
  programs = refl;
  twice = refl;
}

pub plant-texts : PlantTexts
unfolding digits plant_header_text
plant-texts = record {
  guard = refl;
  zones = refl;
  words = refl;
  bits = refl;
  bytes = refl;
  may_run = refl;
  two = λ first second. refl;
  head_of_two = refl;
}
