-- The examples of `modules_are_met`.
use Rattle.std.proofs.Common.{refl}
use Rattle.std.specs.Fmt.{digits}
use Rattle.plan_motors.specs.Mask.{mask_of, pattern_of}
use Rattle.plan_header.specs.Modules.{module_text}
use Rattle.plan_header.specs.ModuleExamples.{ModuleLines, WholeModules}

pub module-lines : ModuleLines
unfolding digits mask_of pattern_of
module-lines = record {
  zones = refl;
  none = refl;
  third = refl;
  pose = refl;
  right_pose = refl;
  motor = refl;
  second = refl;
}

pub whole-modules : WholeModules
unfolding digits module_text
whole-modules = record { whole = refl; with_motors = refl }
