use Rattle.std.proofs.Common.{refl, arith}
use Rattle.plan_motors.specs.Mask.{mask_of, pattern_of}
use Rattle.plan_motors.proofs.examples.masks_are_right.Goals as goal

pub returns : goal.returns
unfolding mask_of pattern_of
returns c = record { ram_mask = refl; ram_pattern = refl; arm_mask = refl; arm_pattern = refl; loading_mask = refl; loading_pattern = refl; heater_mask = refl; heater_pattern = refl; upper_mask = refl; upper_pattern = refl; choosy_mask = refl; host_pattern = refl; guest_pattern = refl; stranger_pattern = refl; eighth_mask = refl; sixteenth_mask = refl; chain_pattern = refl; rack_mask = refl; rack_pattern = refl; shut_rack = refl; shut_rack_mask = refl; roads_mask = refl; roads_pattern = refl; never_mask = refl; never_pattern = refl; is_mask = record { mask = refl; pattern = refl }; other_mask = λ k. absurd (omega (arith, k.mask)); other_pattern = λ k. absurd (omega (arith, k.pattern)); allowed = refl; not_allowed = refl; not_moving = refl }
