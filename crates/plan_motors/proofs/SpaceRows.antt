-- Literal motors of a press with two robots.
use Rattle.std.proofs.Common.{◌≡◌, ℕ, zero, suc, ◌<◌, true, false, refl, arith, IsTrue}
use Rattle.plan_types.specs.SpaceExamples.{robots_table}
use Rattle.plan_rules.specs.State.{zone_at, is_full}
use Rattle.plan_word.specs.SpaceExamples.{given_on}
use Rattle.plan_motors.specs.declared.exclusion.Cause.TheVariants.{Zone}
use Rattle.plan_motors.specs.declared.exclusion.Exclusion.TheVariants.{Excluded}
use Rattle.plan_motors.specs.Motor.{need_of, place_need, meets, meets_place, Permits}
use Rattle.plan_motors.specs.Decided.{IsShown}
use Rattle.plan_motors.specs.Mask.{mask_of, pattern_of}
use Rattle.plan_motors.specs.SpaceExamples.{loading, unloading, SpaceCauses, SpaceMasks, SpacePermits, SpaceFaults}
use Rattle.plan_motors.proofs.lemmas.Excluding.{cause_shown, never_both}

arms_shown : IsShown robots_table loading unloading (Excluded (Zone 1))
arms_shown = cause_shown robots_table loading unloading (Zone 1) refl

pub space_causes : SpaceCauses
space_causes = record {
  arms = refl;
  arms_in_turn = refl;
  shown = arms_shown;
  never = never_both robots_table loading unloading (Zone 1) arms_shown;
  arm_and_ram = refl;
  moves_alone = refl;
  ram_and_pump = refl;
  arm_and_pump = refl;
  loader_and_pump = refl;
  ram_alone = refl;
  both_sides = refl;
  loader_alone = refl;
}

pub space_masks : SpaceMasks
unfolding mask_of pattern_of
space_masks = record {
  loading_mask = refl;
  loading_pattern = refl;
  unloading_mask = refl;
  unloading_pattern = refl;
  offering_mask = refl;
  offering_pattern = refl;
  pump_mask = refl;
  pump_pattern = refl;
  stranger_mask = refl;
  stranger_pattern = refl;
  shuttle_mask = refl;
  shuttle_pattern = refl;
  never_mask = refl;
  never_pattern = refl;
}

takes : Permits robots_table given_on unloading
takes = record { zones = zones; places = places }
  where
    zones : (z : ℕ) → z < 2 → IsTrue (meets 2 (need_of unloading z) (zone_at given_on z))
    zones zero l = refl
    zones (suc zero) l = refl
    zones (suc (suc z)) l = absurd (omega arith)

    places : (p : ℕ) → p < 3 → IsTrue (meets_place (place_need unloading p) (is_full given_on p))
    places zero l = refl
    places (suc zero) l = refl
    places (suc (suc zero)) l = refl
    places (suc (suc (suc p))) l = absurd (omega arith)

pub space_permits : SpacePermits
space_permits = record {
  waits = λ k. let e : false ≡ true = k.zones 1 (omega arith) in cc;
  offers_not = λ k. let e : false ≡ true = k.zones 1 (omega arith) in cc;
  takes = takes;
  loader_waits = λ k. let e : false ≡ true = k.zones 0 (omega arith) in cc;
}

pub space_faults : SpaceFaults
space_faults = record { none = refl; foreign = refl; never = refl }
