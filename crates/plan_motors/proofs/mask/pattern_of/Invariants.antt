use Rattle.std.proofs.Common.{◌≡◌, ◌+◌, ◌<◌, ◌^◌}
use Rattle.plan_types.specs.Table.{zone_count}
use Rattle.plan_motors.specs.Mask.{zone_patterns, place_patterns}
use Rattle.plan_word.proofs.lemmas.Shapes.{ends, places_bit}
use Rattle.plan_motors.proofs.mask.pattern_of.Given as goal

-- the zones before this one are in the pattern
abbrev pub invariant-loop-zone : goal.invariant-loop-zone
invariant-loop-zone l = record {
  pattern : l.pattern ≡ zone_patterns l.plan l.motor l.zone;
  below : l.pattern < 2 ^ ends l.plan l.zone;
}

-- the zones are in the pattern, and the places before this one
abbrev pub invariant-loop-place : goal.invariant-loop-place
invariant-loop-place l = record {
  pattern : l.pattern ≡ zone_patterns l.plan l.motor (zone_count l.plan) + place_patterns l.plan l.motor l.place;
  below : l.pattern < 2 ^ (places_bit l.plan + l.place);
}
