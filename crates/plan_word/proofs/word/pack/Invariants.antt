use Rattle.std.proofs.Common.{◌≡◌, ◌+◌, ◌<◌, ◌^◌}
use Rattle.plan_types.specs.Table.{zone_count}
use Rattle.plan_word.specs.Packed.{zone_parts, place_parts}
use Rattle.plan_word.proofs.lemmas.Shapes.{ends, places_bit}
use Rattle.plan_word.proofs.word.pack.Given as goal

-- the zones before this one are in the word
abbrev pub invariant-loop-zone : goal.invariant-loop-zone
invariant-loop-zone l = record {
  word : l.word ≡ zone_parts l.plan l.state l.zone;
  below : l.word < 2 ^ ends l.plan l.zone;
}

-- the zones are in the word, and the places before this one
abbrev pub invariant-loop-place : goal.invariant-loop-place
invariant-loop-place l = record {
  word : l.word ≡ zone_parts l.plan l.state (zone_count l.plan) + place_parts l.plan l.state l.place;
  below : l.word < 2 ^ (places_bit l.plan + l.place);
}
