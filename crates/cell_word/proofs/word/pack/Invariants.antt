use Rattle.cell_word.proofs.Names.{◌≡◌, ◌+◌, ◌*◌, ◌<◌, ◌^◌, take, map, ◌++◌, flat_map, word_of, fields_at, place_field}
use Rattle.cell_types.specs.Everything.{all_zones, all_places}
use Rattle.cell_word.proofs.word.pack.Given as goal

-- the zones before this one are in the word
abbrev pub invariant-loop-zone : goal.invariant-loop-zone
invariant-loop-zone l = record {
  word : l.word ≡ word_of (flat_map (fields_at l.state) (take l.zone-index all_zones));
  below : l.word < 2 ^ (5 * l.zone-index);
}

-- the zones are in the word, and the places before this one
abbrev pub invariant-loop-place : goal.invariant-loop-place
invariant-loop-place l = record {
  word : l.word ≡ word_of (flat_map (fields_at l.state) all_zones ++ map (place_field l.state) (take l.place-index all_places));
  below : l.word < 2 ^ (30 + l.place-index);
}
