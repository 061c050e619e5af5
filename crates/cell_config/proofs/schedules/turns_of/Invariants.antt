use Rattle.cell_config.proofs.Names.{◌≡◌, true, take, filter_map, list_all, is_letter, turn_of}
use Rattle.cell_config.proofs.schedules.turns_of.Given as goal

abbrev pub invariant-letters : goal.invariant-letters
invariant-letters l = record {
  turns : l.turns.items ≡ filter_map turn_of (take l.letter-index l.letter-items);
  letters : list_all is_letter (take l.letter-index l.letter-items) ≡ true;
}
