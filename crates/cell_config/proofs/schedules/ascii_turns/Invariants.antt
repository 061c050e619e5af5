use Rattle.cell_config.proofs.Names.{◌≡◌, ◌<◌, ℕ, None, length, slice_index_or, turn_of}
use Rattle.cell_config.proofs.schedules.ascii_turns.Given as goal

abbrev pub invariant-loop-code : goal.invariant-loop-code
invariant-loop-code l = record {
  codes : length l.turns ≡ 128;
  turns : (code : ℕ) → code < l.code → slice_index_or l.turns code None ≡ turn_of code;
}
