use Rattle.cell_replay.proofs.replay_script.replay.Given as goal

abbrev pub ghosts-replay_lent : goal.ghosts-replay_lent
ghosts-replay_lent g a = record {
  bytes = g.R.Read.remaining a.input.now;
  reader_loan = a.input.ghost_name;
  written = g.W.Write.contents a.output.now;
  writer_loan = a.output.ghost_name;
}
