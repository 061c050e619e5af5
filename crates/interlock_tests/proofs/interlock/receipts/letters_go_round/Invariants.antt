use Rattle.interlock_tests.proofs.interlock.receipts.letters_go_round.Given as goal

abbrev pub ghosts-three_threads : goal.ghosts-three_threads
ghosts-three_threads g a = record { table = a.interlock.now.table }
