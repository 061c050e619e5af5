use Rattle.cell_types.specs.declared.answer.Answer.TheVariants.{Done}
use Rattle.cell_rules.specs.Seen.{event}
use Rattle.interlock_tests.proofs.interlock.receipts.a_letter_is_heard.Given as goal

abbrev pub ghosts-two_threads : goal.ghosts-two_threads
ghosts-two_threads g a = record { table = a.interlock.now.table; event = event a.first.0.machine a.first.1 Done }
