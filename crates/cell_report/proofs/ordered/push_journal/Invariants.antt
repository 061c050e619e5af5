use Rattle.cell_report.proofs.Names.{◌≡◌, ◌++◌, [], take, noted_from}
use Rattle.cell_report.proofs.Placed.{IsLatest}
use Rattle.cell_report.proofs.ordered.push_journal.Given as goal

abbrev pub invariant-loop-entry : goal.invariant-loop-entry
invariant-loop-entry l = record {
  pushed : l.all.items ≡ l.initial.all.items ++ noted_from l.machine [] (take l.entry-index l.journal);
  latest : IsLatest l.latest (take l.entry-index l.journal);
}
