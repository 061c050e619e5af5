use Rattle.cell_report.proofs.Names.{arith, journal_of}
use Rattle.cell_report.proofs.Own.{all_length}
use Rattle.cell_report.proofs.audits.room.Goals as goal

pub returns : goal.returns
returns c = omega (arith, all_length (journal_of c.args.journals.now))
