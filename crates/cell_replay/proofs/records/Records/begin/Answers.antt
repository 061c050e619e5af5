use Rattle.csv.specs.Records.{fields_of}
use Rattle.cell_replay.specs.Limited.{bytes_left}
use Rattle.cell_replay.specs.Script.{is_cut_of}
use Rattle.cell_replay.proofs.RowsLeft.{left-first}
use Rattle.cell_replay.proofs.records.Records.begin.Goals as goal

pub returns-clause-left : goal.returns-clause-left
returns-clause-left g c bytes is rows has =
    let r = c.read_ahead.new.self in
    left-first (λ r. bytes_left (g.L.LentReader.left r.now.input) r.now.is_cut r.now.taken) (is_cut_of bytes) r.reader r.holds (fields_of r.held) r.is_cut rows (c.in_ok-read_ahead.ensures.found bytes is rows has)
