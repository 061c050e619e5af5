use Rattle.std.proofs.Common.{◌≡◌, true, rules}
use Rattle.csv.specs.Records.{fields_of}
use Rattle.cell_replay.specs.Limited.{bytes_left}
use Rattle.cell_replay.specs.Script.{is_cut_of}
use Rattle.cell_replay.proofs.RowsLeft.{gives-row}
use Rattle.cell_replay.proofs.records.Records.read_ahead.Goals as goal

pub returns-in-Some-clause-found : goal.returns-in-Some-clause-found
returns-in-Some-clause-found g c bytes is rows has =
    gives-row (λ r. bytes_left (g.L.LentReader.left r.now.input) r.now.is_cut r.now.taken) c.read_row.new.reader c.in_ok-self.field-0 (fields_of c.read_row.new.row) rows c.in-Some.is_cut (is_cut_of bytes) (c.in_ok-self.ensures.found rows has)
    (λ _. c.is_cut.ensures c.in-Some.is_cut c.in-Some.is bytes is)

pub returns-else-not-self-clause-found : goal.returns-else-not-self-clause-found
returns-else-not-self-clause-found g c bytes is rows has =
    let found : c.in_ok-self.field-0 ≡ true = search rules in
    gives-row (λ r. bytes_left (g.L.LentReader.left r.now.input) r.now.is_cut r.now.taken) c.read_row.new.reader c.in_ok-self.field-0 (fields_of c.read_row.new.row) rows c.args.self.now.is_cut (is_cut_of bytes) (c.in_ok-self.ensures.found rows has)
    (λ none. absurd (cc))
