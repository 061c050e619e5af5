use Rattle.csv.specs.Records.{fields_of}
use Rattle.csv_rows.proofs.lemmas.RowsTaken.{takes-row}
use Rattle.csv_rows.proofs.reading.read_row.Goals as goal

pub returns-in-Ok-clause-found : goal.returns-in-Ok-clause-found
returns-in-Ok-clause-found g c rows has =
    let (trim, ready, config, flexible) = c.requires in
    takes-row g.R.Read.remaining c.args.reader.now c.read_byte_record.new.self c.in-Ok.found (fields_of c.read_byte_record.new.row) rows config (c.in-Ok.ensures.reads trim ready) has
