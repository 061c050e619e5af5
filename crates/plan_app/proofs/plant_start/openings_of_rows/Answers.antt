use Rattle.std.proofs.Common.{◌≡◌, ◌∙◌, ap, sym, true, false, rules}
use Rattle.csv.specs.Records.{fields_of}
use Rattle.csv_rows.proofs.lemmas.RowsTaken.{takes-none, takes-some}
use Rattle.plan_app.specs.PlantStarts.{rows_openings, tables_of}
use Rattle.plan_app.proofs.plant_start.openings_of_rows.Goals as goal

pub returns-then-not-branch : goal.returns-then-not-branch
returns-then-not-branch g c = λ rows has.
    let found : c.in_ok-read_row.field-0 ≡ false = search rules in
    let none = takes-none g.R.Read.remaining c.read_row.new.reader c.in_ok-read_row.field-0 (fields_of c.read_row.new.row) rows found (c.in_ok-read_row.ensures.found rows has) in
    sym (ap (rows_openings c.args.plant.now.words (tables_of c.args.plant.now.plans.items)) none)

pub returns : goal.returns
returns g c = λ rows has.
    let found : c.in_ok-read_row.field-0 ≡ true = search rules in
    let some = takes-some g.R.Read.remaining c.read_row.new.reader c.in_ok-read_row.field-0 (fields_of c.read_row.new.row) rows found (c.in_ok-read_row.ensures.found rows has) in
    c.in_ok-openings_of_row.ensures ∙ sym (ap (rows_openings c.args.plant.now.words (tables_of c.args.plant.now.plans.items)) some.1)
