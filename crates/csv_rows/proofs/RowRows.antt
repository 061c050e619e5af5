-- The records of the example texts, and what is said of the example readers.
use Rattle.std.proofs.Common.{◌≡◌, true, false, List, [], ◌∷◌, Some, refl}
use Rattle.csv.specs.Machine.{next_record}
use Rattle.csv.specs.Reading.{records_from}
use Rattle.csv_rows.specs.Rows.{Row, TakesRow}
use Rattle.csv_rows.specs.RowExamples.{Known, RowsAreMet}

nothing_found : (reader : Known) (row : Row) → TakesRow Some reader true row [] → ⊥
nothing_found reader row h = let none : [] ≡ row ∷ h.0 = h.1 in cc

none_found : (reader : Known) (row next : Row) (rows : List Row) → TakesRow Some reader false row (next ∷ rows) → ⊥
none_found reader row next rows h = let none : next ∷ rows ≡ [] = h in cc

pub rows_are_met : RowsAreMet
unfolding records_from next_record
rows_are_met =
    record {
      records = refl;
      quoted = refl;
      blanks = refl;
      within_field = refl;
      none = refl;
      plain = λ reader h. h;
      is_plain = λ reader trims ready config flexible. (trims, ready, config, flexible);
      left = λ reader rows h. h;
      is_left = λ reader bytes source between. (bytes, source, between, refl);
      found = λ reader row rows h. h;
      is_found = λ reader row rest h. (rest, refl, h);
      is_none = λ reader row. refl;
      none_found = none_found;
      nothing_found = nothing_found;
    }
