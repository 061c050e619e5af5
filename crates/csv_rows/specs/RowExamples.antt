-- The records of literal texts, and what is said of a plain reader and of a read, in other words.
use Rattle.std.specs.Prelude.{◌≡◌, ◌∷◌, ◌+◌, ℕ, true, false, List, [], length, Some, codes}
use Rattle.csv.specs.Machine.{ends_at_end}
use Rattle.csv.specs.Reading.{Ready, default_config, records_from, source_of}
use Rattle.csv.specs.declared.parser.State.TheVariants.{StartRecord, InField}
use Rattle.csv.specs.declared.reader.Reader.{Reader}
use Rattle.csv.specs.declared.reader.Trim.TheVariants as trim
use Rattle.csv_rows.specs.Rows.{HasRows, IsPlain, Row, TakesRow, rows_from}

-- a reader of bytes that are known
abbrev pub Known : Type 0
Known = Reader (List ℕ)

pub record RowsAreMet : Type 0 where
  -- records of two fields, of one and of three; commas, an empty line, and no end of the last line
  pub records : rows_from StartRecord (codes "a,bc\nd;e\n\n,f,90") ≡ (codes "a" ∷ codes "bc" ∷ [])
      ∷ (codes "d;e" ∷ []) ∷ ([] ∷ codes "f" ∷ codes "90" ∷ []) ∷ []
  -- a comma and a line feed in quotes are of the field, two quotes there are one, and a return may end a line
  pub quoted : rows_from StartRecord (codes "\"a,b\nc\"\"d\",e\r\nf") ≡ (codes "a,b\nc\"d" ∷ codes "e" ∷ [])
      ∷ (codes "f" ∷ []) ∷ []
  -- blanks are kept, and no line is a comment
  pub blanks : rows_from StartRecord (codes " a , b\n#c\n") ≡ (codes " a " ∷ codes " b" ∷ []) ∷ (codes "#c" ∷ []) ∷ []
  pub within_field : rows_from InField (codes "a\nb") ≡ (codes "a" ∷ []) ∷ (codes "b" ∷ []) ∷ []
  pub none : rows_from StartRecord [] ≡ []
  pub plain : (reader : Known) → IsPlain reader
      → (reader.trim ≡ trim.None) × Ready reader × (reader.config ≡ default_config) × (reader.flexible ≡ true)
  pub is_plain : (reader : Known) → reader.trim ≡ trim.None → Ready reader → reader.config ≡ default_config
      → reader.flexible ≡ true → IsPlain reader
  -- the records left are those of the bytes left
  pub left : (reader : Known) (rows : List Row) → HasRows Some reader rows
      → (bytes : List ℕ) × (source_of Some reader ≡ Some bytes) × (ends_at_end reader.state ≡ false)
      × (rows ≡ records_from default_config (length bytes + 1) reader.state bytes)
  pub is_left : (reader : Known) (bytes : List ℕ) → source_of Some reader ≡ Some bytes
      → ends_at_end reader.state ≡ false → HasRows Some reader (rows_from reader.state bytes)
  -- a read that found a record took the first one, and one that found none had none left
  pub found : (reader : Known) (row : Row) (rows : List Row) → TakesRow Some reader true row rows
      → (rest : List Row) × (rows ≡ row ∷ rest) × HasRows Some reader rest
  pub is_found : (reader : Known) (row : Row) (rest : List Row) → HasRows Some reader rest
      → TakesRow Some reader true row (row ∷ rest)
  pub is_none : (reader : Known) (row : Row) → TakesRow Some reader false row []
  pub none_found : (reader : Known) (row next : Row) (rows : List Row)
      → ¬ TakesRow Some reader false row (next ∷ rows)
  pub nothing_found : (reader : Known) (row : Row) → ¬ TakesRow Some reader true row []
