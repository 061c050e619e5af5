-- The records that a reader of records has left.
use Rattle.std.specs.Prelude.{ℕ, ◌≡◌, ◌∷◌, ◌+◌, Bool, true, false, List, [], length, Option, Some}
use Rattle.csv.specs.Machine.{ends_at_end}
use Rattle.csv.specs.Reading.{Ready, default_config, is_flexible, reader_config, reader_state, reader_trim}
use Rattle.csv.specs.Reading.{records_from, source_of}
use Rattle.csv.specs.declared.parser.State.{State}
use Rattle.csv.specs.declared.reader.Reader.{Reader}
use Rattle.csv.specs.declared.reader.Trim.TheVariants as trim

-- a record is its fields
abbrev pub Row : Type 0
Row = List (List ℕ)

-- it gives records of any length as they are, the first one too
abbrev pub IsPlain : {R : Type 0} → Reader R → Type 0
IsPlain reader =
    (reader_trim reader ≡ trim.None) × Ready reader × (reader_config reader ≡ default_config)
    × (is_flexible reader ≡ true)

-- the records of bytes from a state of the machine
abbrev pub rows_from : State → List ℕ → List Row
rows_from state bytes = records_from default_config (length bytes + 1) state bytes

-- the reader's bytes are known, it is between records, and these are the records that it has left
abbrev pub HasRows : {R : Type 0} → (R → Option (List ℕ)) → Reader R → List Row → Type 0
HasRows remaining reader rows =
    (bytes : List ℕ) × (source_of remaining reader ≡ Some bytes)
    × (ends_at_end (reader_state reader) ≡ false) × (rows ≡ rows_from (reader_state reader) bytes)

-- a read found the first of these records, and the reader has the others left; or there is none
abbrev pub TakesRow : {R : Type 0} → (R → Option (List ℕ)) → Reader R → Bool → Row → List Row → Type 0
TakesRow remaining reader true row rows = (rest : List Row) × (rows ≡ row ∷ rest) × HasRows remaining reader rest
TakesRow remaining reader false row rows = rows ≡ []
