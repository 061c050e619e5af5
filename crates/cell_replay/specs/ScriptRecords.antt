-- The records of a script that a struct of records has left, and what is written for them.
use Rattle.std.specs.Prelude.{ℕ, ◌≡◌, Bool, List, take, Option, Some, Result}
use Rattle.csv.specs.Reading.{default_config, records, strip_bom}
use Rattle.csv.specs.Records.{fields_of}
use Rattle.csv.specs.Records.{Row as ByteRow}
use Rattle.cell_rules.specs.Names.{ModelState}
use Rattle.csv_rows.specs.Rows.{HasRows, IsPlain, Row}
use Rattle.csv_rows.specs.declared.script_end.Outcome.{Outcome}
use Rattle.cell_replay.specs.Held.{left_to}
use Rattle.cell_replay.specs.Records.{GivesRow, RowsLeft}
use Rattle.cell_replay.specs.Script.{byte_limit, is_cut_of, rows_lines, rows_outcome}
use Rattle.cell_replay.specs.Writing.{Writes, lines_left, outcome_left}
use Rattle.cell_replay.specs.declared.lent.LentReader.{Ghosts as Lent}
use Rattle.cell_replay.specs.declared.lent.Origin.{Ghosts as Known}
use Rattle.cell_replay.specs.declared.records.Records.{Records}
use Rattle.cell_replay.specs.declared.fault.ReplayFault.{ReplayFault}
use Rattle.cell_replay.specs.declared.version.Version.{Version}

-- the records in the bytes of a script that are used
abbrev pub records_used : List ℕ → List Row
records_used bytes = records default_config (strip_bom (take byte_limit bytes))

-- the reader of records is plain
abbrev pub ArePlain : {L K : Type 0} {lent : Lent L} {known : Known K} → Records L K lent known → Type 0
ArePlain records = IsPlain records.reader

-- the record that was found last
abbrev pub row_of : {L K : Type 0} {lent : Lent L} {known : Known K} → Records L K lent known → ByteRow
row_of records = records.row

-- whether it is noted that the script is cut
abbrev pub is_noted_cut : {L K : Type 0} {lent : Lent L} {known : Known K} → Records L K lent known → Bool
is_noted_cut records = records.is_cut

-- these records are left to the reader; the first argument says what an input has left
abbrev pub HasRecords : {L K : Type 0} {lent : Lent L} {known : Known K} → (L → Option (List ℕ))
    → Records L K lent known → List Row → Type 0
HasRecords left records rows =
    HasRows (λ r. left_to left r.now) records.reader rows

-- these records of a script with these bytes are left: also the one that is held back
abbrev pub HasLeft : {L K : Type 0} {lent : Lent L} {known : Known K} → (L → Option (List ℕ)) → List ℕ
    → Records L K lent known → List Row → Type 0
HasLeft left bytes records rows =
    RowsLeft (λ r. left_to left r.now) (is_cut_of bytes) records.reader
    records.holds (fields_of records.held) records.is_cut rows

-- this holds of the bytes of a script that are known, and of the records of it that are left
abbrev pub ForLeft : {L K : Type 0} {lent : Lent L} {known : Known K} → Option (List ℕ) → (L → Option (List ℕ))
    → Records L K lent known → (List ℕ → List Row → Type 0) → Type 0
ForLeft script left records Holds =
    (bytes : List ℕ) → script ≡ Some bytes → (rows : List Row) → HasLeft left bytes records rows → Holds bytes rows

-- the first of these records is held back; or there is none
abbrev pub HoldsNext : {L K : Type 0} {lent : Lent L} {known : Known K} → Records L K lent known → List ℕ
    → List Row → (List Row → Type 0) → Type 0
HoldsNext records bytes rows After =
    GivesRow records.holds (fields_of records.held) rows records.is_cut (is_cut_of bytes) After

-- the first of these records is given; or there is none
abbrev pub GivesNext : {L K : Type 0} {lent : Lent L} {known : Known K} → Bool → Records L K lent known → List ℕ
    → List Row → (List Row → Type 0) → Type 0
GivesNext found records bytes rows After =
    GivesRow found (fields_of records.row) rows records.is_cut (is_cut_of bytes) After

-- the lines of these records, the first of which is record 0, are written; or a step failed
abbrev pub WritesRows : List ℕ → List Row → Option (List ℕ) → Option (List ℕ) → Result Outcome ReplayFault → Type 0
WritesRows bytes rows old new result =
    Writes (rows_lines (is_cut_of bytes) rows) (rows_outcome (is_cut_of bytes) rows) old new result

-- the lines of these records after record 0 are written; or a step failed
abbrev pub WritesLater : Version → ModelState → List ℕ → List Row → Option (List ℕ) → Option (List ℕ)
    → Result Outcome ReplayFault → Type 0
WritesLater version s bytes rows old new result =
    Writes (lines_left version 0 s rows) (outcome_left version (is_cut_of bytes) 0 rows) old new result
