-- The records of a script that are left.
use Rattle.std.specs.Prelude.{ℕ, ◌≡◌, ◌∷◌, Bool, true, false, List, [], Option}
use Rattle.csv.specs.declared.reader.Reader.{Reader}
use Rattle.csv_rows.specs.Rows.{HasRows, Row}
use Rattle.cell_replay.specs.Script.{used}

-- these records of a script are left: the one that is held back and those of the reader, without the last one if the
-- script is cut; or none is held back, none is left, and it is noted whether the script is cut
abbrev pub RowsLeft : {R : Type 0} → (R → Option (List ℕ)) → Bool → Reader R → Bool → Row → Bool → List Row → Type 0
RowsLeft remaining is_cut reader true held noted left =
    (rows : List Row) × HasRows remaining reader rows × (left ≡ used is_cut (held ∷ rows))
RowsLeft remaining is_cut reader false held noted left = (noted ≡ is_cut) × (left ≡ [])

-- the first of these records is given, and the others are left; or there is none, and it is noted whether the script is
-- cut
abbrev pub GivesRow : Bool → Row → List Row → Bool → Bool → (List Row → Type 0) → Type 0
GivesRow true row left noted is_cut After = (rest : List Row) × (left ≡ row ∷ rest) × After rest
GivesRow false row left noted is_cut After = (noted ≡ is_cut) × (left ≡ [])
