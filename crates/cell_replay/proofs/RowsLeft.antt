-- What a read of a record does to the records of a script that are left.
use Rattle.std.proofs.Common.{ℕ, suc, ◌≡◌, ◌-◌, ◌||◌, not, take, Bool, true, false, List, [], ◌∷◌, length, Option, refl, ◌∙◌, ap, arith}
use Rattle.csv.specs.declared.reader.Reader.{Reader}
use Rattle.csv_rows.specs.Rows.{HasRows, Row, TakesRow}
use Rattle.cell_replay.specs.Records.{GivesRow, RowsLeft}
use Rattle.cell_replay.specs.Script.{used, without_last}

-- a read of a record; if there is none, the note is right
pub gives-row : {R : Type 0} (remaining : R → Option (List ℕ)) (reader : Reader R) (found : Bool) (row : Row) (rows : List Row) (noted is_cut : Bool)
    → TakesRow remaining reader found row rows → (found ≡ false → noted ≡ is_cut) → GivesRow found row rows noted is_cut (HasRows remaining reader)
gives-row remaining reader true row rows noted is_cut takes note = takes
gives-row remaining reader false row rows noted is_cut takes note = (note refl, takes)

-- the first record is read and held back
pub left-first : {R : Type 0} (remaining : R → Option (List ℕ)) (is_cut : Bool) (reader : Reader R) (holds : Bool) (held : Row) (noted : Bool) (rows : List Row)
    → GivesRow holds held rows noted is_cut (HasRows remaining reader) → RowsLeft remaining is_cut reader holds held noted (used is_cut rows)
left-first remaining is_cut reader true held noted rows h = (h.0, h.2, ap (used is_cut) h.1)
left-first remaining true reader false held noted rows h = (h.0, ap without_last h.1)
left-first remaining false reader false held noted rows h = (h.0, h.1)

used-more : (is_cut : Bool) (row held : Row) (rest : List Row) → used is_cut (row ∷ held ∷ rest) ≡ row ∷ used is_cut (held ∷ rest)
used-more false row held rest = refl
used-more true row held rest =
    let one : length (row ∷ held ∷ rest) - 1 ≡ suc (length (held ∷ rest) - 1) = omega arith in
    ap (λ n. take n (row ∷ held ∷ rest)) one

used-one : (row : Row) → used true (row ∷ []) ≡ []
used-one row = refl

-- the record that was held back is given, and the next one is held back if there is one
pub left-found : {R : Type 0} (remaining : R → Option (List ℕ)) (is_cut : Bool) (reader : Reader R) (holds : Bool) (row held : Row) (noted : Bool) (rows left : List Row) (found : Bool)
    → GivesRow holds held rows noted is_cut (HasRows remaining reader) → left ≡ used is_cut (row ∷ rows) → (holds || not noted) ≡ found
    → GivesRow found row left noted is_cut (RowsLeft remaining is_cut reader holds held noted)
left-found remaining is_cut reader true row held noted rows left found h is e =
    rw (← e) (used is_cut (held ∷ h.0), is ∙ ap (λ r. used is_cut (row ∷ r)) h.1 ∙ used-more is_cut row held h.0, (h.0, h.2, refl))
left-found remaining true reader false row held noted rows left found h is e = rw (← e, h.0) (refl, is ∙ ap (λ r. used true (row ∷ r)) h.1 ∙ used-one row)
left-found remaining false reader false row held noted rows left found h is e = rw (← e, h.0) ([], is ∙ ap (λ r. row ∷ r) h.1, (refl, refl))
