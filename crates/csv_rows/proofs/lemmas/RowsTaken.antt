-- What a read of a record does to the records that a reader has left.
use Rattle.std.proofs.Common.{ℕ, zero, suc, ◌≡◌, ◌<◌, ◌+◌, Bool, true, false, List, [], ◌∷◌, length, Option, Some, None, refl, sym, ◌∙◌, ap, ap₂, arith}
use Rattle.csv.specs.Machine.{Read, ends_at_end, next_record}
use Rattle.csv.specs.Reading.{ReadRecord, Reached, default_config, records_from, records_next, reader_config, reader_state}
use Rattle.csv.specs.declared.parser.Config.{Config}
use Rattle.csv.specs.declared.parser.State.{State}
use Rattle.csv.specs.declared.reader.Reader.{Reader}
use Rattle.csv.proofs.ReadFacts.{rows-end, rows-more}
use Rattle.csv_rows.specs.Rows.{HasRows, Row, TakesRow, rows_from}
use Rattle.csv_rows.proofs.RecordLemmas.{next_record-shorter, next_record-takes}

-- the records are the same for any number of steps that is large enough
records_from-enough : (cfg : Config) (n m : ℕ) (s : State) (xs : List ℕ) → ends_at_end s ≡ false → length xs < n → length xs < m → records_from cfg n s xs ≡ records_from cfg m s xs
unfolding records_from
records_from-enough cfg zero m s xs between a b = absurd (omega arith)
records_from-enough cfg (suc n) zero s xs between a b = absurd (omega arith)
records_from-enough cfg (suc n) (suc m) s xs between a b = by (next_record cfg s [] [] xs) refl (records_from-enough cfg n m)
  where
    by : (o : Option Read) → next_record cfg s [] [] xs ≡ o
        → ((s2 : State) (ys : List ℕ) → ends_at_end s2 ≡ false → length ys < n → length ys < m → records_from cfg n s2 ys ≡ records_from cfg m s2 ys)
        → records_next (records_from cfg n) o ≡ records_next (records_from cfg m) o
    by None e more = refl
    by (Some p) e more =
        let shorter = next_record-shorter cfg s xs p between e in
        let after = (next_record-takes cfg s [] [] xs p e).1 in
        ap (λ rows. p.0 ∷ rows) (more p.1 p.2 after (omega (arith, shorter)) (omega (arith, shorter)))

-- one step
one_step : (n k : ℕ) (s : State) (xs : List ℕ) (o : Option Read) → k ≡ suc n → next_record default_config s [] [] xs ≡ o → records_from default_config k s xs ≡ records_next (records_from default_config n) o
unfolding records_from
one_step n k s xs o is e = rw (is, e) refl

rows_from-none : (s : State) (xs : List ℕ) → next_record default_config s [] [] xs ≡ None → rows_from s xs ≡ []
rows_from-none s xs e = one_step (length xs) (length xs + 1) s xs None (omega arith) e

rows_from-more : (s : State) (xs : List ℕ) (p : Read) → ends_at_end s ≡ false → next_record default_config s [] [] xs ≡ Some p → rows_from s xs ≡ p.0 ∷ rows_from p.1 p.2
rows_from-more s xs p between e =
    let shorter = next_record-shorter default_config s xs p between e in
    let after = (next_record-takes default_config s [] [] xs p e).1 in
    one_step (length xs) (length xs + 1) s xs (Some p) (omega arith) e ∙ ap (λ rows. p.0 ∷ rows) (records_from-enough default_config (length xs) (length p.2 + 1) p.1 p.2 after (omega (arith, shorter)) (omega arith))

reached-none : (s : State) (xs : List ℕ) → Reached default_config s xs [] s xs
unfolding Reached
reached-none s xs = (refl, refl)

reached-one : (s s2 : State) (xs ys : List ℕ) (row : Row) → Reached default_config s xs (row ∷ []) s2 ys
    → (p : Read) × (next_record default_config s [] [] xs ≡ Some p) × (row ≡ p.0) × (p.1 ≡ s2) × (p.2 ≡ ys)
unfolding Reached
reached-one s s2 xs ys row h = (h.0, h.1, h.2, h.3.0, h.3.1)

pub takes-row : {R : Type 0} (remaining : R → Option (List ℕ)) (a b : Reader R) (found : Bool) (row : Row) (rows : List Row) → reader_config a ≡ default_config
    → ReadRecord remaining a b found row → HasRows remaining a rows → TakesRow remaining b found row rows
takes-row remaining a b false row rows cfg read has =
    let none = rows-end remaining a b row default_config has.0 cfg has.1 read in
    has.3 ∙ rows_from-none (reader_state a) has.0 none
takes-row remaining a b true row rows cfg read has =
    let m = rows-more remaining a b row default_config (reader_state a) has.0 has.0 [] cfg has.1 (reached-none (reader_state a) has.0) read in
    let one = reached-one (reader_state a) (reader_state b) has.0 m.0 row m.2 in
    let after = (next_record-takes default_config (reader_state a) [] [] has.0 one.0 one.1).1 in
    let more = rows_from-more (reader_state a) has.0 one.0 has.2 one.1 in
    (rows_from (reader_state b) m.0, has.3 ∙ more ∙ ap₂ (λ r rest. r ∷ rest) (sym one.2) (ap₂ rows_from one.3 one.4), (m.0, m.1, rw (← one.3) after, refl))

pub takes-none : {R : Type 0} (remaining : R → Option (List ℕ)) (reader : Reader R) (found : Bool) (row : Row) (rows : List Row) → found ≡ false → TakesRow remaining reader found row rows → rows ≡ []
takes-none remaining reader true row rows none h = absurd (cc)
takes-none remaining reader false row rows none h = h

pub takes-some : {R : Type 0} (remaining : R → Option (List ℕ)) (reader : Reader R) (found : Bool) (row : Row) (rows : List Row) → found ≡ true → TakesRow remaining reader found row rows
    → (rest : List Row) × (rows ≡ row ∷ rest) × HasRows remaining reader rest
takes-some remaining reader true row rows some h = h
takes-some remaining reader false row rows some h = absurd (cc)
