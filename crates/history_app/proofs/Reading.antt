-- A script reads as its records.
use Rattle.std.proofs.Common.{◌≡◌, ◌<◌, ◌≤◌, ◌+◌, ◌*◌, ◌++◌, ◌∷◌, ◌∙◌, ℕ, zero, suc, false, List, [], Some, ap, sym, refl, length, map, append_assoc, arith}
use Rattle.std.specs.List.{concat, list_any}
use Rattle.std.specs.Prelude.{⊤}
use Rattle.std.proofs.lemmas.List.{length-append}
use Rattle.csv.specs.Machine.{next_record}
use Rattle.csv.specs.Reading.{default_config, records_from}
use Rattle.csv.specs.Writing.{default_writer, fields_text, is_blank, needs_byte, row_text}
use Rattle.csv.specs.declared.parser.State.TheVariants as st
use Rattle.csv.proofs.RoundTrip.{read-write}
use Rattle.cell_rules.specs.Types.{Machine, Feed, Table, Robot, Press, Deposit, Crane, Watch, Zone, Z1, Z2, Z3, Z4, Z5, Z6, Pose, Turning, Loading, Unloading, Travelling, Middle, Low, Top, Running, Landing, Halted, Offering, Standing, Call, Claim, Give, Yield, Take, Release, SetPose, Advance, Inquire, Stop, Resume, Event, machine_word, pose_word, zone_word, call_fields, verb_of}
use Rattle.csv_rows.specs.Rows.{Row}
use Rattle.history_app.specs.Scripts.{after_comma, event_row, line_of_row}

-- A word without a mark of the format.

abbrev pub IsPlain : List ℕ → Type 0
IsPlain word = list_any (needs_byte default_writer) word ≡ false

abbrev pub ArePlain : Row → Type 0
ArePlain [] = ⊤
ArePlain (field ∷ fields) = IsPlain field × ArePlain fields

-- a line of plain fields is that which the writer of csv writes
after_comma-plain : (fields : Row) → ArePlain fields → after_comma fields ≡ fields_text default_writer fields ++ 10 ∷ []
unfolding fields_text
after_comma-plain [] p = refl
after_comma-plain (field ∷ fields) p =
    rw p.0 (ap (λ t. 44 ∷ (field ++ t)) (after_comma-plain fields p.1)
    ∙ ap (λ t. 44 ∷ t) (sym (append_assoc field (fields_text default_writer fields) (10 ∷ []))))

line-plain : (x y : List ℕ) (rest : Row) → ArePlain (x ∷ y ∷ rest) → line_of_row (x ∷ y ∷ rest) ≡ row_text default_writer (x ∷ y ∷ rest)
unfolding is_blank
line-plain x y rest p =
    rw p.0 (ap (λ t. x ++ t) (after_comma-plain (y ∷ rest) p.1) ∙ sym (append_assoc x (fields_text default_writer (y ∷ rest)) (10 ∷ [])))

-- a record is read from its line, whatever comes after it
abbrev pub Reads : Row → Type 0
Reads row = (tail : List ℕ) → next_record default_config st.StartRecord [] [] (line_of_row row ++ tail) ≡ Some (row, st.StartRecord, tail)

pub reads-plain : (x y : List ℕ) (rest : Row) → ArePlain (x ∷ y ∷ rest) → Reads (x ∷ y ∷ rest)
reads-plain x y rest p tail = rw (line-plain x y rest p) (read-write (x ∷ y ∷ rest) tail)

-- so are many
abbrev pub AllRead : List Row → Type 0
AllRead [] = ⊤
AllRead (row ∷ rows) = Reads row × AllRead rows

pub records_from-lines : (n : ℕ) (rows : List Row) → AllRead rows → length rows < n → records_from default_config n st.StartRecord (concat (map line_of_row rows)) ≡ rows
unfolding records_from next_record
records_from-lines zero rows r h = absurd (omega arith)
records_from-lines (suc n) [] r h = refl
records_from-lines (suc n) (row ∷ rows) r h =
    rw (r.0 (concat (map line_of_row rows))) (ap (λ more. row ∷ more) (records_from-lines n rows r.1 (omega arith)))

-- Events.

machine-plain : (machine : Machine) → IsPlain (machine_word machine)
machine-plain Feed = refl
machine-plain Table = refl
machine-plain Robot = refl
machine-plain Press = refl
machine-plain Deposit = refl
machine-plain Crane = refl
machine-plain Watch = refl

zone-plain : (zone : Zone) → IsPlain (zone_word zone)
zone-plain Z1 = refl
zone-plain Z2 = refl
zone-plain Z3 = refl
zone-plain Z4 = refl
zone-plain Z5 = refl
zone-plain Z6 = refl

pose-plain : (pose : Pose) → IsPlain (pose_word pose)
pose-plain Turning = refl
pose-plain Loading = refl
pose-plain Unloading = refl
pose-plain Travelling = refl
pose-plain Middle = refl
pose-plain Low = refl
pose-plain Top = refl
pose-plain Running = refl
pose-plain Landing = refl
pose-plain Halted = refl
pose-plain Offering = refl
pose-plain Standing = refl

call-reads : (word : List ℕ) (call : Call) → IsPlain word → Reads (word ∷ call_fields call)
call-reads word (Claim z) p = reads-plain word (verb_of (Claim z)) _ (p, (refl, (zone-plain z, tt)))
call-reads word (Give z) p = reads-plain word (verb_of (Give z)) _ (p, (refl, (zone-plain z, tt)))
call-reads word (Yield z) p = reads-plain word (verb_of (Yield z)) _ (p, (refl, (zone-plain z, tt)))
call-reads word (Take z) p = reads-plain word (verb_of (Take z)) _ (p, (refl, (zone-plain z, tt)))
call-reads word (Release z) p = reads-plain word (verb_of (Release z)) _ (p, (refl, (zone-plain z, tt)))
call-reads word (SetPose q) p = reads-plain word (verb_of (SetPose q)) _ (p, (refl, (pose-plain q, tt)))
call-reads word Advance p = reads-plain word (verb_of Advance) [] (p, (refl, tt))
call-reads word (Inquire z) p = reads-plain word (verb_of (Inquire z)) _ (p, (refl, (zone-plain z, tt)))
call-reads word Stop p = reads-plain word (verb_of Stop) [] (p, (refl, tt))
call-reads word Resume p = reads-plain word (verb_of Resume) [] (p, (refl, tt))

event-reads : (e : Event) → Reads (event_row e)
unfolding event_row
event-reads e = call-reads (machine_word e.machine) e.call (machine-plain e.machine)

pub events-read : (events : List Event) → AllRead (map event_row events)
events-read [] = tt
events-read (e ∷ events) = (event-reads e, events-read events)

-- How long lines are.

machine-short : (machine : Machine) → length (machine_word machine) ≤ 7
machine-short Feed = omega arith
machine-short Table = omega arith
machine-short Robot = omega arith
machine-short Press = omega arith
machine-short Deposit = omega arith
machine-short Crane = omega arith
machine-short Watch = omega arith

zone-short : (zone : Zone) → length (zone_word zone) ≤ 2
zone-short Z1 = omega arith
zone-short Z2 = omega arith
zone-short Z3 = omega arith
zone-short Z4 = omega arith
zone-short Z5 = omega arith
zone-short Z6 = omega arith

pose-short : (pose : Pose) → length (pose_word pose) ≤ 10
pose-short Turning = omega arith
pose-short Loading = omega arith
pose-short Unloading = omega arith
pose-short Travelling = omega arith
pose-short Middle = omega arith
pose-short Low = omega arith
pose-short Top = omega arith
pose-short Running = omega arith
pose-short Landing = omega arith
pose-short Halted = omega arith
pose-short Offering = omega arith
pose-short Standing = omega arith

pub length-line : (x : List ℕ) (fields : Row) → length (line_of_row (x ∷ fields)) ≡ length x + length (after_comma fields)
length-line x fields = length-append x (after_comma fields)

pub length-after_comma : (x : List ℕ) (fields : Row) → length (after_comma (x ∷ fields)) ≡ length x + length (after_comma fields) + 1
length-after_comma x fields = omega (arith, length-append x (after_comma fields))

object-short : (verb object : List ℕ) → length verb ≤ 7 → length object ≤ 10 → length (after_comma (verb ∷ object ∷ [])) ≤ 20
object-short verb object v o = omega (arith, v, o, length-after_comma verb (object ∷ []), length-after_comma object [])

call-short : (call : Call) → length (after_comma (call_fields call)) ≤ 20
call-short (Claim z) = object-short (verb_of (Claim z)) (zone_word z) (omega arith) (omega (arith, zone-short z))
call-short (Give z) = object-short (verb_of (Give z)) (zone_word z) (omega arith) (omega (arith, zone-short z))
call-short (Yield z) = object-short (verb_of (Yield z)) (zone_word z) (omega arith) (omega (arith, zone-short z))
call-short (Take z) = object-short (verb_of (Take z)) (zone_word z) (omega arith) (omega (arith, zone-short z))
call-short (Release z) = object-short (verb_of (Release z)) (zone_word z) (omega arith) (omega (arith, zone-short z))
call-short (SetPose p) = object-short (verb_of (SetPose p)) (pose_word p) (omega arith) (pose-short p)
call-short Advance = omega arith
call-short (Inquire z) = object-short (verb_of (Inquire z)) (zone_word z) (omega arith) (omega (arith, zone-short z))
call-short Stop = omega arith
call-short Resume = omega arith

event-short : (e : Event) → length (line_of_row (event_row e)) ≤ 27
unfolding event_row
event-short e = omega (arith, length-line (machine_word e.machine) (call_fields e.call), machine-short e.machine, call-short e.call)

pub events-short : (events : List Event) → length (concat (map line_of_row (map event_row events))) ≤ 27 * length events
events-short [] = omega arith
events-short (e ∷ events) = omega (arith, event-short e, events-short events, length-append (line_of_row (event_row e)) (concat (map line_of_row (map event_row events))))

-- each line has a byte
event-long : (e : Event) → 1 ≤ length (line_of_row (event_row e))
unfolding event_row
event-long e = omega (arith, length-line (machine_word e.machine) (call_fields e.call), comma-long (call_fields e.call))
  where
    comma-long : (fields : Row) → 1 ≤ length (after_comma fields)
    comma-long [] = omega arith
    comma-long (field ∷ fields) = omega (arith, length-after_comma field fields)

pub events-long : (events : List Event) → length events ≤ length (concat (map line_of_row (map event_row events)))
events-long [] = omega arith
events-long (e ∷ events) = omega (arith, event-long e, events-long events, length-append (line_of_row (event_row e)) (concat (map line_of_row (map event_row events))))
