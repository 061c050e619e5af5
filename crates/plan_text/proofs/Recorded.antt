-- The script of a history reads as its records.
use Rattle.std.proofs.Common.{◌≡◌, ◌<◌, ◌≤◌, ◌+◌, ◌∙◌, ℕ, zero, suc, Bool, true, false, ◌&&◌, nat_eq, List, [], ◌∷◌, ◌++◌, codes, Some, flat_map, ap, sym, refl, length, map, append_assoc, arith}
use Rattle.std.specs.Prelude.{⊤, slice_index, nat_le}
use Rattle.std.specs.Char.{is_ascii_lowercase}
use Rattle.std.specs.List.{list_all, list_any, range_with_len}
use Rattle.std.proofs.lemmas.Bool.{and_parts, eqb-true}
use Rattle.std.proofs.lemmas.List.{length-append}
use Rattle.csv.specs.Machine.{next_record}
use Rattle.csv.specs.Reading.{default_config, records, records_from, strip_bom}
use Rattle.csv.specs.Writing.{default_writer, fields_text, is_blank, needs_byte, row_text}
use Rattle.csv.specs.declared.parser.State.TheVariants as st
use Rattle.csv.proofs.RoundTrip.{read-write}
use Rattle.csv_rows.specs.Rows.{Row}
use Rattle.plan_types.specs.declared.call.Call.{Call}
use Rattle.plan_types.specs.declared.call.Call.TheVariants.{Claim, Give, Yield, Take, Release, Inquire, SetPose, Stop, Resume, Advance}
use Rattle.plan_types.specs.declared.answer.Event.{Event}
use Rattle.plan_rules.specs.declared.state.State.{State}
use Rattle.plan_rules.specs.State.{is_full}
use Rattle.plan_text.specs.Calls.{verb_word}
use Rattle.plan_text.specs.Histories.{after_comma, call_fields, caller_word, digit_of, event_line, event_row, line_of_row, script_of, start_row, two_fields}
use Rattle.plan_text.specs.HistoryLaws.{AreToldApart}
use Rattle.plan_text.specs.Named.{Named}
use Rattle.plan_text.specs.Names.{Text, is_name, is_name_byte, name_in}
use Rattle.plan_text.specs.declared.calls.Verb.{Verb}
use Rattle.plan_text.specs.declared.calls.Verb.TheVariants as verbs

-- A word without a mark of the format.

abbrev pub IsPlain : List ℕ → Type 0
IsPlain word = list_any (needs_byte default_writer) word ≡ false

abbrev pub ArePlain : Row → Type 0
ArePlain [] = ⊤
ArePlain (field ∷ fields) = IsPlain field × ArePlain fields

-- a line of plain fields is that which the writer of csv writes
after_comma-plain : (fields : Row) → ArePlain fields → after_comma fields ≡ fields_text default_writer fields ++ 10 ∷ []
unfolding fields_text
after_comma-plain [] p = refl
after_comma-plain (field ∷ fields) p =
    rw p.0 (ap (λ t. 44 ∷ (field ++ t)) (after_comma-plain fields p.1)
    ∙ ap (λ t. 44 ∷ t) (sym (append_assoc field (fields_text default_writer fields) (10 ∷ []))))

line-plain : (x y : List ℕ) (rest : Row) → ArePlain (x ∷ y ∷ rest) → line_of_row (x ∷ y ∷ rest) ≡ row_text default_writer (x ∷ y ∷ rest)
unfolding is_blank
line-plain x y rest p =
    rw p.0 (ap (λ t. x ++ t) (after_comma-plain (y ∷ rest) p.1) ∙ sym (append_assoc x (fields_text default_writer (y ∷ rest)) (10 ∷ [])))

-- a record is read from its line, whatever comes after it
abbrev pub Reads : Row → Type 0
Reads row = (tail : List ℕ) → next_record default_config st.StartRecord [] [] (line_of_row row ++ tail) ≡ Some (row, st.StartRecord, tail)

pub reads-plain : (x y : List ℕ) (rest : Row) → ArePlain (x ∷ y ∷ rest) → Reads (x ∷ y ∷ rest)
reads-plain x y rest p tail = rw (line-plain x y rest p) (read-write (x ∷ y ∷ rest) tail)

-- so are many
abbrev pub AllRead : List Row → Type 0
AllRead [] = ⊤
AllRead (row ∷ rows) = Reads row × AllRead rows

pub records_from-lines : (n : ℕ) (rows : List Row) → AllRead rows → length rows < n → records_from default_config n st.StartRecord (flat_map line_of_row rows) ≡ rows
unfolding records_from next_record
records_from-lines zero rows r h = absurd (omega arith)
records_from-lines (suc n) [] r h = refl
records_from-lines (suc n) (row ∷ rows) r h =
    rw (r.0 (flat_map line_of_row rows)) (ap (λ more. row ∷ more) (records_from-lines n rows r.1 (omega arith)))

-- ---- names are plain

-- a byte of a name is none that isn't
is-other : (byte other : ℕ) → is_name_byte other ≡ false → is_name_byte byte ≡ true → nat_eq byte other ≡ false
is-other byte other none is = by (nat_eq byte other) refl
  where
    by : (b : Bool) → nat_eq byte other ≡ b → nat_eq byte other ≡ false
    by false e = e
    by true e =
        let same : byte ≡ other = eqb-true byte other e in
        let not_one : is_name_byte byte ≡ false = ap is_name_byte same ∙ none in
        let lie : true ≡ false = sym is ∙ not_one in
        absurd (cc)

byte-plain : (byte : ℕ) → is_name_byte byte ≡ true → needs_byte default_writer byte ≡ false
byte-plain byte e = rw (is-other byte 44 refl e, is-other byte 34 refl e, is-other byte 13 refl e, is-other byte 10 refl e) refl

bytes-plain : (text : List ℕ) → list_all is_name_byte text ≡ true → IsPlain text
bytes-plain [] all = refl
bytes-plain (byte ∷ bytes) all =
    let both = and_parts (is_name_byte byte) (list_all is_name_byte bytes) all in
    rw (byte-plain byte both.0) (bytes-plain bytes both.1)

name-plain : (text : Text) → is_name text ≡ true → IsPlain text
name-plain text e = bytes-plain text (and_parts (is_ascii_lowercase (slice_index text 0) && nat_le (length text) 32) (list_all is_name_byte text) e).1

-- of names, also past their end
pub names-plain : (names : List Text) (number : ℕ) → list_all is_name names ≡ true → IsPlain (name_in names number)
names-plain [] number all = refl
names-plain (name ∷ names) zero all = name-plain name (and_parts (is_name name) (list_all is_name names) all).0
names-plain (name ∷ names) (suc number) all = names-plain names number (and_parts (is_name name) (list_all is_name names) all).1

-- ---- events

caller-plain : (n : Named) (machine : ℕ) → AreToldApart n → IsPlain (caller_word n machine)
caller-plain n machine k = by (nat_eq machine 30) refl
  where
    by : (b : Bool) → nat_eq machine 30 ≡ b → IsPlain (caller_word n machine)
    by true e = rw e refl
    by false e = rw e (names-plain n.machines machine k.spelled_machines)

verb-plain : (verb : Verb) → IsPlain (verb_word verb)
verb-plain verbs.Claim = refl
verb-plain verbs.Give = refl
verb-plain verbs.Yield = refl
verb-plain verbs.Take = refl
verb-plain verbs.Release = refl
verb-plain verbs.Inquire = refl
verb-plain verbs.Pose = refl
verb-plain verbs.Advance = refl

two-read : (word : Text) (verb : Verb) (name : Text) → IsPlain word → IsPlain name → Reads (word ∷ two_fields verb name)
two-read word verb name p q = reads-plain word (verb_word verb) (name ∷ []) (p, (verb-plain verb, (q, tt)))

call-reads : (n : Named) (word : Text) (c : Call) → AreToldApart n → IsPlain word → Reads (word ∷ call_fields n c)
call-reads n word (Claim z) k p = two-read word verbs.Claim (name_in n.zones z) p (names-plain n.zones z k.spelled_zones)
call-reads n word (Give z) k p = two-read word verbs.Give (name_in n.zones z) p (names-plain n.zones z k.spelled_zones)
call-reads n word (Yield z) k p = two-read word verbs.Yield (name_in n.zones z) p (names-plain n.zones z k.spelled_zones)
call-reads n word (Take z) k p = two-read word verbs.Take (name_in n.zones z) p (names-plain n.zones z k.spelled_zones)
call-reads n word (Release z) k p = two-read word verbs.Release (name_in n.zones z) p (names-plain n.zones z k.spelled_zones)
call-reads n word (Inquire z) k p = two-read word verbs.Inquire (name_in n.zones z) p (names-plain n.zones z k.spelled_zones)
call-reads n word (SetPose q) k p = two-read word verbs.Pose (name_in n.poses q) p (names-plain n.poses q k.spelled_poses)
call-reads n word (Advance q) k p = two-read word verbs.Advance (name_in n.places q) p (names-plain n.places q k.spelled_places)
call-reads n word Stop k p = reads-plain word (codes "stop") [] (p, (refl, tt))
call-reads n word Resume k p = reads-plain word (codes "resume") [] (p, (refl, tt))

events-read : (n : Named) (history : List Event) → AreToldApart n → AllRead (map (event_row n) history)
events-read n [] k = tt
events-read n (e ∷ history) k = (call-reads n (caller_word n e.machine) e.call k (caller-plain n e.machine k), events-read n history k)

-- ---- the start

-- the digits of places from a first one
pub digits-plain : (s : State) (first count : ℕ) → IsPlain (flat_map (digit_of s) (range_with_len first count))
digits-plain s first zero = refl
digits-plain s first (suc count) = by (is_full s first) refl (digits-plain s (first + 1) count)
  where
    by : (b : Bool) → is_full s first ≡ b → IsPlain (flat_map (digit_of s) (range_with_len (first + 1) count))
        → IsPlain (digit_of s first ++ flat_map (digit_of s) (range_with_len (first + 1) count))
    by true e more = rw e more
    by false e more = rw e more

-- ---- scripts

-- lines of rows, one after the other
row-lines : (n : Named) (history : List Event) → flat_map line_of_row (map (event_row n) history) ≡ flat_map (event_line n) history
row-lines n [] = refl
row-lines n (e ∷ history) = ap (λ t. event_line n e ++ t) (row-lines n history)

-- each line has a byte
comma-long : (fields : Row) → 1 ≤ length (after_comma fields)
comma-long [] = omega arith
comma-long (field ∷ fields) = omega arith

line-long : (row : Row) → 1 ≤ length (line_of_row row)
line-long [] = omega arith
line-long (field ∷ fields) = omega (arith, comma-long fields, length-append field (after_comma fields))

lines-long : (rows : List Row) → length rows ≤ length (flat_map line_of_row rows)
lines-long [] = omega arith
lines-long (row ∷ rows) = omega (arith, line-long row, lines-long rows, length-append (line_of_row row) (flat_map line_of_row rows))

abbrev pub rows_of : Named → State → List Event → List Row
rows_of n s history = start_row n s ∷ map (event_row n) history

script-rows : (n : Named) (s : State) (history : List Event) → script_of n s history ≡ flat_map line_of_row (rows_of n s history)
script-rows n s history = ap (λ t. line_of_row (start_row n s) ++ t) (sym (row-lines n history))

no_bom : (rest : List ℕ) → strip_bom (codes "start" ++ rest) ≡ codes "start" ++ rest
unfolding strip_bom
no_bom rest = refl

script-bare : (n : Named) (s : State) (history : List Event) → strip_bom (script_of n s history) ≡ script_of n s history
unfolding strip_bom
script-bare n s history = refl

-- the records of the script of a history
pub records-script : (n : Named) (s : State) (history : List Event) → AreToldApart n → Reads (start_row n s)
    → records default_config (strip_bom (script_of n s history)) ≡ rows_of n s history
records-script n s history k start =
    let rows = rows_of n s history in
    let lines = flat_map line_of_row rows in
    ap (records default_config) (script-bare n s history ∙ script-rows n s history)
    ∙ records_from-lines (length lines + 1) rows (start, events-read n history k) (omega (arith, lines-long rows))
