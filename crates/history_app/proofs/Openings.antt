-- Record 0 gives the opening.
use Rattle.std.proofs.Common.{◌≡◌, ◌<◌, ◌≤◌, ◌+◌, ◌*◌, ◌^◌, ◌-◌, ◌∷◌, ◌&&◌, ◌==◌, ℕ, Bool, true, false, List, [], Some, Ok, ap, sym, refl, length, map, nat_le, nat_lt, arith}
use Rattle.std.specs.Char.{is_ascii_digit}
use Rattle.std.specs.Fmt.{decimal}
use Rattle.std.specs.Int.{IsInRange}
use Rattle.std.specs.List.{list_all}
use Rattle.std.proofs.lemmas.Bool.Decides.{nat_tests}
use Rattle.std.proofs.lemmas.Bool.{and_parts, ne_eqb}
use Rattle.std.proofs.lemmas.Fmt.{decimal_nonempty, digits_decimal, digits_value-decimal, length-decimal-le}
use Rattle.std.proofs.lemmas.Str.Parse.{FoldsDigits, IsDigitsTest, IsNumeralModel, numerals_by_fold}
use Rattle.csv.specs.Writing.{default_writer, needs_byte}
use Rattle.cell_rules.specs.Types.{all_places, Event, PressIn, PressOut}
use Rattle.cell_rules.specs.Names.{ModelState, last_stamp, size_of, PlaceSet, has, IsStart, IsStartState, is_flag, is_start, places_in}
use Rattle.cell_replay.specs.Script.{start_in, start_of}
use Rattle.csv_rows.specs.Numbers.{number_in, read_on}
use Rattle.cell_replay.specs.Versions.{version_of, version_word}
use Rattle.cell_replay.specs.declared.version.Version.{Version}
use Rattle.cell_replay.specs.declared.version.Version.TheVariants.{First, Second}
use Rattle.history_app.specs.Answered as answered
use Rattle.history_app.specs.Scripts.{digit_of, digits_of, line_of_row, opening_row, version_for}
use Rattle.history_app.proofs.Reading.{IsPlain, Reads, length-after_comma, length-line, reads-plain}

-- The digits of a stamp.

and_true : (a b : Bool) → a ≡ true → b ≡ true → (a && b) ≡ true
and_true a b x y = rw (x, y) refl

digit_in_range : (c : ℕ) → is_ascii_digit c ≡ true → IsInRange 48 57 c
digit_in_range c e = grind (arith, nat_tests)

in_range_digit : (c : ℕ) → IsInRange 48 57 c → is_ascii_digit c ≡ true
in_range_digit c e = grind (arith, nat_tests)

abbrev AreDigits : List ℕ → Type 0
AreDigits field = list_all is_ascii_digit field ≡ true

digits-tested : IsDigitsTest AreDigits
digits-tested = record {
  empty = refl;
  parts = λ c cs e. let both = and_parts (is_ascii_digit c) (list_all is_ascii_digit cs) e in (digit_in_range c both.0, both.1);
  more = λ c cs r e. and_true (is_ascii_digit c) (list_all is_ascii_digit cs) (in_range_digit c r) e;
}

read_on-folds : FoldsDigits read_on
read_on-folds = record { empty = λ n. refl; more = λ n c cs r. let same : 10 * n + (c - 48) ≡ n * 10 + (c - 48) = omega arith in ap (λ m. read_on m cs) same }

stamp-numeral : IsNumeralModel AreDigits (read_on 0)
stamp-numeral = numerals_by_fold AreDigits digits-tested read_on read_on-folds

pub number_in-decimal : (n : ℕ) → n ≤ last_stamp → number_in (decimal n) ≡ Some n
number_in-decimal n h =
    let small : n < 2 ^ 64 = omega arith in
    let some : nat_lt 0 (length (decimal n)) ≡ true = (let l = decimal_nonempty n small in grind (arith, nat_tests)) in
    let few : nat_le (length (decimal n)) 7 ≡ true = (let l = length-decimal-le 7 n (omega arith) (omega arith) small in grind (arith, nat_tests)) in
    let digits : AreDigits (decimal n) = digits_decimal stamp-numeral n small in
    let value : read_on 0 (decimal n) ≡ n = digits_value-decimal stamp-numeral n small in
    rw (some, few, digits) (ap Some value)

-- The digits of the places.

flags-in : (flags : List Bool) → list_all is_flag (map digit_of flags) ≡ true
flags-in [] = refl
flags-in (true ∷ flags) = flags-in flags
flags-in (false ∷ flags) = flags-in flags

flags-back : (flags : List Bool) → map (λ digit. digit == 49) (map digit_of flags) ≡ flags
flags-back [] = refl
flags-back (true ∷ flags) = ap (λ t. true ∷ t) (flags-back flags)
flags-back (false ∷ flags) = ap (λ t. false ∷ t) (flags-back flags)

abbrev flags_of : PlaceSet → List Bool
flags_of places = map (has places) all_places

pub places_in-digits : (places : PlaceSet) → places_in (digits_of places) ≡ Some (flags_of places)
unfolding digits_of
places_in-digits places = rw (flags-in (flags_of places)) (ap Some (flags-back (flags_of places)))

-- The start.

is_start-true : (places : PlaceSet) (stamp : ℕ) → IsStart places stamp → is_start places stamp ≡ true
is_start-true places stamp h =
    let plates : nat_le (size_of places) 6 ≡ true = (let l = h.six_plates_at_most in grind (arith, nat_tests)) in
    let late : nat_le stamp last_stamp ≡ true = (let l = h.stamp_in_range in grind (arith, nat_tests)) in
    let press : (has places PressIn && has places PressOut) ≡ false = h.one_in_press_at_most in
    rw (plates, press, late) refl

pub start_of-flags : (opening : ModelState) → IsStartState opening → start_of (Some (flags_of opening.full)) (Some opening.stamp) ≡ Ok opening
start_of-flags opening h = rw (is_start-true opening.full opening.stamp h.start) (ap Ok (sym h.same))

version_of-word : (version : Version) → version_of (version_word version) ≡ Some version
version_of-word First = refl
version_of-word Second = refl

pub start_in-opening : (opening : ModelState) (events : List Event) → IsStartState opening → start_in (opening_row opening events) ≡ Ok (answered.start_of opening events)
unfolding start_in
start_in-opening opening events h =
    rw (version_of-word (version_for events), places_in-digits opening.full, number_in-decimal opening.stamp h.start.stamp_in_range, start_of-flags opening h) refl

-- Its line.

word-plain : (version : Version) → IsPlain (version_word version)
word-plain First = refl
word-plain Second = refl

flags-plain : (flags : List Bool) → IsPlain (map digit_of flags)
flags-plain [] = refl
flags-plain (true ∷ flags) = flags-plain flags
flags-plain (false ∷ flags) = flags-plain flags

digits-plain : (places : PlaceSet) → IsPlain (digits_of places)
unfolding digits_of
digits-plain places = flags-plain (flags_of places)

digit-plain : (c : ℕ) → IsInRange 48 57 c → needs_byte default_writer c ≡ false
digit-plain c r =
    rw (ne_eqb c 44 (λ e. omega (arith, e, r)), ne_eqb c 34 (λ e. omega (arith, e, r)), ne_eqb c 13 (λ e. omega (arith, e, r)), ne_eqb c 10 (λ e. omega (arith, e, r))) refl

stamp-plain : (field : List ℕ) → AreDigits field → IsPlain field
stamp-plain [] d = refl
stamp-plain (c ∷ cs) d =
    let both = and_parts (is_ascii_digit c) (list_all is_ascii_digit cs) d in
    rw (digit-plain c (digit_in_range c both.0)) (stamp-plain cs both.1)

pub opening-reads : (opening : ModelState) (events : List Event) → IsStartState opening → Reads (opening_row opening events)
opening-reads opening events h =
    let late = h.start.stamp_in_range in
    reads-plain _ _ _ (word-plain (version_for events), (digits-plain opening.full, (stamp-plain (decimal opening.stamp) (digits_decimal stamp-numeral opening.stamp (omega arith)), tt)))

word-short : (version : Version) → length (version_word version) ≤ 6
word-short First = omega arith
word-short Second = omega arith

digits-short : (places : PlaceSet) → length (digits_of places) ≤ 10
unfolding digits_of
digits-short places = omega arith

pub opening-short : (opening : ModelState) (events : List Event) → IsStartState opening → length (line_of_row (opening_row opening events)) ≤ 26
opening-short opening events h =
    let late = h.start.stamp_in_range in
    let stamp = length-decimal-le 7 opening.stamp (omega arith) (omega arith) (omega arith) in
    let word = word-short (version_for events) in
    let digits = digits-short opening.full in
    omega (arith, word, digits, stamp, length-line (version_word (version_for events)) (digits_of opening.full ∷ decimal opening.stamp ∷ []), length-after_comma (digits_of opening.full) (decimal opening.stamp ∷ []), length-after_comma (decimal opening.stamp) [])

pub opening-long : (opening : ModelState) (events : List Event) → 1 ≤ length (line_of_row (opening_row opening events))
opening-long opening events =
    let fields = digits_of opening.full ∷ decimal opening.stamp ∷ [] in
    omega (arith, length-line (version_word (version_for events)) fields, length-after_comma (digits_of opening.full) (decimal opening.stamp ∷ []))
