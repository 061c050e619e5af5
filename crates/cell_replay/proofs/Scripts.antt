-- Facts of every script.
use Rattle.std.proofs.Common.{ℕ, ◌≡◌, ◌<◌, ◌≤◌, ◌+◌, Bool, true, false, cond, List, [], ◌∷◌, Result, Ok, Err, IfOk, length, take, drop, min, nat_lt, nat_le, refl, ◌∙◌, arith, Option, Some, None, ◌==◌, ◌&&◌, not, MatchResult, ◌⊎◌, inl, inr}
use Rattle.std.specs.Prelude.{⊤}
use Rattle.std.specs.List.{enumerate_from}
use Rattle.std.proofs.lemmas.Bool.{and_parts, cond_both, eqb-true, leb-true, ltb-false, ltb-true, not-true}
use Rattle.std.proofs.lemmas.Bool.Decides.{nat_tests}
use Rattle.std.proofs.lemmas.List.{length-take, length-map}
use Rattle.std.proofs.lemmas.List.FromFn.{length-enumerate_from}
use Rattle.cell_rules.specs.Types.{Event, PressIn, PressOut}
use Rattle.cell_rules.specs.Names.{ModelState, last_stamp, size_of, PlaceSet, has, IsLegal, IsStartState, IsStart, places_of, start_state, is_start, places_in}
use Rattle.csv_rows.specs.Rows.{Row}
use Rattle.csv_rows.specs.Numbers.{number_in}
use Rattle.csv_rows.specs.ScriptEnd.{max_records}
use Rattle.csv_rows.specs.declared.script_end.ScriptFault.{ScriptFault}
use Rattle.csv_rows.specs.declared.script_end.ScriptFault.TheVariants.{NoStart, BadStart, BadRow, Long}
use Rattle.csv_rows.specs.declared.script_end.Outcome.TheVariants.{Clean, Refused}
use Rattle.cell_replay.specs.Versions.{version_of}
use Rattle.cell_replay.specs.declared.version.Version.{Version}
use Rattle.cell_replay.specs.declared.script_start.Start.{Start}
use Rattle.cell_replay.specs.Script.{event_line, event_lines, events_from, is_cut_of, lines_from, outcome_from, requests_in, rows_lines, rows_outcome, rows_start, script_events, script_lines, script_outcome, script_rows, script_start, start_by, start_fields, start_in, start_of, start_of_version}
use Rattle.cell_replay.proofs.Lines.{legal-history_of, length-history_of, length-requests_in}

-- The events.

legal-events_from : (start : Result Start ScriptFault) (rows : List Row) → IfOk start (λ given. IsLegal given.state (events_from start rows))
legal-events_from (Ok start) rows = legal-history_of start.state (requests_in start.version (take max_records rows))
legal-events_from (Err fault) rows = tt

pub legal-script_events : (bytes : List ℕ) → IfOk (script_start bytes) (λ start. IsLegal start.state (script_events bytes))
unfolding script_start script_events
legal-script_events bytes = legal-events_from (rows_start (is_cut_of bytes) (script_rows bytes)) (drop 1 (script_rows bytes))

-- The start.

start_tested : (full : PlaceSet) (stamp : ℕ) → is_start full stamp ≡ true → IsStart full stamp
start_tested full stamp e =
    let all = and_parts (nat_le (size_of full) 6 && not (has full PressIn && has full PressOut)) (nat_le stamp last_stamp) e in
    let first = and_parts (nat_le (size_of full) 6) (not (has full PressIn && has full PressOut)) all.0 in
    record {
      six_plates_at_most = leb-true (size_of full) 6 first.0;
      one_in_press_at_most = not-true (has full PressIn && has full PressOut) first.1;
      stamp_in_range = leb-true stamp last_stamp all.1;
    }

-- a start that was checked is valid, and a fault of record 0 is no bad row; it is too many bytes only if the script is
-- cut
abbrev pub IsEarly : Bool → ScriptFault → Type 0
IsEarly is_cut NoStart = ⊤
IsEarly is_cut BadStart = ⊤
IsEarly is_cut (BadRow number) = ⊥
IsEarly is_cut Long = is_cut ≡ true

abbrev pub IsState0 : Bool → Result ModelState ScriptFault → Type 0
IsState0 is_cut state = MatchResult state IsStartState (IsEarly is_cut)

abbrev pub IsRecord0 : Bool → Result Start ScriptFault → Type 0
IsRecord0 is_cut start = MatchResult start (λ given. IsStartState given.state) (IsEarly is_cut)

start_of-record0 : (is_cut : Bool) (flags : Option (List Bool)) (stamp : Option ℕ) → IsState0 is_cut (start_of flags stamp)
start_of-record0 is_cut (Some flags) (Some stamp) =
    cond_both (is_start (places_of flags) stamp) (Ok (start_state (places_of flags) stamp)) (Err BadStart) (IsState0 is_cut) (λ e. record { start = start_tested (places_of flags) stamp e; same = refl }) (λ _. tt)
start_of-record0 is_cut (Some flags) None = tt
start_of-record0 is_cut None stamp = tt

pub start_fields-record0 : (is_cut : Bool) (fields : Row) → IsState0 is_cut (start_fields fields)
start_fields-record0 is_cut [] = tt
start_fields-record0 is_cut (places ∷ []) = start_of-record0 is_cut (places_in places) (Some 0)
start_fields-record0 is_cut (places ∷ stamp ∷ []) = start_of-record0 is_cut (places_in places) (number_in stamp)
start_fields-record0 is_cut (places ∷ stamp ∷ more ∷ rest) = tt

of_version : (is_cut : Bool) (version : Version) (state : Result ModelState ScriptFault) → IsState0 is_cut state → IsRecord0 is_cut (start_of_version version state)
of_version is_cut version (Ok s) h = h
of_version is_cut version (Err fault) h = h

by_word : (is_cut : Bool) (version : Option Version) (fields : Row) → IsRecord0 is_cut (start_by version fields)
by_word is_cut (Some version) fields = of_version is_cut version (start_fields fields) (start_fields-record0 is_cut fields)
by_word is_cut None fields = tt

start_in-record0 : (is_cut : Bool) (row : Row) → IsRecord0 is_cut (start_in row)
unfolding start_in
start_in-record0 is_cut [] = tt
start_in-record0 is_cut (word ∷ fields) = by_word is_cut (version_of word) fields

no_records : (is_cut : Bool) → IsEarly is_cut (cond is_cut Long NoStart)
no_records true = refl
no_records false = tt

rows_start-record0 : (is_cut : Bool) (rows : List Row) → IsRecord0 is_cut (rows_start is_cut rows)
rows_start-record0 is_cut [] = no_records is_cut
rows_start-record0 is_cut (row ∷ rows) = start_in-record0 is_cut row

given : (is_cut : Bool) (start : Result Start ScriptFault) → IsRecord0 is_cut start → IfOk start (λ s. IsStartState s.state)
given is_cut (Ok s) h = h
given is_cut (Err fault) h = tt

pub given-script_start : (bytes : List ℕ) → IfOk (script_start bytes) (λ start. IsStartState start.state)
unfolding script_start
given-script_start bytes = given _ _ (rows_start-record0 (is_cut_of bytes) (script_rows bytes))

-- The lines.

length-events_from : (start : Result Start ScriptFault) (rows : List Row) → (length (events_from start rows) ≤ length rows) × (length (events_from start rows) ≤ max_records)
length-events_from (Ok start) rows =
    let requests = take max_records rows in
    let each : length (events_from (Ok start) rows) ≡ length (requests_in start.version requests) = length-history_of start.state (requests_in start.version requests) in
    let few : length (requests_in start.version requests) ≤ length requests = length-requests_in start.version requests in
    let most : length requests ≡ min max_records (length rows) = length-take max_records rows in
    (omega (arith, each, few, most), omega (arith, each, few, most))
length-events_from (Err fault) rows = (omega arith, omega arith)

length-event_lines : (s : ModelState) (history : List Event) → length (event_lines s history) ≡ length history
length-event_lines s history = length-map (enumerate_from 1 history) (event_line s history) ∙ length-enumerate_from 1 history

length-lines_from : (start : Result Start ScriptFault) (rows : List Row) → length (lines_from start (events_from start rows)) ≤ max_records + 1
length-lines_from (Ok s) rows = let few = length-events_from (Ok s) rows in omega (arith, length-event_lines s.state (events_from (Ok s) rows), few.1)
length-lines_from (Err fault) rows = omega arith

pub length-script_lines : (bytes : List ℕ) → length (script_lines bytes) ≤ 65537
unfolding script_lines
length-script_lines bytes = length-lines_from (rows_start (is_cut_of bytes) (script_rows bytes)) (drop 1 (script_rows bytes))

-- a script with a bad row has as many lines as the row's number says
bad_end : (is_cut few full : Bool) (answered number : ℕ) → cond few (Refused (cond full Long (BadRow (answered + 1)))) (cond is_cut (Refused Long) Clean) ≡ Refused (BadRow number) → number ≡ answered + 1
bad_end is_cut true true answered number e = absurd (cc)
bad_end is_cut true false answered number e = cc
bad_end true false full answered number e = absurd (cc)
bad_end false false full answered number e = absurd (cc)

lines_at_bad_row : (is_cut : Bool) (start : Result Start ScriptFault) (rows : List Row) (number : ℕ) → IsRecord0 is_cut start
    → outcome_from is_cut start (length (events_from start rows)) (length rows) ≡ Refused (BadRow number) → length (lines_from start (events_from start rows)) ≡ number
lines_at_bad_row is_cut (Ok s) rows number h e =
    let answered = length (events_from (Ok s) rows) in
    let is : number ≡ answered + 1 = bad_end is_cut (nat_lt answered (length rows)) (answered == max_records) answered number e in
    omega (arith, is, length-event_lines s.state (events_from (Ok s) rows))
lines_at_bad_row is_cut (Err NoStart) rows number h e = absurd (cc)
lines_at_bad_row is_cut (Err BadStart) rows number h e = absurd (cc)
lines_at_bad_row is_cut (Err (BadRow other)) rows number h e = absurd h
lines_at_bad_row is_cut (Err Long) rows number h e = absurd (cc)

pub lines-bad_row : (bytes : List ℕ) (number : ℕ) → script_outcome bytes ≡ Refused (BadRow number) → length (script_lines bytes) ≡ number
unfolding script_outcome script_lines
lines-bad_row bytes number e =
    lines_at_bad_row (is_cut_of bytes) (rows_start (is_cut_of bytes) (script_rows bytes)) (drop 1 (script_rows bytes)) number (rows_start-record0 (is_cut_of bytes) (script_rows bytes)) e

-- a clean script has a line for each record
clean_end : (is_cut few full : Bool) (answered : ℕ) → cond few (Refused (cond full Long (BadRow (answered + 1)))) (cond is_cut (Refused Long) Clean) ≡ Clean → few ≡ false
clean_end is_cut true full answered e = absurd (cc)
clean_end is_cut false full answered e = refl

lines_of_clean : (is_cut : Bool) (start : Result Start ScriptFault) (rows : List Row) → outcome_from is_cut start (length (events_from start rows)) (length rows) ≡ Clean
    → length (lines_from start (events_from start rows)) ≡ length rows + 1
lines_of_clean is_cut (Ok s) rows e =
    let answered = length (events_from (Ok s) rows) in
    let all : length rows ≤ answered = ltb-false answered (length rows) (clean_end is_cut (nat_lt answered (length rows)) (answered == max_records) answered e) in
    let few = length-events_from (Ok s) rows in
    omega (arith, all, few.0, length-event_lines s.state (events_from (Ok s) rows))
lines_of_clean is_cut (Err fault) rows e = absurd (cc)

rows_of_clean : (is_cut : Bool) (rows : List Row) → rows_outcome is_cut rows ≡ Clean → length (rows_lines is_cut rows) ≡ length rows
rows_of_clean is_cut [] e = absurd (cc)
rows_of_clean is_cut (row ∷ rows) e = (let lines : length (rows_lines is_cut (row ∷ rows)) ≡ length rows + 1 = lines_of_clean is_cut (start_in row) rows e in omega (arith, lines))

pub lines-clean : (bytes : List ℕ) → script_outcome bytes ≡ Clean → length (script_lines bytes) ≡ length (script_rows bytes)
unfolding script_outcome script_lines
lines-clean bytes e = rows_of_clean (is_cut_of bytes) (script_rows bytes) e

-- a long script has a line for each record that is used, up to the most that are answered
long_end : (is_cut few full : Bool) (answered : ℕ) → cond few (Refused (cond full Long (BadRow (answered + 1)))) (cond is_cut (Refused Long) Clean) ≡ Refused Long
    → ((few ≡ true) × (full ≡ true)) ⊎ ((few ≡ false) × (is_cut ≡ true))
long_end is_cut true true answered e = inl (refl, refl)
long_end is_cut true false answered e = absurd (cc)
long_end true false full answered e = inr (refl, refl)
long_end false false full answered e = absurd (cc)

lines_of_long : (is_cut : Bool) (start : Result Start ScriptFault) (rows : List Row) → IsRecord0 false start
    → outcome_from is_cut start (length (events_from start rows)) (length rows) ≡ Refused Long
    → (length (lines_from start (events_from start rows)) ≡ min 65537 (length rows + 1)) × ((is_cut ≡ true) ⊎ (65537 ≤ length rows))
lines_of_long is_cut (Ok s) rows h e =
    let answered = length (events_from (Ok s) rows) in
    let few = length-events_from (Ok s) rows in
    let lines = length-event_lines s.state (events_from (Ok s) rows) in
    elim (long_end is_cut (nat_lt answered (length rows)) (answered == max_records) answered e) [
      | inl more ↦
          let lt : answered < length rows = ltb-true answered (length rows) more.0 in
          let all : answered ≡ max_records = eqb-true answered max_records more.1 in
          (omega (arith, lt, all, lines), inr (omega (arith, lt, all)))
      | inr cut ↦ let each : length rows ≤ answered = ltb-false answered (length rows) cut.0 in (omega (arith, each, few.0, few.1, lines), inl cut.1)
    ]
lines_of_long is_cut (Err NoStart) rows h e = absurd (cc)
lines_of_long is_cut (Err BadStart) rows h e = absurd (cc)
lines_of_long is_cut (Err (BadRow number)) rows h e = absurd h
lines_of_long is_cut (Err Long) rows h e = absurd (cc)

rows_of_long : (is_cut : Bool) (rows : List Row) → rows_outcome is_cut rows ≡ Refused Long → length (rows_lines is_cut rows) ≡ min 65537 (length rows)
rows_of_long is_cut [] e = omega arith
rows_of_long is_cut (row ∷ rows) e = (let lines = (lines_of_long is_cut (start_in row) rows (start_in-record0 false row) e).0 in omega (arith, lines))

rows_of_long_whole : (is_cut : Bool) (rows : List Row) → is_cut ≡ false → rows_outcome is_cut rows ≡ Refused Long → length (rows_lines is_cut rows) ≡ 65537
rows_of_long_whole true rows whole e = absurd (cc)
rows_of_long_whole false [] whole e = absurd (cc)
rows_of_long_whole false (row ∷ rows) whole e =
    let lines = lines_of_long false (start_in row) rows (start_in-record0 false row) e in
    elim lines.1 [
      | inl cut ↦ absurd (cc)
      | inr many ↦ omega (arith, lines.0, many)
    ]

pub lines-cut : (bytes : List ℕ) → script_outcome bytes ≡ Refused Long → length (script_lines bytes) ≡ min 65537 (length (script_rows bytes))
unfolding script_outcome script_lines
lines-cut bytes e = rows_of_long (is_cut_of bytes) (script_rows bytes) e

not_cut : (bytes : List ℕ) → length bytes ≤ 4194304 → is_cut_of bytes ≡ false
not_cut bytes few = grind (arith, nat_tests)

pub lines-long : (bytes : List ℕ) → script_outcome bytes ≡ Refused Long → length bytes ≤ 4194304 → length (script_lines bytes) ≡ 65537
unfolding script_outcome script_lines
lines-long bytes e few = rows_of_long_whole (is_cut_of bytes) (script_rows bytes) (not_cut bytes few) e

-- what the laws say of a script
pub ruleset script_laws = (given-script_start, legal-script_events, length-script_lines, lines-bad_row, lines-clean, lines-cut, lines-long)
