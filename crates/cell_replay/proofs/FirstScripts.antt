-- A script of the first version has the text of the first version: the same requests, each with the same answer.
use Rattle.std.proofs.Common.{ℕ, zero, suc, ◌≡◌, Bool, true, false, cond, List, [], ◌∷◌, ◌++◌, Option, Some, None, Result, Ok, Err, IfOk, OnOk, IfSome, length, map, take, drop, codes, refl, ◌∙◌, ap, ap₂}
use Rattle.std.specs.Prelude.{⊤}
use Rattle.std.specs.List.{concat, enumerate_from}
use Rattle.std.specs.Option.{option_map_or}
use Rattle.std.specs.Str.{bytes_eq}
use Rattle.std.specs.Io.KnownBytes.{Appends}
use Rattle.cell_rules.specs.Types.{Event, answer_text}
use Rattle.cell_rules.specs.Names.{ModelState, next, after}
use Rattle.cell_rules.specs.FirstVersion as rules
use Rattle.cell_rules.proofs.lemmas.FirstVersion as stays
use Rattle.csv_rows.specs.Rows.{Row}
use Rattle.csv_rows.specs.ScriptEnd.{end_text, max_records}
use Rattle.csv_rows.specs.declared.script_end.ScriptFault.{ScriptFault}
use Rattle.csv_rows.specs.declared.script_end.ScriptFault.TheVariants.{NoStart}
use Rattle.csv_rows.specs.declared.script_end.Outcome.{Outcome}
use Rattle.cell_replay.specs.Requests.{call_of, request_of}
use Rattle.cell_replay.specs.Script.{end_of, event_line, event_lines, events_from, history_of, is_cut_of, line_of, lines_from, outcome_from, requests_in, rows_lines, rows_outcome, script_lines, script_outcome, script_rows, script_text, start_by, start_fields, start_in, start_of_version}
use Rattle.cell_replay.specs.FirstVersion as first
use Rattle.cell_replay.specs.FirstVersion.{IsOfFirstVersion, begins_with_start2, call_of as first_call_of, request_of as first_request_of, requests_in as first_requests_in, history_of as first_history_of, after as first_after, start_in as first_start_in, script_text as first_script_text}
use Rattle.cell_replay.specs.Writing.{WritesScript}
use Rattle.cell_replay.specs.declared.request.Request.{Request}
use Rattle.cell_replay.specs.declared.version.Version.TheVariants.{First, Second}
use Rattle.cell_replay.specs.declared.script_start.Start.{Start}
use Rattle.cell_replay.specs.declared.fault.ReplayFault.{ReplayFault}
use Rattle.cell_replay.proofs.lemmas.Requests.{request_of-written}
use Rattle.cell_replay.proofs.Scripts.{IsState0, start_fields-record0}

-- The requests.

request_of-same : (row : Row) → request_of First row ≡ first_request_of row
unfolding request_of call_of first_request_of first_call_of
request_of-same [] = refl
request_of-same (word ∷ fields) = refl

requests_in-same : (rows : List Row) → requests_in First rows ≡ first_requests_in rows
unfolding requests_in first_requests_in
requests_in-same [] = refl
requests_in-same (row ∷ rows) = ap₂ (λ o rest. option_map_or (λ request. request ∷ rest) o []) (request_of-same row) (requests_in-same rows)

-- the first version has the calls of these requests
abbrev AreOld : List Request → Type 0
AreOld [] = ⊤
AreOld (r ∷ rs) = (rules.has_call r.call ≡ true) × AreOld rs

old_first : (o : Option Request) (rs : List Request) → ((r : Request) → o ≡ Some r → rules.has_call r.call ≡ true) → AreOld rs → AreOld (option_map_or (λ request. request ∷ rs) o [])
old_first None rs has old = tt
old_first (Some r) rs has old = (has r refl, old)

requests_in-old : (rows : List Row) → AreOld (requests_in First rows)
unfolding requests_in
requests_in-old [] = tt
requests_in-old (row ∷ rows) = old_first (request_of First row) (requests_in First rows) (λ r e. ((request_of-written First row r).0 e).1) (requests_in-old rows)

-- The history. The cell isn't stopped in any of its states.

history_of-same : (s : ModelState) (rs : List Request) → s.stopped ≡ false → AreOld rs → history_of s rs ≡ first_history_of s rs
unfolding history_of first_history_of
history_of-same s [] goes old = refl
history_of-same s (r ∷ rs) goes old =
    let stays_so = stays.first_version s r.machine r.call goes old.0 in
    let rest = history_of-same (next s r.machine r.call) rs stays_so.unmarked old.1 ∙ ap (λ t. first_history_of t rs) stays_so.left in
    ap₂ (λ a events. (record { machine = r.machine; call = r.call; answer = a }) ∷ events) stays_so.answer rest

after-same : (s : ModelState) (rs : List Request) (n : ℕ) → s.stopped ≡ false → AreOld rs → after s (take n (history_of s rs)) ≡ first_after s (take n (history_of s rs))
unfolding history_of first_after
after-same s [] zero goes old = refl
after-same s [] (suc n) goes old = refl
after-same s (r ∷ rs) zero goes old = refl
after-same s (r ∷ rs) (suc n) goes old =
    let stays_so = stays.first_version s r.machine r.call goes old.0 in
    after-same (next s r.machine r.call) rs n stays_so.unmarked old.1 ∙ ap (λ t. first_after t (take n (history_of (next s r.machine r.call) rs))) stays_so.left

-- The lines.

map-same : {A B : Type 0} (f g : A → B) (xs : List A) → ((x : A) → f x ≡ g x) → map f xs ≡ map g xs
map-same f g [] same = refl
map-same f g (x ∷ xs) same = ap₂ (λ y ys. y ∷ ys) (same x) (map-same f g xs same)

event_line-same : (s : ModelState) (h : List Event) (p : ℕ × Event) → after s (take p.0 h) ≡ first_after s (take p.0 h) → event_line s h p ≡ first.event_line s h p
event_line-same s h (number, event) same = ap (λ (t : ModelState). line_of number t.stamp (answer_text event.answer)) same

event_lines-same : (s : ModelState) (rs : List Request) → s.stopped ≡ false → AreOld rs
    → event_lines s (history_of s rs) ≡ map (first.event_line s (first_history_of s rs)) (enumerate_from 1 (first_history_of s rs))
event_lines-same s rs goes old =
    let h = history_of s rs in
    map-same (event_line s h) (first.event_line s h) (enumerate_from 1 h) (λ p. event_line-same s h p (after-same s rs p.0 goes old))
    ∙ ap (λ k. map (first.event_line s k) (enumerate_from 1 k)) (history_of-same s rs goes old)

-- The text.

abbrev text_by : Bool → Result Start ScriptFault → List Row → List ℕ
text_by is_cut start rows =
    concat (lines_from start (events_from start rows)) ++ end_text (outcome_from is_cut start (length (events_from start rows)) (length rows))

started : (is_cut : Bool) (s : ModelState) (rows : List Row) → s.stopped ≡ false → text_by is_cut (start_of_version First (Ok s)) rows ≡ first.text_from is_cut (Ok s) rows
started is_cut s rows goes =
    let used = take max_records rows in
    let rs = requests_in First used in
    let old = requests_in-old used in
    ap₂ (λ lines n. concat (first.start_line s ∷ lines) ++ end_text (end_of is_cut n (length rows))) (event_lines-same s rs goes old) (ap length (history_of-same s rs goes old))
    ∙ ap (λ requests. first.text_of is_cut s (first_history_of s requests) (length rows)) (requests_in-same used)

by_state : (is_cut : Bool) (state : Result ModelState ScriptFault) (rows : List Row) → IfOk state (λ s. s.stopped ≡ false) → text_by is_cut (start_of_version First state) rows ≡ first.text_from is_cut state rows
by_state is_cut (Ok s) rows goes = started is_cut s rows goes
by_state is_cut (Err fault) rows goes = refl

starts_unstopped : (fields : Row) → IfOk (start_fields fields) (λ s. s.stopped ≡ false)
starts_unstopped fields = by (start_fields fields) (start_fields-record0 false fields)
  where
    by : (state : Result ModelState ScriptFault) → IsState0 false state → IfOk state (λ s. s.stopped ≡ false)
    by (Ok s) h = ap (λ (t : ModelState). t.stopped) h.same
    by (Err fault) h = tt

by_word : (is_cut is_first is_second : Bool) (fields : Row) (rows : List Row) → is_second ≡ false
    → text_by is_cut (start_by (cond is_first (Some First) (cond is_second (Some Second) None)) fields) rows ≡ first.text_from is_cut (cond is_first (start_fields fields) (Err NoStart)) rows
by_word is_cut true is_second fields rows other = by_state is_cut (start_fields fields) rows (starts_unstopped fields)
by_word is_cut false true fields rows other = absurd (cc)
by_word is_cut false false fields rows other = refl

text_of_rows : (is_cut : Bool) (rows : List Row) → begins_with_start2 rows ≡ false → concat (rows_lines is_cut rows) ++ end_text (rows_outcome is_cut rows) ≡ first.text_from is_cut (first_start_in is_cut rows) (drop 1 rows)
unfolding start_in first_start_in
text_of_rows is_cut [] other = refl
text_of_rows is_cut ([] ∷ rows) other = refl
text_of_rows is_cut ((word ∷ fields) ∷ rows) other = by_word is_cut (bytes_eq word (codes "start")) (bytes_eq word (codes "start2")) fields rows other

pub first_text_stays : (bytes : List ℕ) → IsOfFirstVersion bytes → script_text bytes ≡ first_script_text bytes
unfolding script_text script_lines script_outcome first_script_text
first_text_stays bytes other = text_of_rows (is_cut_of bytes) (script_rows bytes) other

pub written-first : (o : Option (List ℕ)) (old new : Option (List ℕ)) (r : Result Outcome ReplayFault) → ((bytes : List ℕ) → o ≡ Some bytes → WritesScript bytes old new r)
    → OnOk r (IfSome o (λ bytes. IsOfFirstVersion bytes → Appends old new (first_script_text bytes)))
written-first (Some bytes) old new (Ok x) f = λ other. rw (← first_text_stays bytes other) (f bytes refl).1
written-first None old new (Ok x) f = tt
written-first o old new (Err fault) f = tt
