-- The script of a legal history is answered as the history says.
use Rattle.std.proofs.Common.{◌≡◌, ◌<◌, ◌≤◌, ◌+◌, ◌++◌, ◌∷◌, ◌∙◌, ℕ, Bool, true, false, cond, List, [], Some, Ok, ap, ap₂, append_assoc, sym, refl, length, map, nat_lt, take, arith}
use Rattle.std.specs.List.{concat, list_all}
use Rattle.std.proofs.lemmas.Bool.{and_parts}
use Rattle.std.proofs.lemmas.Bool.Decides.{nat_tests}
use Rattle.std.proofs.lemmas.List.{append-nil, length-append, length-map, take_all}
use Rattle.std.specs.Fmt.{decimal}
use Rattle.csv.specs.Reading.{default_config, records, records_from, strip_bom}
use Rattle.csv.specs.declared.parser.State.TheVariants as st
use Rattle.cell_types.specs.declared.answer.Event.{Event}
use Rattle.cell_rules.specs.Names.{ModelState, IsLegal, next, reply, IsStartState}
use Rattle.csv_rows.specs.Rows.{Row}
use Rattle.csv_rows.specs.ScriptEnd.{end_text, max_records}
use Rattle.csv_rows.specs.declared.script_end.Outcome.TheVariants.{Clean}
use Rattle.cell_replay.specs.Requests.{request, request_of}
use Rattle.cell_replay.specs.Script.{byte_limit, end_of, event_lines, events_from, history_of, is_cut_of, lines_from, outcome_from, requests_in, rows_events, rows_lines, rows_outcome, rows_start, script_events, script_lines, script_outcome, script_rows, script_start, script_text, start_line, used}
use Rattle.cell_replay.specs.Versions.{has_call, version_word}
use Rattle.cell_replay.specs.declared.request.Request.{Request}
use Rattle.cell_replay.specs.declared.version.Version.{Version}
use Rattle.cell_replay.specs.declared.version.Version.TheVariants.{First, Second}
use Rattle.cell_replay.proofs.lemmas.Requests.{request_of-written}
use Rattle.history_app.specs.Answered.{HistoriesAreAnswered, IsAnswered, start_of}
use Rattle.history_app.specs.Scripts.{after_comma, digits_of, event_row, fits_first, line_of_row, opening_row, rows_of, script_of, version_for}
use Rattle.history_app.proofs.Reading.{AllRead, events-long, events-read, events-short, records_from-lines}
use Rattle.history_app.proofs.Openings.{opening-long, opening-reads, opening-short, start_in-opening}

-- The requests of the records are the machines and calls of the events.

abbrev request_by : Event → Request
request_by e = request e.machine e.call

abbrev AllHave : Version → List Event → Type 0
AllHave version events = list_all (λ e. has_call version e.call) events ≡ true

all-second : (events : List Event) → AllHave Second events
all-second [] = refl
all-second (e ∷ events) = all-second events

by_test : (events : List Event) (b : Bool) → fits_first events ≡ b → AllHave (cond b First Second) events
by_test events true e = e
by_test events false e = all-second events

all-have : (events : List Event) → AllHave (version_for events) events
all-have events = by_test events (fits_first events) refl

request_of-event : (version : Version) (e : Event) → has_call version e.call ≡ true → request_of version (event_row e) ≡ Some (request_by e)
unfolding event_row
request_of-event version e h = (request_of-written version (event_row e) (request_by e)).1 (refl, h)

requests_in-events : (version : Version) (events : List Event) → AllHave version events → requests_in version (map event_row events) ≡ map request_by events
unfolding requests_in
requests_in-events version [] h = refl
requests_in-events version (e ∷ events) h =
    let both = and_parts (has_call version e.call) (list_all (λ x. has_call version x.call) events) h in
    rw (request_of-event version e both.0) (ap (λ more. request_by e ∷ more) (requests_in-events version events both.1))

-- Their history is the events, if these are legal.

same-event : (s : ModelState) (e : Event) → e.answer ≡ reply s e.machine e.call → record { machine = e.machine; call = e.call; answer = reply s e.machine e.call } ≡ e
same-event s e h = ap (λ answer. let x : Event = record { machine = e.machine; call = e.call; answer = answer } in x) (sym h)

history_of-events : (s : ModelState) (events : List Event) → IsLegal s events → history_of s (map request_by events) ≡ events
unfolding history_of
history_of-events s [] h = refl
history_of-events s (e ∷ events) h = ap₂ (λ x more. x ∷ more) (same-event s e h.0) (history_of-events (next s e.machine e.call) events h.1)

-- The records of the script.

start-word : (version : Version) (rest : List ℕ) → strip_bom (version_word version ++ rest) ≡ version_word version ++ rest
unfolding strip_bom
start-word First rest = refl
start-word Second rest = refl

read_whole : (bytes : List ℕ) (rows : List Row) → length bytes ≤ byte_limit → is_cut_of bytes ≡ false → strip_bom bytes ≡ bytes → AllRead rows → length rows < length bytes + 1 → bytes ≡ concat (map line_of_row rows) → script_rows bytes ≡ rows
read_whole bytes rows short whole bom read long is =
    ap (λ cut. used cut (records default_config (strip_bom (take byte_limit bytes)))) whole
    ∙ ap (λ taken. records default_config (strip_bom taken)) (take_all byte_limit bytes short)
    ∙ ap (records default_config) bom
    ∙ ap (records_from default_config (length bytes + 1) st.StartRecord) is
    ∙ records_from-lines (length bytes + 1) rows read long

ends_clean : (answered count : ℕ) → count ≤ answered → end_of false answered count ≡ Clean
ends_clean answered count all = (let none : nat_lt answered count ≡ false = grind (arith, nat_tests) in rw none refl)

module _ (opening : ModelState) (events : List Event) (start : IsStartState opening) (legal : IsLegal opening events) (few : length events ≤ max_records) where
  abbrev bytes : List ℕ
  bytes = script_of opening events

  abbrev rest : List ℕ
  rest = concat (map line_of_row (map event_row events))

  split : bytes ≡ line_of_row (opening_row opening events) ++ rest
  unfolding script_of
  split = refl

  length-split : length bytes ≡ length (line_of_row (opening_row opening events)) + length rest
  length-split = ap length split ∙ length-append (line_of_row (opening_row opening events)) rest

  short : length bytes ≤ byte_limit
  short = omega (arith, few, opening-short opening events start, events-short events, length-split)

  long : length (rows_of opening events) < length bytes + 1
  long = omega (arith, opening-long opening events, events-long events, length-split, length-map events event_row)

  not_cut : is_cut_of bytes ≡ false
  not_cut = (let l = short in grind (arith, nat_tests))

  no_bom : strip_bom bytes ≡ bytes
  no_bom =
      let word = version_word (version_for events) in
      let after = after_comma (digits_of opening.full ∷ decimal opening.stamp ∷ []) in
      let is : bytes ≡ word ++ (after ++ rest) = split ∙ append_assoc word after rest in
      ap strip_bom is ∙ start-word (version_for events) (after ++ rest) ∙ sym is

  rows-script : script_rows bytes ≡ rows_of opening events
  rows-script = read_whole bytes (rows_of opening events) short not_cut no_bom (opening-reads opening events start, events-read events) long split

  start-script : script_start bytes ≡ Ok (start_of opening events)
  unfolding script_start
  start-script = ap₂ rows_start not_cut rows-script ∙ start_in-opening opening events start

  events-rows : rows_events false (rows_of opening events) ≡ events
  events-rows =
      let requests = map event_row events in
      ap (λ s. events_from s requests) (start_in-opening opening events start)
      ∙ ap (λ rows. history_of opening (requests_in (version_for events) rows)) (take_all max_records requests (omega (arith, few, length-map events event_row)))
      ∙ ap (history_of opening) (requests_in-events (version_for events) events (all-have events))
      ∙ history_of-events opening events legal

  events-script : script_events bytes ≡ events
  unfolding script_events
  events-script = ap₂ rows_events not_cut rows-script ∙ events-rows

  clean-script : script_outcome bytes ≡ Clean
  unfolding script_outcome
  clean-script =
      ap₂ rows_outcome not_cut rows-script
      ∙ ap₂ (λ s history. outcome_from false s (length history) (length (map event_row events))) (start_in-opening opening events start) events-rows
      ∙ ends_clean (length events) (length (map event_row events)) (omega (arith, length-map events event_row))

  lines-script : script_lines bytes ≡ start_line (start_of opening events) ∷ event_lines opening events
  unfolding script_lines
  lines-script = ap₂ rows_lines not_cut rows-script ∙ ap₂ lines_from (start_in-opening opening events start) events-rows

  text-script : script_text bytes ≡ concat (start_line (start_of opening events) ∷ event_lines opening events)
  unfolding script_text
  text-script = ap₂ (λ lines outcome. concat lines ++ end_text outcome) lines-script clean-script ∙ append-nil _

  answered : IsAnswered opening events
  answered = record { start = start-script; events = events-script; clean = clean-script; text = text-script }

pub histories_answered : HistoriesAreAnswered
histories_answered opening history start legal few = answered opening history start legal few
