-- The lines of a script in order, and what another record adds.
use Rattle.std.proofs.lemmas.List.{length_push}
use Rattle.std.proofs.Common.{ℕ, suc, ◌≡◌, ◌≤◌, ◌+◌, List, [], ◌∷◌, ◌++◌, Option, Some, None, length, map, take, refl, sym, ◌∙◌, ap, ap₂, arith, append_assoc}
use Rattle.std.specs.List.{enumerate_from}
use Rattle.std.specs.Option.{option_map_or}
use Rattle.std.proofs.Math.Seq.{take-append_seam}
use Rattle.cell_rules.specs.Types.{Event, answer_text}
use Rattle.cell_rules.specs.Names.{ModelState, next, reply, IsLegal, after}
use Rattle.csv_rows.specs.Rows.{Row}
use Rattle.cell_replay.specs.Requests.{request_of}
use Rattle.cell_replay.specs.Script.{event_line, event_lines, event_of, history_of, line_of, requests_in}
use Rattle.cell_replay.specs.declared.request.Request.{Request}
use Rattle.cell_replay.specs.declared.version.Version.{Version}
use Rattle.cell_replay.specs.Writing.{lines_after}

after-append : (s : ModelState) (a b : List Event) → after s (a ++ b) ≡ after (after s a) b
after-append s [] b = refl
after-append s (e ∷ a) b = after-append (next s e.machine e.call) a b

-- the lines of the events that follow earlier ones
lines-after : (s now : ModelState) (h before : List Event) (n : ℕ) (rs : List Request) → now ≡ after s before → n ≡ length before → h ≡ before ++ history_of now rs
    → map (event_line s h) (enumerate_from (n + 1) (history_of now rs)) ≡ lines_after n now rs
unfolding history_of lines_after
lines-after s now h before n [] state count whole = refl
lines-after s now h before n (r ∷ rs) state count whole =
    let front : List Event = before ++ event_of now r ∷ [] in
    let rest : List Event = history_of (next now r.machine r.call) rs in
    let more : n + 1 ≡ length front = omega (arith, length_push before (event_of now r)) in
    let split : h ≡ front ++ rest = whole ∙ sym (append_assoc before (event_of now r ∷ []) rest) in
    let taken : take (n + 1) h ≡ front = ap₂ take more split ∙ take-append_seam front rest in
    let there : next now r.machine r.call ≡ after s front = ap (λ t. next t r.machine r.call) state ∙ sym (after-append s before (event_of now r ∷ [])) in
    let here : after s (take (n + 1) h) ≡ next now r.machine r.call = ap (after s) taken ∙ sym there in
    ap₂ (λ line lines. line ∷ lines) (ap (λ (t : ModelState). line_of (n + 1) t.stamp (answer_text (reply now r.machine r.call))) here)
    (lines-after s (next now r.machine r.call) h front (n + 1) rs there more split)

pub event_lines-after : (s : ModelState) (rs : List Request) → event_lines s (history_of s rs) ≡ lines_after 0 s rs
event_lines-after s rs = lines-after s s (history_of s rs) [] 0 rs refl refl refl

-- Another record.

pub requests_in-none : (version : Version) → requests_in version [] ≡ []
unfolding requests_in
requests_in-none version = refl

pub requests_in-bad : (version : Version) (row : Row) (rows : List Row) → request_of version row ≡ None → requests_in version (row ∷ rows) ≡ []
unfolding requests_in
requests_in-bad version row rows bad = rw bad refl

pub requests_in-more : (version : Version) (row : Row) (rows : List Row) (r : Request) → request_of version row ≡ Some r → requests_in version (row ∷ rows) ≡ r ∷ requests_in version rows
unfolding requests_in
requests_in-more version row rows r good = rw good refl

pub lines_after-none : (done : ℕ) (s : ModelState) → lines_after done s [] ≡ []
unfolding lines_after
lines_after-none done s = refl

pub lines_after-more : (done : ℕ) (s : ModelState) (r : Request) (rs : List Request)
    → lines_after done s (r ∷ rs) ≡ line_of (done + 1) (next s r.machine r.call).stamp (answer_text (reply s r.machine r.call)) ∷ lines_after (done + 1) (next s r.machine r.call) rs
unfolding lines_after
lines_after-more done s r rs = refl

-- The number of requests and events.

length-first : (o : Option Request) (rs : List Request) (n : ℕ) → length rs ≤ n → length (option_map_or (λ r. r ∷ rs) o []) ≤ suc n
length-first None rs n h = omega arith
length-first (Some r) rs n h = omega arith

pub length-requests_in : (version : Version) (rows : List Row) → length (requests_in version rows) ≤ length rows
unfolding requests_in
length-requests_in version [] = omega arith
length-requests_in version (row ∷ rows) = length-first (request_of version row) (requests_in version rows) (length rows) (length-requests_in version rows)

pub length-history_of : (s : ModelState) (rs : List Request) → length (history_of s rs) ≡ length rs
unfolding history_of
length-history_of s [] = refl
length-history_of s (r ∷ rs) = ap suc (length-history_of (next s r.machine r.call) rs)

-- the history is legal, since each event has the reply
pub legal-history_of : (s : ModelState) (rs : List Request) → IsLegal s (history_of s rs)
unfolding history_of
legal-history_of s [] = tt
legal-history_of s (r ∷ rs) = (refl, legal-history_of (next s r.machine r.call) rs)
