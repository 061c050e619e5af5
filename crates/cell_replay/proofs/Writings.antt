-- What is written for the records that are left, one at a time.
use Rattle.std.proofs.Common.{ℕ, suc, ◌≡◌, ◌<◌, ◌≤◌, ◌+◌, ◌-◌, Bool, cond, List, [], ◌∷◌, ◌++◌, length, take, min, Option, Some, None, Result, Ok, Err, IfSome, IfOk, OnOk, refl, sym, ◌∙◌, ap, ap₂, arith, append_assoc, append-nil, subst}
use Rattle.std.specs.List.{concat}
use Rattle.std.specs.Result.{IsErrAnd}
use Rattle.std.specs.Io.KnownBytes.{Appends, Keeps}
use Rattle.std.proofs.KnownBytes.{Appends-kept, Appends-nil, Appends-trans}
use Rattle.std.proofs.Math.Seq.{take-append-add}
use Rattle.std.proofs.lemmas.List.{take-append-le, take_all, take_min}
use Rattle.std.proofs.lemmas.List.Folds.{concat-append}
use Rattle.std.proofs.Math.Seq.{take-nil}
use Rattle.std.proofs.lemmas.Bool.{lt-ltb, le-ltb, eq-eqb, ne_eqb}
use Rattle.cell_rules.specs.Types.{answer_text, Answer}
use Rattle.cell_rules.specs.Names.{ModelState, next, reply}
use Rattle.csv_rows.specs.Rows.{Row}
use Rattle.csv_rows.specs.ScriptEnd.{end_text, max_records}
use Rattle.csv_rows.specs.declared.script_end.ScriptFault.{ScriptFault}
use Rattle.csv_rows.specs.declared.script_end.ScriptFault.TheVariants.{BadRow, Long, NoStart}
use Rattle.csv_rows.specs.declared.script_end.Outcome.{Outcome}
use Rattle.csv_rows.specs.declared.script_end.Outcome.TheVariants.{Refused}
use Rattle.cell_replay.specs.Requests.{request_of}
use Rattle.cell_replay.specs.declared.request.Request.{Request}
use Rattle.cell_replay.specs.declared.version.Version.{Version}
use Rattle.cell_replay.specs.declared.script_start.Start.{Start}
use Rattle.cell_replay.specs.Script.{end_of, events_from, is_cut_of, script_lines, script_outcome, script_rows, script_text, line_of, lines_from, outcome_from, requests_in, rows_lines, rows_outcome, start_in, start_line}
use Rattle.cell_replay.specs.declared.fault.ReplayFault.{ReplayFault}
use Rattle.cell_replay.specs.declared.fault.ReplayFault.TheVariants.{Read, Write, Memory}
use Rattle.cell_replay.specs.Faults.{Leaves, WrotePrefix, WroteLines, replay_fault_of}
use Rattle.text_io.specs.declared.input.InputFault.{InputFault}
use Rattle.text_io.specs.declared.input.InputFault.TheVariants as input
use Rattle.cell_replay.specs.Writing.{Writes, WritesEnd, WritesLine, WritesScript, lines_after, lines_left, outcome_left}
use Rattle.cell_replay.proofs.Lines.{event_lines-after, length-history_of, lines_after-more, lines_after-none, requests_in-bad, requests_in-more, requests_in-none}

-- The records that are left.

take-one : {A : Type 0} (n : ℕ) (x : A) (xs : List A) → n < max_records → take (max_records - n) (x ∷ xs) ≡ x ∷ take (max_records - (n + 1)) xs
take-one n x xs few =
    let one : max_records - n ≡ suc (max_records - (n + 1)) = omega arith in
    ap (λ k. take k (x ∷ xs)) one

requests-more : (v : Version) (n : ℕ) (row : Row) (rest : List Row) (r : Request) → n < max_records → request_of v row ≡ Some r
    → requests_in v (take (max_records - n) (row ∷ rest)) ≡ r ∷ requests_in v (take (max_records - (n + 1)) rest)
requests-more v n row rest r few good = ap (requests_in v) (take-one n row rest few) ∙ requests_in-more v row (take (max_records - (n + 1)) rest) r good

requests-bad : (v : Version) (n : ℕ) (row : Row) (rest : List Row) → n < max_records → request_of v row ≡ None → requests_in v (take (max_records - n) (row ∷ rest)) ≡ []
requests-bad v n row rest few bad = ap (requests_in v) (take-one n row rest few) ∙ requests_in-bad v row (take (max_records - (n + 1)) rest) bad

requests-none : (v : Version) (k : ℕ) → requests_in v (take k []) ≡ []
requests-none v k = ap (requests_in v) (take-nil k) ∙ requests_in-none v

lines-more : (v : Version) (n : ℕ) (s : ModelState) (row : Row) (rest : List Row) (r : Request) → n < max_records → request_of v row ≡ Some r
    → lines_left v n s (row ∷ rest) ≡ line_of (n + 1) (next s r.machine r.call).stamp (answer_text (reply s r.machine r.call)) ∷ lines_left v (n + 1) (next s r.machine r.call) rest
lines-more v n s row rest r few good = ap (lines_after n s) (requests-more v n row rest r few good) ∙ lines_after-more n s r (requests_in v (take (max_records - (n + 1)) rest))

-- no request is left
pub lines-ended : (v : Version) (n : ℕ) (s : ModelState) (left : List Row) → requests_in v (take (max_records - n) left) ≡ [] → lines_left v n s left ≡ []
lines-ended v n s left none = ap (lines_after n s) none ∙ lines_after-none n s

outcome-ended : (v : Version) (is_cut : Bool) (n : ℕ) (left : List Row) → requests_in v (take (max_records - n) left) ≡ [] → outcome_left v is_cut n left ≡ end_of is_cut n (n + length left)
outcome-ended v is_cut n left none = let count = ap length none in ap (λ k. end_of is_cut k (n + length left)) (omega (arith, count))

outcome-more : (v : Version) (is_cut : Bool) (n : ℕ) (row : Row) (rest : List Row) (r : Request) → n < max_records → request_of v row ≡ Some r → outcome_left v is_cut n (row ∷ rest) ≡ outcome_left v is_cut (n + 1) rest
outcome-more v is_cut n row rest r few good =
    let count = ap length (requests-more v n row rest r few good) in
    ap₂ (end_of is_cut) (omega (arith, count)) (omega arith)

pub end-bad : (is_cut : Bool) (n count : ℕ) → n < count → n < max_records → end_of is_cut n count ≡ Refused (BadRow (n + 1))
end-bad is_cut n count more few = rw (lt-ltb n count more, ne_eqb n max_records (λ e. omega (arith, e, few))) refl

outcome-bad : (v : Version) (is_cut : Bool) (n : ℕ) (row : Row) (rest : List Row) → n < max_records → request_of v row ≡ None → outcome_left v is_cut n (row ∷ rest) ≡ Refused (BadRow (n + 1))
outcome-bad v is_cut n row rest few bad = outcome-ended v is_cut n (row ∷ rest) (requests-bad v n row rest few bad) ∙ end-bad is_cut n (n + length (row ∷ rest)) (omega arith) few

pub end-all : (is_cut : Bool) (n : ℕ) → end_of is_cut n n ≡ end_of is_cut 0 0
end-all is_cut n = rw (le-ltb n n (omega arith)) refl

outcome-none : (v : Version) (is_cut : Bool) (n : ℕ) → outcome_left v is_cut n [] ≡ end_of is_cut 0 0
outcome-none v is_cut n = outcome-ended v is_cut n [] (requests-none v (max_records - n)) ∙ ap (end_of is_cut n) (omega arith) ∙ end-all is_cut n

requests-full : (v : Version) (n : ℕ) (left : List Row) → n ≡ max_records → requests_in v (take (max_records - n) left) ≡ []
requests-full v n left full =
    let zero_left : max_records - n ≡ 0 = omega (arith, full) in
    ap (λ k. requests_in v (take k left)) zero_left ∙ requests_in-none v

end-long : (is_cut : Bool) (n count : ℕ) → n < count → n ≡ max_records → end_of is_cut n count ≡ Refused Long
end-long is_cut n count more full = rw (lt-ltb n count more, eq-eqb n max_records full) refl

outcome-full : (v : Version) (is_cut : Bool) (n : ℕ) (row : Row) (rest : List Row) → n ≡ max_records → outcome_left v is_cut n (row ∷ rest) ≡ Refused Long
outcome-full v is_cut n row rest full = outcome-ended v is_cut n (row ∷ rest) (requests-full v n (row ∷ rest) full) ∙ end-long is_cut n (n + length (row ∷ rest)) (omega arith) full

-- What was written.

pub kept-none : (old new : Option (List ℕ)) → Keeps old new → Appends old new []
kept-none old new keeps = Appends-kept old old new [] (Appends-nil old) keeps

-- lines, and then some first lines of the others
wrote-more : (written rest all : List (List ℕ)) (old mid new : Option (List ℕ)) → Appends old mid (concat written) → written ++ rest ≡ all → WroteLines mid new rest → WroteLines old new all
wrote-more written rest all old mid new wrote whole h =
    let n = h.0 in
    let front : concat written ++ concat (take n rest) ≡ concat (take (length written + n) all) = sym (concat-append written (take n rest)) ∙ ap concat (sym (take-append-add written rest n) ∙ ap (take (length written + n)) whole) in
    (length written + n, subst (Appends old new) front (Appends-trans old mid new (concat written) (concat (take n rest)) wrote h.1))

-- lines, and then what is written for the others
pub writes-through : (written rest all : List (List ℕ)) (o end : Outcome) (old mid new : Option (List ℕ)) (r : Result Outcome ReplayFault) → Appends old mid (concat written) → written ++ rest ≡ all → o ≡ end
    → Writes rest o mid new r → Writes all end old new r
writes-through written rest all o end old mid new (Ok x) wrote whole same h =
    (h.0 ∙ same, subst (Appends old new) (sym (concat-append written rest) ∙ ap concat whole) (Appends-trans old mid new (concat written) (concat rest) wrote h.1))
writes-through written rest all o end old mid new (Err Read) wrote whole same h = wrote-more written rest all old mid new wrote whole h
writes-through written rest all o end old mid new (Err Memory) wrote whole same h = wrote-more written rest all old mid new wrote whole h
writes-through written rest all o end old mid new (Err Write) wrote whole same h =
    let n = h.0 in
    let front : concat written ++ take n (concat rest) ≡ take (length (concat written) + n) (concat all) = sym (take-append-add (concat written) (concat rest) n) ∙ ap (take (length (concat written) + n)) (sym (concat-append written rest) ∙ ap concat whole) in
    (length (concat written) + n, subst (Appends old new) front (Appends-trans old mid new (concat written) (take n (concat rest)) wrote h.1))

-- the same after a flush
pub writes-after : (written rest all : List (List ℕ)) (o end : Outcome) (old now mid new : Option (List ℕ)) (r : Result Outcome ReplayFault) → Appends old now (concat written) → Keeps now mid → written ++ rest ≡ all → o ≡ end
    → Writes rest o mid new r → Writes all end old new r
writes-after written rest all o end old now mid new r wrote keeps whole same h = writes-through written rest all o end old mid new r (Appends-kept old now mid (concat written) wrote keeps) whole same h

-- the same after a flush before any line
pub flushed : (all : List (List ℕ)) (end : Outcome) (old mid new : Option (List ℕ)) (r : Result Outcome ReplayFault) → Keeps old mid → Writes all end mid new r → Writes all end old new r
flushed all end old mid new r keeps h = writes-through [] all all end end old mid new r (kept-none old mid keeps) refl refl h

-- the input failed before anything was written
pub writes-input : (fault : InputFault) (lines : List (List ℕ)) (end : Outcome) (old : Option (List ℕ)) → Writes lines end old old (Err (replay_fault_of fault))
writes-input input.Read lines end old = (0, Appends-nil old)
writes-input input.Memory lines end old = (0, Appends-nil old)

-- a prefix of a prefix is a prefix
pub prefix-more : (line more all : List ℕ) (old new : Option (List ℕ)) → all ≡ line ++ more → WrotePrefix old new line → WrotePrefix old new all
prefix-more line more all old new whole h =
    let n = min h.0 (length line) in
    let same : take h.0 line ≡ take n all = short h.0 line more ∙ ap (take n) (sym whole) in
    (n, subst (Appends old new) same h.1)
  where
    short : (k : ℕ) (a b : List ℕ) → take k a ≡ take (min k (length a)) (a ++ b)
    short k a b =
        let within : min k (length a) ≤ length a = omega arith in
        sym (take-append-le (min k (length a)) a b within ∙ take_min k a)

-- One record.

-- it is no request
pub writes-bad : (v : Version) (is_cut : Bool) (n : ℕ) (s : ModelState) (left rest : List Row) (row : Row) (old : Option (List ℕ)) → n < max_records → left ≡ row ∷ rest → request_of v row ≡ None
    → Writes (lines_left v n s left) (outcome_left v is_cut n left) old old (Ok (Refused (BadRow (n + 1))))
writes-bad v is_cut n s left rest row old few is bad =
    (sym (ap (outcome_left v is_cut n) is ∙ outcome-bad v is_cut n row rest few bad), rw (ap (lines_left v n s) is ∙ lines-ended v n s (row ∷ rest) (requests-bad v n row rest few bad)) (Appends-nil old))

-- its line, after which the lines of the others come
pub line-first : (v : Version) (n : ℕ) (s s2 : ModelState) (left rest : List Row) (row : Row) (r : Request) (stamp : ℕ) (answer : Answer) → n < max_records → left ≡ row ∷ rest → request_of v row ≡ Some r
    → s2 ≡ next s r.machine r.call → stamp ≡ s2.stamp → answer ≡ reply s r.machine r.call → lines_left v n s left ≡ line_of (n + 1) stamp (answer_text answer) ∷ lines_left v (n + 1) s2 rest
line-first v n s s2 left rest row r stamp answer few is good now_s now_stamp replied =
    ap (lines_left v n s) is ∙ lines-more v n s row rest r few good
    ∙ ap₂ (λ l t. l ∷ lines_left v (n + 1) t rest) (ap₂ (λ t a. line_of (n + 1) t (answer_text a)) (sym (now_stamp ∙ ap (λ (t : ModelState). t.stamp) now_s)) (sym replied)) (sym now_s)

pub outcome-first : (v : Version) (is_cut : Bool) (n : ℕ) (left rest : List Row) (row : Row) (r : Request) → n < max_records → left ≡ row ∷ rest → request_of v row ≡ Some r → outcome_left v is_cut (n + 1) rest ≡ outcome_left v is_cut n left
outcome-first v is_cut n left rest row r few is good = sym (ap (outcome_left v is_cut n) is ∙ outcome-more v is_cut n row rest r few good)

-- its line couldn't be written
pub writes-line : (line : List ℕ) (more lines : List (List ℕ)) (end : Outcome) (old new : Option (List ℕ)) (fault : ReplayFault) → lines ≡ line ∷ more → WritesLine line old new (Err fault) → Writes lines end old new (Err fault)
writes-line line more lines end old new Read is h = absurd h
writes-line line more lines end old new Memory is h = (0, kept-none old new h)
writes-line line more lines end old new Write is h = prefix-more line (concat more) (concat lines) old new (ap concat is) h

pub fails-at-line : (r : Result Outcome ReplayFault) (fault : ReplayFault) (line : List ℕ) (more lines : List (List ℕ)) (end : Outcome) (old new : Option (List ℕ)) → IsErrAnd r (λ given. given ≡ fault) → lines ≡ line ∷ more → WritesLine line old new (Err fault) → Writes lines end old new r
fails-at-line (Ok o) fault line more lines end old new same is h = absurd same
fails-at-line (Err given) fault line more lines end old new same is h = rw same (writes-line line more lines end old new fault is h)

-- nothing was written before a fault
writes-nothing : (lines : List (List ℕ)) (end : Outcome) (old new : Option (List ℕ)) (fault : ReplayFault) → Keeps old new → Writes lines end old new (Err fault)
writes-nothing lines end old new Read keeps = (0, kept-none old new keeps)
writes-nothing lines end old new Memory keeps = (0, kept-none old new keeps)
writes-nothing lines end old new Write keeps = (0, kept-none old new keeps)

pub fails-before : (r : Result Outcome ReplayFault) (P : ReplayFault → Type 0) (lines : List (List ℕ)) (end : Outcome) (old new : Option (List ℕ)) → IsErrAnd r P → Keeps old new → Writes lines end old new r
fails-before (Ok o) P lines end old new fault keeps = absurd fault
fails-before (Err given) P lines end old new fault keeps = writes-nothing lines end old new given keeps

-- another line was written
pub line-more : (lines : List (List ℕ)) (line : List ℕ) (old mid new : Option (List ℕ)) → Appends old mid (concat lines) → Appends mid new line → Appends old new (concat (lines ++ line ∷ []))
line-more lines line old mid new wrote more =
    let both : concat lines ++ line ≡ concat (lines ++ line ∷ []) = ap (λ l. concat lines ++ l) (sym (append-nil line)) ∙ sym (concat-append lines (line ∷ [])) in
    subst (Appends old new) both (Appends-trans old mid new (concat lines) line wrote more)

pub lines-step : (lines rest more all : List (List ℕ)) (line : List ℕ) → lines ++ rest ≡ all → rest ≡ line ∷ more → (lines ++ line ∷ []) ++ more ≡ all
lines-step lines rest more all line whole is = append_assoc lines (line ∷ []) more ∙ ap (λ l. lines ++ l) (sym is) ∙ whole

-- the end, if as many records are answered as may be, or none is left
pub writes-long : (v : Version) (is_cut : Bool) (n : ℕ) (s : ModelState) (row : Row) (left rest : List Row) (old : Option (List ℕ)) → n ≡ max_records → left ≡ row ∷ rest → Writes (lines_left v n s left) (outcome_left v is_cut n left) old old (Ok (Refused Long))
writes-long v is_cut n s row left rest old full is =
    (sym (ap (outcome_left v is_cut n) is ∙ outcome-full v is_cut n row rest full), rw (lines-ended v n s left (requests-full v n left full)) (Appends-nil old))

pub writes-end : (v : Version) (is_cut : Bool) (n : ℕ) (s : ModelState) (left : List Row) (noted : Bool) (o : Outcome) (old : Option (List ℕ)) → noted ≡ is_cut → left ≡ [] → o ≡ end_of noted 0 0 → Writes (lines_left v n s left) (outcome_left v is_cut n left) old old (Ok o)
writes-end v is_cut n s left noted o old note none is =
    (is ∙ ap (λ b. end_of b 0 0) note ∙ sym (ap (outcome_left v is_cut n) none ∙ outcome-none v is_cut n), rw (ap (lines_left v n s) none ∙ lines-ended v n s [] (requests-none v (max_records - n))) (Appends-nil old))

-- Record 0.

pub rows-empty : (is_cut noted : Bool) (left : List Row) (fault : ScriptFault) (old : Option (List ℕ)) → noted ≡ is_cut → left ≡ [] → fault ≡ cond noted Long NoStart → Writes (rows_lines is_cut left) (rows_outcome is_cut left) old old (Ok (Refused fault))
rows-empty is_cut noted left fault old note none is = rw (none, ← note) (ap Refused is, Appends-nil old)

pub rows-refused : (is_cut : Bool) (row : Row) (left rest : List Row) (fault : ScriptFault) (old : Option (List ℕ)) → left ≡ row ∷ rest → start_in row ≡ Err fault → Writes (rows_lines is_cut left) (rows_outcome is_cut left) old old (Ok (Refused fault))
rows-refused is_cut row left rest fault old is bad = rw (is, bad) (refl, Appends-nil old)

lines-started : (start : Result Start ScriptFault) (s : Start) (rest : List Row) → start ≡ Ok s → lines_from start (events_from start rest) ≡ start_line s ∷ lines_left s.version 0 s.state rest
lines-started start s rest e = rw e (ap (λ l. start_line s ∷ l) (event_lines-after s.state (requests_in s.version (take max_records rest))))

outcome-started : (is_cut : Bool) (start : Result Start ScriptFault) (s : Start) (rest : List Row) → start ≡ Ok s → outcome_left s.version is_cut 0 rest ≡ outcome_from is_cut start (length (events_from start rest)) (length rest)
outcome-started is_cut start s rest e =
    let count = length-history_of s.state (requests_in s.version (take max_records rest)) in
    rw e (ap₂ (end_of is_cut) (omega (arith, count)) (omega arith))

pub rows-started : (is_cut : Bool) (row : Row) (left rest : List Row) (s : Start) (line : List ℕ) (old mid new : Option (List ℕ)) (r : Result Outcome ReplayFault) → left ≡ row ∷ rest → start_in row ≡ Ok s → line ≡ start_line s → Appends old mid line
    → Writes (lines_left s.version 0 s.state rest) (outcome_left s.version is_cut 0 rest) mid new r → Writes (rows_lines is_cut left) (rows_outcome is_cut left) old new r
rows-started is_cut row left rest s line old mid new r is good line_made wrote h =
    let one : line ≡ concat (start_line s ∷ []) = line_made ∙ sym (append-nil (start_line s)) in
    let whole : start_line s ∷ lines_left s.version 0 s.state rest ≡ rows_lines is_cut left = sym (ap (rows_lines is_cut) is ∙ lines-started (start_in row) s rest good) in
    let same : outcome_left s.version is_cut 0 rest ≡ rows_outcome is_cut left = outcome-started is_cut (start_in row) s rest good ∙ sym (ap (rows_outcome is_cut) is) in
    writes-through (start_line s ∷ []) (lines_left s.version 0 s.state rest) (rows_lines is_cut left) (outcome_left s.version is_cut 0 rest) (rows_outcome is_cut left) old mid new r (subst (Appends old mid) one wrote) whole same h

-- or the line of record 0 couldn't be written
pub rows-unstarted : (is_cut : Bool) (row : Row) (left rest : List Row) (s : Start) (old new : Option (List ℕ)) (fault : ReplayFault) → left ≡ row ∷ rest → start_in row ≡ Ok s → WritesLine (start_line s) old new (Err fault)
    → Writes (rows_lines is_cut left) (rows_outcome is_cut left) old new (Err fault)
rows-unstarted is_cut row left rest s old new fault is good h =
    writes-line (start_line s) (lines_left s.version 0 s.state rest) (rows_lines is_cut left) (rows_outcome is_cut left) old new fault (ap (rows_lines is_cut) is ∙ lines-started (start_in row) s rest good) h

pub writes-residual : (r : Result Outcome ReplayFault) (fault : InputFault) (lines : List (List ℕ)) (end : Outcome) (old : Option (List ℕ)) → IsErrAnd r (λ given. given ≡ replay_fault_of fault) → Writes lines end old old r
writes-residual (Ok o) fault lines end old h = absurd h
writes-residual (Err given) fault lines end old h = rw h (writes-input fault lines end old)

-- The script.

pub script-fails : (bytes : List ℕ) (old new : Option (List ℕ)) (fault : ReplayFault) → Writes (script_lines bytes) (script_outcome bytes) old new (Err fault) → Leaves fault bytes old new
unfolding script_text
script-fails bytes old new Read h = h
script-fails bytes old new Memory h = h
script-fails bytes old new Write h = prefix-more (concat (script_lines bytes)) (end_text (script_outcome bytes)) (script_text bytes) old new refl h

pub script-ends : (bytes : List ℕ) (old mid new : Option (List ℕ)) (o : Outcome) (r : Result Outcome ReplayFault) → Writes (script_lines bytes) (script_outcome bytes) old mid (Ok o) → WritesEnd o mid new r → WritesScript bytes old new r
unfolding script_text
script-ends bytes old mid new o (Ok x) h end = (end.0 ∙ h.0, subst (Appends old new) (ap (λ e. concat (script_lines bytes) ++ end_text e) h.0) (Appends-trans old mid new (concat (script_lines bytes)) (end_text o) h.1 end.1))
script-ends bytes old mid new o (Err Read) h end = absurd end
script-ends bytes old mid new o (Err Memory) h end =
    let all : concat (take (length (script_lines bytes)) (script_lines bytes)) ≡ concat (script_lines bytes) = ap concat (take_all (length (script_lines bytes)) (script_lines bytes) (omega arith)) in
    (length (script_lines bytes), rw all (Appends-kept old mid new (concat (script_lines bytes)) h.1 end))
script-ends bytes old mid new o (Err Write) h end =
    let lines = concat (script_lines bytes) in
    let n = end.0 in
    let front : lines ++ take n (end_text o) ≡ take (length lines + n) (lines ++ end_text (script_outcome bytes)) = sym (take-append-add lines (end_text o) n) ∙ ap (λ e. take (length lines + n) (lines ++ end_text e)) h.0 in
    (length lines + n, subst (Appends old new) front (Appends-trans old mid new lines (take n (end_text o)) h.1 end.1))

pub script-stops : (bytes : List ℕ) (old : Option (List ℕ)) (r : Result Outcome ReplayFault) (fault : InputFault) → IsErrAnd r (λ given. given ≡ replay_fault_of fault) → WritesScript bytes old old r
script-stops bytes old (Ok o) fault h = absurd h
script-stops bytes old (Err given) fault h = script-fails bytes old old given (rw h (writes-input fault (script_lines bytes) (script_outcome bytes) old))

-- the script's lines, by the result of the function that wrote them
pub script-written : (bytes : List ℕ) (left : List Row) (old new : Option (List ℕ)) (r r2 : Result Outcome ReplayFault) → left ≡ script_rows bytes → r ≡ r2
    → Writes (rows_lines (is_cut_of bytes) left) (rows_outcome (is_cut_of bytes) left) old new r → Writes (script_lines bytes) (script_outcome bytes) old new r2
unfolding script_lines script_outcome
script-written bytes left old new r r2 is e h = subst (Writes (script_lines bytes) (script_outcome bytes) old new) e (rw is at h)

-- What the contract of a replay says, if the bytes are known.

known : (o : Option (List ℕ)) (P : List ℕ → Type 0) → ((bytes : List ℕ) → o ≡ Some bytes → P bytes) → IfSome o P
known None P f = tt
known (Some bytes) P f = f bytes refl

pub written-text : (o : Option (List ℕ)) (old new : Option (List ℕ)) (r : Result Outcome ReplayFault) → ((bytes : List ℕ) → o ≡ Some bytes → WritesScript bytes old new r) → OnOk r (IfSome o (λ bytes. Appends old new (script_text bytes)))
written-text o old new (Ok x) f = known o _ (λ bytes is. (f bytes is).1)
written-text o old new (Err fault) f = tt

pub written-outcome : (o : Option (List ℕ)) (old new : Option (List ℕ)) (r : Result Outcome ReplayFault) → ((bytes : List ℕ) → o ≡ Some bytes → WritesScript bytes old new r) → IfOk r (λ x. IfSome o (λ bytes. x ≡ script_outcome bytes))
written-outcome o old new (Ok x) f = known o _ (λ bytes is. (f bytes is).0)
written-outcome o old new (Err fault) f = tt
