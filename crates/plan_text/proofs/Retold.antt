-- The script of a legal history is answered as the history says.
use Rattle.std.proofs.Common.{◌≡◌, ◌<◌, ◌≤◌, ◌+◌, ◌*◌, ◌^◌, ◌-◌, ◌∙◌, ℕ, zero, suc, Bool, true, false, ◌&&◌, nat_eq, nat_le, List, [], ◌∷◌, ◌++◌, codes, Option, Some, None, option_map, Ok, Err, All, inl, inr, flat_map, get_or, ap, ap₂, sym, subst, refl, length, map, arith, le-ltb, lt-ltb}
use Rattle.std.specs.Prelude.{nat_lt, if◌then◌else◌}
use Rattle.std.specs.Char.{is_ascii_digit}
use Rattle.std.specs.Fmt.{decimal}
use Rattle.std.specs.Int.{IsInRange}
use Rattle.std.specs.List.{list_all, range_with_len}
use Rattle.std.specs.Option.{ok_or, option_and_then, option_or}
use Rattle.std.specs.Str.{bytes_eq}
use Rattle.std.proofs.lemmas.Bool.Decides.{nat_tests}
use Rattle.std.proofs.lemmas.Bool.{and_parts, eqb-true, leb-true, ne_eqb}
use Rattle.std.proofs.lemmas.Fmt.{decimal_nonempty, digits_decimal, digits_value-decimal, length-decimal-le}
use Rattle.std.proofs.lemmas.List.{get_or_past}
use Rattle.std.proofs.lemmas.List.FromFn.{fill_by_all, get_or-map-range_with_len, length-map-range_with_len}
use Rattle.std.proofs.lemmas.Option.{same_Some}
use Rattle.std.proofs.lemmas.Str.Parse.{FoldsDigits, IsDigitsTest, IsNumeralModel, numerals_by_fold}
use Rattle.csv.specs.Reading.{default_config, records, strip_bom}
use Rattle.csv.specs.Records.{field_at}
use Rattle.csv.specs.Writing.{default_writer, needs_byte}
use Rattle.csv_rows.specs.Numbers.{number_in, read_on}
use Rattle.csv_rows.specs.Rows.{Row}
use Rattle.csv_rows.specs.ScriptEnd.{max_records}
use Rattle.csv_rows.specs.declared.script_end.ScriptFault.TheVariants.{BadStart, NoStart}
use Rattle.csv_rows.specs.declared.script_end.Outcome.TheVariants.{Clean}
use Rattle.plan_types.specs.Table.{machine_of, place_count}
use Rattle.plan_types.specs.declared.call.Call.{Call}
use Rattle.plan_types.specs.declared.call.Call.TheVariants.{Claim, Give, Yield, Take, Release, Inquire, SetPose, Stop, Resume, Advance}
use Rattle.plan_types.specs.declared.answer.Event.{Event}
use Rattle.plan_rules.specs.declared.state.State.{State}
use Rattle.plan_rules.specs.History.{IsLegal}
use Rattle.plan_rules.specs.Reply.{next, reply}
use Rattle.plan_rules.specs.State.{is_full, last_stamp, start_state}
use Rattle.plan_text.specs.Answers.{answer_text}
use Rattle.plan_text.specs.Calls.{call_of, caller_of, own_pose, verb_of, verb_word}
use Rattle.plan_text.specs.Histories.{answer_lines, call_fields, caller_word, digit_of, digits_of, event_row, script_of, start_row}
use Rattle.plan_text.specs.HistoryLaws.{AreToldApart, EventsAreRead, HistoriesAreAnswered, IsCaller, IsOwnCall, IsOwnEvent, IsStartOf, StartsAreOfPlans}
use Rattle.plan_text.specs.Named.{Named}
use Rattle.plan_text.specs.Names.{Text, name_in, number_in as number_of}
use Rattle.plan_text.specs.Requests.{request, request_of}
use Rattle.plan_text.specs.Script.{Answers, answers_from, answers_of, line_of, rows_answers, rows_start, script_answers, start_line, with_text}
use Rattle.plan_text.specs.Starts.{are_places, full_places, is_flag, is_one, start_by, start_fields, start_in, start_of, stamp_in}
use Rattle.plan_text.specs.declared.calls.Verb.{Verb}
use Rattle.plan_text.specs.declared.calls.Verb.TheVariants as verbs
use Rattle.plan_text.proofs.Answering.{answers_of-more, answers_of-none}
use Rattle.plan_text.proofs.Recorded.{IsPlain, Reads, digits-plain, reads-plain, records-script, rows_of}
use Rattle.plan_text.proofs.ScriptLaws.{records_read, starts_of_digits}

-- ---- the requests

caller_read : (n : Named) (machine : ℕ) → AreToldApart n → IsCaller n machine → caller_of n (caller_word n machine) ≡ Some machine
caller_read n machine k (inl e) = rw e refl
caller_read n machine k (inr few) = by (nat_eq machine 30) refl
  where
    by : (b : Bool) → nat_eq machine 30 ≡ b → caller_of n (caller_word n machine) ≡ Some machine
    by true e = let same : machine ≡ 30 = eqb-true machine 30 e in rw same refl
    by false e = rw e (k.machines machine few)

-- the call in a record of a verb and a name
about : (n : Named) (machine : ℕ) (who : Text) (verb : Verb) (name : Text) (c : Call) → caller_of n who ≡ Some machine → verb_of (verb_word verb) ≡ Some verb → call_of n machine verb name ≡ Some c
    → request_of n (who ∷ verb_word verb ∷ name ∷ []) ≡ Some (request machine c)
about n machine who verb name c = (records_read n machine who (verb_word verb) name verb c []).of_object

pose_read : (n : Named) (machine pose : ℕ) → AreToldApart n → pose < length n.poses → machine_of n.plan pose ≡ machine → call_of n machine verbs.Pose (name_in n.poses pose) ≡ Some (SetPose pose)
pose_read n machine pose k few own =
    let found : own_pose n machine (name_in n.poses pose) ≡ Some pose = subst (λ m. own_pose n m (name_in n.poses pose) ≡ Some pose) own (k.poses pose few) in
    ap (λ o. option_map SetPose (option_or o (number_of n.poses (name_in n.poses pose)))) found

call_read : (n : Named) (machine : ℕ) (who : Text) (c : Call) → AreToldApart n → caller_of n who ≡ Some machine → IsOwnCall n machine c → request_of n (who ∷ call_fields n c) ≡ Some (request machine c)
call_read n machine who (Claim z) k w own = about n machine who verbs.Claim (name_in n.zones z) (Claim z) w refl (ap (option_map Claim) (k.zones z own))
call_read n machine who (Give z) k w own = about n machine who verbs.Give (name_in n.zones z) (Give z) w refl (ap (option_map Give) (k.zones z own))
call_read n machine who (Yield z) k w own = about n machine who verbs.Yield (name_in n.zones z) (Yield z) w refl (ap (option_map Yield) (k.zones z own))
call_read n machine who (Take z) k w own = about n machine who verbs.Take (name_in n.zones z) (Take z) w refl (ap (option_map Take) (k.zones z own))
call_read n machine who (Release z) k w own = about n machine who verbs.Release (name_in n.zones z) (Release z) w refl (ap (option_map Release) (k.zones z own))
call_read n machine who (Inquire z) k w own = about n machine who verbs.Inquire (name_in n.zones z) (Inquire z) w refl (ap (option_map Inquire) (k.zones z own))
call_read n machine who (SetPose p) k w own = about n machine who verbs.Pose (name_in n.poses p) (SetPose p) w refl (pose_read n machine p k own.0 own.1)
call_read n machine who (Advance q) k w own = about n machine who verbs.Advance (name_in n.places q) (Advance q) w refl (ap (option_map Advance) (k.places q own))
call_read n machine who Stop k w own = (records_read n machine who [] [] verbs.Claim Stop []).of_stop w
call_read n machine who Resume k w own = (records_read n machine who [] [] verbs.Claim Resume []).of_resume w

pub event_read : EventsAreRead
event_read n e k own = call_read n e.machine (caller_word n e.machine) e.call k (caller_read n e.machine k own.0) own.1

-- ---- the answers

abbrev clean_text : List ℕ → Answers
clean_text text = record { text = text; outcome = Clean }

one_told : (n : Named) (done : ℕ) (s : State) (e : Event) (rows : List Row) (text : List ℕ) → done < max_records → request_of n (event_row n e) ≡ Some (request e.machine e.call) → e.answer ≡ reply n.plan s e.machine e.call
    → answers_of n (done + 1) (next n.plan s e.machine e.call) rows ≡ clean_text text
    → answers_of n done s (event_row n e ∷ rows) ≡ clean_text (line_of (done + 1) (next n.plan s e.machine e.call).stamp (answer_text n e.answer) ++ text)
one_told n done s e rows text few good legal more =
    answers_of-more n done s (event_row n e) rows (request e.machine e.call) few good
    ∙ ap₂ (λ answer later. with_text (line_of (done + 1) (next n.plan s e.machine e.call).stamp (answer_text n answer)) later) (sym legal) more

pub events_answered : (n : Named) (done : ℕ) (s : State) (history : List Event) → AreToldApart n → IsLegal n.plan s history → All (IsOwnEvent n) history → done + length history ≤ max_records
    → answers_of n done s (map (event_row n) history) ≡ clean_text (answer_lines n (done + 1) s history)
events_answered n done s [] k legal own few = answers_of-none n done s
events_answered n done s (e ∷ history) k legal own few =
    one_told n done s e (map (event_row n) history) (answer_lines n (done + 1 + 1) (next n.plan s e.machine e.call) history) (omega arith) (event_read n e k (own 0 e (omega arith))) legal.0
    (events_answered n (done + 1) (next n.plan s e.machine e.call) history k legal.1 (λ i d l. own (suc i) d (omega arith)) (omega arith))

-- ---- the digits of the stamp

and_true : (a b : Bool) → a ≡ true → b ≡ true → (a && b) ≡ true
and_true a b x y = rw (x, y) refl

digit_in_range : (c : ℕ) → is_ascii_digit c ≡ true → IsInRange 48 57 c
digit_in_range c e = grind (arith, nat_tests)

in_range_digit : (c : ℕ) → IsInRange 48 57 c → is_ascii_digit c ≡ true
in_range_digit c e = grind (arith, nat_tests)

abbrev AreDigits : List ℕ → Type 0
AreDigits field = list_all is_ascii_digit field ≡ true

digits-tested : IsDigitsTest AreDigits
digits-tested = record {
  empty = refl;
  parts = λ c cs e. let both = and_parts (is_ascii_digit c) (list_all is_ascii_digit cs) e in (digit_in_range c both.0, both.1);
  more = λ c cs r e. and_true (is_ascii_digit c) (list_all is_ascii_digit cs) (in_range_digit c r) e;
}

read_on-folds : FoldsDigits read_on
read_on-folds = record { empty = λ n. refl; more = λ n c cs r. let same : 10 * n + (c - 48) ≡ n * 10 + (c - 48) = omega arith in ap (λ m. read_on m cs) same }

stamp-numeral : IsNumeralModel AreDigits (read_on 0)
stamp-numeral = numerals_by_fold AreDigits digits-tested read_on read_on-folds

number_in-decimal : (n : ℕ) → n ≤ last_stamp → number_in (decimal n) ≡ Some n
number_in-decimal n h =
    let small : n < 2 ^ 64 = omega arith in
    let some : nat_lt 0 (length (decimal n)) ≡ true = (let l = decimal_nonempty n small in grind (arith, nat_tests)) in
    let few : nat_le (length (decimal n)) 7 ≡ true = (let l = length-decimal-le 7 n (omega arith) (omega arith) small in grind (arith, nat_tests)) in
    let digits : AreDigits (decimal n) = digits_decimal stamp-numeral n small in
    let value : read_on 0 (decimal n) ≡ n = digits_value-decimal stamp-numeral n small in
    rw (some, few, digits) (ap Some value)

digit-plain : (c : ℕ) → IsInRange 48 57 c → needs_byte default_writer c ≡ false
digit-plain c r =
    rw (ne_eqb c 44 (λ e. omega (arith, e, r)), ne_eqb c 34 (λ e. omega (arith, e, r)), ne_eqb c 13 (λ e. omega (arith, e, r)), ne_eqb c 10 (λ e. omega (arith, e, r))) refl

stamp-plain : (field : List ℕ) → AreDigits field → IsPlain field
stamp-plain [] d = refl
stamp-plain (c ∷ cs) d =
    let both = and_parts (is_ascii_digit c) (list_all is_ascii_digit cs) d in
    rw (digit-plain c (digit_in_range c both.0)) (stamp-plain cs both.1)

-- ---- the digits of the places

abbrev digits_from : State → ℕ → ℕ → Text
digits_from s first count = flat_map (digit_of s) (range_with_len first count)

digits-long : (s : State) (first count : ℕ) → length (digits_from s first count) ≡ count
digits-long s first zero = refl
digits-long s first (suc count) = by (is_full s first) refl (digits-long s (first + 1) count)
  where
    by : (b : Bool) → is_full s first ≡ b → length (digits_from s (first + 1) count) ≡ count → length (digit_of s first ++ digits_from s (first + 1) count) ≡ suc count
    by true e more = rw e (ap suc more)
    by false e more = rw e (ap suc more)

digits-flags : (s : State) (first count : ℕ) → list_all is_flag (digits_from s first count) ≡ true
digits-flags s first zero = refl
digits-flags s first (suc count) = by (is_full s first) refl (digits-flags s (first + 1) count)
  where
    by : (b : Bool) → is_full s first ≡ b → list_all is_flag (digits_from s (first + 1) count) ≡ true → list_all is_flag (digit_of s first ++ digits_from s (first + 1) count) ≡ true
    by true e more = rw e more
    by false e more = rw e more

-- a digit is 1 if its place is full
digit-tells : (s : State) (first count i place : ℕ) → i < count → first + i ≡ place → nat_eq (get_or (digits_from s first count) i 48) 49 ≡ is_full s place
digit-tells s first zero i place few at = absurd (omega arith)
digit-tells s first (suc count) zero place few at = by (is_full s first) refl
  where
    same : first ≡ place
    same = omega arith

    by : (b : Bool) → is_full s first ≡ b → nat_eq (get_or (digit_of s first ++ digits_from s (first + 1) count) 0 48) 49 ≡ is_full s place
    by true e = rw e (sym (ap (is_full s) (sym same) ∙ e))
    by false e = rw e (sym (ap (is_full s) (sym same) ∙ e))
digit-tells s first (suc count) (suc i) place few at = by (is_full s first) refl (digit-tells s (first + 1) count i place (omega arith) (omega arith))
  where
    by : (b : Bool) → is_full s first ≡ b → nat_eq (get_or (digits_from s (first + 1) count) i 48) 49 ≡ is_full s place
        → nat_eq (get_or (digit_of s first ++ digits_from s (first + 1) count) (suc i) 48) 49 ≡ is_full s place
    by true e more = rw e more
    by false e more = rw e more

one_tells : (s : State) (count place : ℕ) → ((p : ℕ) → count ≤ p → is_full s p ≡ false) → is_full s place ≡ is_one (digits_of count s) place
one_tells s count place none = by (nat_lt place count) refl
  where
    long : length (digits_of count s) ≡ count
    long = digits-long s 0 count

    by : (b : Bool) → nat_lt place count ≡ b → is_full s place ≡ is_one (digits_of count s) place
    by true e =
        let few : place < count = grind (arith, nat_tests) in
        let there : nat_lt place (length (digits_of count s)) ≡ true = lt-ltb place (length (digits_of count s)) (omega (arith, few, long)) in
        rw there (sym (digit-tells s 0 count place place few (omega arith)))
    by false e =
        let past : count ≤ place = grind (arith, nat_tests) in
        let missing : nat_lt place (length (digits_of count s)) ≡ false = le-ltb place (length (digits_of count s)) (omega (arith, past, long)) in
        rw missing (none place past)

places_back : (n : Named) (s : State) → IsStartOf n s → full_places (digits_of (place_count n.plan) s) ≡ s.full
places_back n s k =
    sym (fill_by_all (is_one (digits_of (place_count n.plan) s)) s.full 16 false k.start.has_sixteen_places
    (λ place few. one_tells s (place_count n.plan) place k.places))

-- ---- record 0

start_back : (n : Named) (s : State) → IsStartOf n s → start_in (place_count n.plan) (start_row n s) ≡ Ok s
start_back n s k = by (nat_eq s.stamp 0) refl
  where
    count : ℕ
    count = place_count n.plan

    digits : Text
    digits = digits_of (place_count n.plan) s

    long : length (digits_of (place_count n.plan) s) ≡ place_count n.plan
    long = digits-long s 0 (place_count n.plan)

    flags : list_all is_flag (digits_of (place_count n.plan) s) ≡ true
    flags = digits-flags s 0 (place_count n.plan)

    by : (b : Bool) → nat_eq s.stamp 0 ≡ b → start_in (place_count n.plan) (start_row n s) ≡ Ok s
    by true e =
        let none : s.stamp ≡ 0 = eqb-true s.stamp 0 e in
        let same : start_state (full_places (digits_of (place_count n.plan) s)) 0 ≡ s = ap₂ start_state (places_back n s k) (sym none) ∙ sym k.start.same in
        rw e ((starts_of_digits (place_count n.plan) (digits_of (place_count n.plan) s) [] 0).not_stamped long flags ∙ ap Ok same)
    by false e =
        let same : start_state (full_places (digits_of (place_count n.plan) s)) s.stamp ≡ s = ap (λ full. start_state full s.stamp) (places_back n s k) ∙ sym k.start.same in
        rw e ((starts_of_digits (place_count n.plan) (digits_of (place_count n.plan) s) (decimal s.stamp) s.stamp).stamped long flags (number_in-decimal s.stamp k.start.stamp_in_range) k.start.stamp_in_range
        ∙ ap Ok same)

start-reads : (n : Named) (s : State) → IsStartOf n s → Reads (start_row n s)
start-reads n s k = by (nat_eq s.stamp 0) refl
  where
    places : IsPlain (digits_of (place_count n.plan) s)
    places = digits-plain s 0 (place_count n.plan)

    stamped : IsPlain (decimal s.stamp)
    stamped = (let late = k.start.stamp_in_range in stamp-plain (decimal s.stamp) (digits_decimal stamp-numeral s.stamp (omega arith)))

    by : (b : Bool) → nat_eq s.stamp 0 ≡ b → Reads (start_row n s)
    by true e = rw e (reads-plain (codes "start") (digits_of (place_count n.plan) s) [] (refl, (places, tt)))
    by false e = rw e (reads-plain (codes "start") (digits_of (place_count n.plan) s) (decimal s.stamp ∷ []) (refl, (places, (stamped, tt))))

-- ---- scripts

pub histories_answered : HistoriesAreAnswered
histories_answered n s history k start legal own few =
    let rows : records default_config (strip_bom (script_of n s history)) ≡ rows_of n s history = records-script n s history k (start-reads n s start) in
    let first : start_in (place_count n.plan) (start_row n s) ≡ Ok s = start_back n s start in
    let answers : script_answers n (script_of n s history) ≡ with_text (start_line s) (clean_text (answer_lines n 1 s history)) =
    ap (rows_answers n) rows ∙ ap (λ r. answers_from n r (map (event_row n) history)) first
    ∙ ap (with_text (start_line s)) (events_answered n 0 s history k legal own (omega (arith, few))) in
    record {
      start = ap (rows_start n) rows ∙ first;
      text = ap (λ (a : Answers). a.text) answers;
      clean = ap (λ (a : Answers). a.outcome) answers;
    }

-- ---- the starts of scripts

given : {A E : Type 0} (o : Option A) (fault : E) (x : A) → ok_or o fault ≡ Ok x → o ≡ Some x
given None fault x e = absurd (cc)
given (Some y) fault x e = let same : y ≡ x = cc in ap Some same

-- digits and a stamp make a start
of_digits : (n : Named) (digits : Text) (stamp : Option ℕ) (s : State) → start_of (place_count n.plan) digits stamp ≡ Some s → IsStartOf n s
of_digits n digits None s e = absurd (cc)
of_digits n digits (Some stamp) s e = by (are_places (place_count n.plan) digits && nat_le stamp last_stamp) refl e
  where
    by : (b : Bool) → (are_places (place_count n.plan) digits && nat_le stamp last_stamp) ≡ b → (if b then Some (start_state (full_places digits) stamp) else None) ≡ Some s → IsStartOf n s
    by false is same = absurd (cc)
    by true is same = subst (IsStartOf n) (same_Some (start_state (full_places digits) stamp) s same) (record {
      start = record {
        stamp_in_range = leb-true stamp last_stamp (and_parts (are_places (place_count n.plan) digits) (nat_le stamp last_stamp) is).1;
        has_sixteen_places = length-map-range_with_len (is_one digits) 0 16;
        same = refl;
      };
      places = none;
    })
      where
        long : length digits ≡ place_count n.plan
        long = eqb-true (length digits) (place_count n.plan) (and_parts (nat_eq (length digits) (place_count n.plan)) (list_all is_flag digits) (and_parts (are_places (place_count n.plan) digits) (nat_le stamp last_stamp) is).0).0

        none : (place : ℕ) → place_count n.plan ≤ place → get_or (full_places digits) place false ≡ false
        none place past = within (nat_lt place 16) refl
          where
            missing : nat_lt place (length digits) ≡ false
            missing = le-ltb place (length digits) (omega (arith, past, long))

            within : (b : Bool) → nat_lt place 16 ≡ b → get_or (full_places digits) place false ≡ false
            within true l = get_or-map-range_with_len (is_one digits) 0 16 place place false (grind (arith, nat_tests)) (omega arith) ∙ rw missing refl
            within false l =
                let outside : 16 ≤ place = grind (arith, nat_tests) in
                get_or_past (full_places digits) place false (omega (arith, outside, length-map-range_with_len (is_one digits) 0 16))

of_fields : (n : Named) (row : Row) (s : State) → start_fields (place_count n.plan) row ≡ Some s → IsStartOf n s
of_fields n row s e = by (nat_lt 3 (length row)) (field_at row 1) e
  where
    by : (b : Bool) (o : Option Text) → (if b then None else option_and_then (λ digits. start_of (place_count n.plan) digits (stamp_in (field_at row 2))) o) ≡ Some s → IsStartOf n s
    by true o is = absurd (cc)
    by false None is = absurd (cc)
    by false (Some digits) is = of_digits n digits (stamp_in (field_at row 2)) s is

of_row : (n : Named) (row : Row) (s : State) → start_in (place_count n.plan) row ≡ Ok s → IsStartOf n s
of_row n row s e = by (field_at row 0) e
  where
    by : (o : Option Text) → start_by (place_count n.plan) o row ≡ Ok s → IsStartOf n s
    by None is = absurd (cc)
    by (Some word) is = whether (bytes_eq word (codes "start")) is
      where
        whether : (b : Bool) → (if b then ok_or (start_fields (place_count n.plan) row) BadStart else Err NoStart) ≡ Ok s → IsStartOf n s
        whether true k = of_fields n row s (given (start_fields (place_count n.plan) row) BadStart s k)
        whether false k = absurd (cc)

pub starts_of_plans : StartsAreOfPlans
starts_of_plans n script s e = by (records default_config (strip_bom script)) e
  where
    by : (rows : List Row) → rows_start n rows ≡ Ok s → IsStartOf n s
    by [] is = absurd (cc)
    by (row ∷ rows) is = of_row n row s is
