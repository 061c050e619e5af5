-- The steps of an answer in the examples.
use Rattle.std.proofs.Common.{rules, ◌≡◌, ◌≤◌, ◌++◌, ℕ, Bool, true, false, ◌&&◌, not, nat_le, List, [], ◌∷◌, length, take, drop, refl, subst, Option, Some, None, Ok, Err, arith, codes, le-leb, leb-true, le-ltb, lt-ltb}
use Rattle.std.specs.Prelude.{option_map}
use Rattle.std.specs.Fmt.{decimal, digits}
use Rattle.cell_replay.specs.Requests.{call_of, machine_of, request_of}
use Rattle.cell_replay.specs.Script.{history_of, is_cut_of, requests_in, start_fields, start_in, start_line, start_of}
use Rattle.cell_replay.specs.StepExamples.{EndExamples, EndsByNumber, LeftExamples, RequestExamples, StartSteps, StepsAreMet, VersionExamples, WritingExamples}
use Rattle.cell_replay.specs.Versions.{version_word}
use Rattle.cell_replay.proofs.Writings.{end-all, end-bad}
use Rattle.cell_replay.specs.declared.version.Version.{Version}
use Rattle.cell_replay.specs.declared.version.Version.TheVariants.{First, Second}
use Rattle.cell_rules.specs.Names.{ModelState, PlaceSet, has, is_start, last_stamp, places_in, plates_of, size_of}
use Rattle.cell_rules.specs.ModelState.{max_plates}
use Rattle.cell_rules.specs.Start.{IsStart}
use Rattle.cell_types.specs.declared.place.Place.TheVariants.{PressIn, PressOut}
use Rattle.csv_rows.specs.Numbers.{number_in}
use Rattle.csv_rows.specs.Rows.{Row}
use Rattle.csv_rows.specs.declared.script_end.ScriptFault.{ScriptFault}
use Rattle.csv_rows.specs.declared.script_end.ScriptFault.TheVariants.{BadStart}
use Rattle.cell_replay.specs.Writing.{lines_after}

versions : VersionExamples
versions = search rules

requests : RequestExamples
unfolding call_of machine_of request_of requests_in
requests = search rules

-- a start's test is its definition
all_three : (a b c : Bool) → a ≡ true → b ≡ false → c ≡ true → (a && not b && c) ≡ true
all_three a b c ka kb kc = simp (ka, kb, kc)

three : (a b c : Bool) → (a && not b && c) ≡ true → (a ≡ true) × (b ≡ false) × (c ≡ true)
three true false true k = (refl, refl, refl)
three _ _ _ k = cc

is-start : (full : PlaceSet) (stamp : ℕ) → IsStart full stamp → is_start full stamp ≡ true
is-start full stamp k =
    all_three (nat_le (size_of full) max_plates) (has full PressIn && has full PressOut) (nat_le stamp last_stamp)
    (le-leb _ _ k.six_plates_at_most) k.one_in_press_at_most (le-leb _ _ k.stamp_in_range)

start-is : (full : PlaceSet) (stamp : ℕ) → is_start full stamp ≡ true → IsStart full stamp
start-is full stamp e =
    let parts = three (nat_le (size_of full) max_plates) (has full PressIn && has full PressOut) (nat_le stamp last_stamp) e in
    record {
      six_plates_at_most = leb-true _ _ parts.0;
      one_in_press_at_most = parts.1;
      stamp_in_range = leb-true _ _ parts.2;
    }

no-start : (full : PlaceSet) (stamp : ℕ) (yes : Bool) → is_start full stamp ≡ yes → ¬ IsStart full stamp → is_start full stamp ≡ false
no-start full stamp true e isnt = absurd (isnt (start-is full stamp e))
no-start full stamp false e isnt = e

state-of : (version : Version) (fields : Row) (s : ModelState) → start_fields fields ≡ Ok s → start_in (version_word version ∷ fields) ≡ Ok (record { version = version; state = s })
unfolding start_in
state-of First fields s e = rw e refl
state-of Second fields s e = rw e refl

fault-of : (version : Version) (fields : Row) (fault : ScriptFault) → start_fields fields ≡ Err fault → start_in (version_word version ∷ fields) ≡ Err fault
unfolding start_in
fault-of First fields fault e = rw e refl
fault-of Second fields fault e = rw e refl

no-number : (places : Option (List Bool)) (stamp : List ℕ) → number_in stamp ≡ None → start_of places (number_in stamp) ≡ Err BadStart
no-number (Some flags) stamp none = rw none refl
no-number None stamp none = refl

starts : StartSteps
unfolding start_in
starts = record {
  opens = λ full stamp k. rw (is-start full stamp k) refl;
  refused = λ full stamp isnt. rw (no-start full stamp (is_start full stamp) refl isnt) refl;
  by_fields = λ places stamp flags number p n. rw (p, n) refl;
  unstamped = λ places. refl;
  no_number = λ places stamp none. no-number (places_in places) stamp none;
  field_more = λ places stamp more rest. refl;
  state_of_any = state-of;
  refused_of_any = fault-of;
  no_version = λ word fields none. rw none refl;
}

ends : EndExamples
unfolding digits call_of machine_of request_of history_of requests_in lines_after
ends = record {
  all_answered = refl;
  all_answered_of_cut = refl;
  first_bad = refl;
  later_bad = refl;
  last_bad = refl;
  one_too_many = refl;
  most = refl;
  no_start = refl;
  cut_without_rows = refl;
  no_rows = refl;
  no_events = refl;
  no_lines = refl;
  most_bytes = λ bytes e. rw e refl;
  byte_more = λ bytes e. rw e refl;
  limit = refl;
  no_last = refl;
  without_last_of_one = refl;
  one_line = refl;
  line_of_start = refl;
  three_lines = refl;
  lines_after_five = refl;
  no_lines_after = refl;
  last_request_left = refl;
  no_request_left = refl;
  lines_of_rows = refl;
  no_row_left = refl;
  cut_left = refl;
  bad_left = refl;
  too_many_left = refl;
}

first-line : (version : Version) (s : ModelState) → start_line (record { version = version; state = s }) ≡ codes "0 " ++ (decimal s.stamp ++ (codes " " ++ (version_word version ++ (codes " " ++ (decimal (plates_of s) ++ codes "\n")))))
unfolding digits
first-line First s = refl
first-line Second s = refl

by-number : EndsByNumber
unfolding lines_after
by-number = record {
  line = λ number stamp text. refl;
  first_line = first-line;
  next_line = λ done s r later. refl;
  all_answered = end-all false;
  all_answered_of_cut = end-all true;
  bad_row = end-bad;
  too_many = λ is_cut count more. rw (lt-ltb _ _ more) refl;
  whole = λ bytes few. le-ltb _ _ few;
  cut = λ bytes more. lt-ltb _ _ more;
  room = λ taken. refl;
  no_room = λ is_cut taken. refl;
}

-- what holds of known bytes
known : {A : Type 0} (P : A → Type 0) (a : A) → P a → (x : A) → Some a ≡ Some x → P x
known P a p x e = let same : a ≡ x = cc in subst P same p

writings : WritingExamples
writings = record {
  whole = (refl, refl);
  other_end = λ k. let e = k.0 in cc;
  line_left_out = λ k. let e = k.1 in cc;
  one_line_read = (1, refl);
  no_line_for_memory = (0, refl);
  part_written = (4, refl);
  whole_line = refl;
  no_line = λ k. cc;
  no_read_of_line = λ k. k;
  no_memory_for_line = refl;
  memory_for_line = λ k. cc;
  part_of_line = (1, refl);
  whole_end = (refl, refl);
  no_end = λ k. let e = k.1 in cc;
  other_outcome = λ k. let e = k.0 in cc;
  nothing_if_clean = (refl, refl);
  no_read_of_end = λ k. k;
  no_memory_for_end = refl;
  part_of_end = (8, refl);
  script = λ bytes old new said k. k;
  script_fails = λ bytes old new fault k. k;
  grown = known (λ bytes. option_map (take (length bytes)) (Some (codes "abc")) ≡ Some bytes) (codes "ab") refl;
  not_grown = known (λ bytes. option_map (take (length bytes)) (Some (codes "ab")) ≡ Some bytes) (codes "ab") refl;
  changed = λ k. let e = k (1 ∷ 2 ∷ []) refl in cc;
  lost = λ k. let e = k (codes "ab") refl in cc;
  failed_read = refl;
  no_memory = refl;
}

left : LeftExamples
left = record {
  two_taken = known (λ bytes. (2 ≤ length bytes) × (Some (3 ∷ []) ≡ Some (drop 2 bytes))) (1 ∷ 2 ∷ 3 ∷ []) (omega arith, refl);
  others_taken = λ k. let e = (k (1 ∷ 2 ∷ 3 ∷ []) refl).1 in cc;
  too_many_taken = λ k. let h = (k (1 ∷ []) refl).0 in omega (arith, h);
  none_known = λ k. let e = (k (1 ∷ []) refl).1 in cc;
  noted = known (λ is_cut. (bytes : List ℕ) → Some (7 ∷ []) ≡ Some bytes → is_cut ≡ is_cut_of bytes) false (known (λ bytes. false ≡ is_cut_of bytes) (7 ∷ []) refl);
  noted_wrongly = λ k. let e = k true refl (7 ∷ []) refl in cc;
  not_noted = λ is_cut e. absurd (cc);
  whole_room = refl;
  less_room = refl;
  no_room = refl;
  no_room_once_noted = refl;
  no_room_once_cut = refl;
  two_bytes = refl;
  no_bytes = refl;
  unknown_bytes = refl;
  given = (_, refl, refl);
  other_given = λ k. let e = k.1 in cc;
  other_rest = λ k. let e = k.1 in let f = k.2 in cc;
  none_given = (refl, refl);
  none_given_of_one = λ k. let e = k.1 in cc;
  none_given_unnoted = λ k. let e = k.0 in cc;
  none_held = λ reader. (refl, refl);
  none_held_unnoted = λ reader k. let e = k.0 in cc;
  none_held_but_left = λ reader k. let e = k.1 in cc;
  held = λ reader h. (_, h, refl);
  held_of_cut = λ reader h. (_, h, refl);
  what_is_held = λ reader held left k. k;
}

pub steps_are_met : StepsAreMet
steps_are_met = record { versions = versions; requests = requests; starts = starts; ends = ends; ends_by_number = by-number; writings = writings; left = left }
