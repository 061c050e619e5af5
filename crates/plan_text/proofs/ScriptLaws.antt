-- Each record is answered in the state that those before it have left.
use Rattle.std.proofs.Common.{ℕ, ◌≡◌, ◌∙◌, ◌&&◌, List, ◌∷◌, Bool, true, false, length, nat_eq, nat_le, Option, None, refl, ap, arith, eq-eqb, ne_eqb, le-leb, le-ltb, lt-ltb}
use Rattle.std.proofs.lemmas.Bool.{lt-leb}
use Rattle.std.proofs.lemmas.List.FromFn.{get_or-map-range_with_len}
use Rattle.std.specs.List.{list_all}
use Rattle.std.specs.Prelude.{IsTrue, nat_lt, if◌then◌else◌}
use Rattle.csv.specs.Records.{field_at}
use Rattle.csv_rows.specs.Rows.{Row}
use Rattle.csv_rows.specs.declared.script_end.ScriptFault.{ScriptFault}
use Rattle.plan_types.specs.declared.call.Call.{Call}
use Rattle.plan_rules.specs.declared.state.State.{State}
use Rattle.plan_text.specs.Calls.{caller_of}
use Rattle.plan_text.specs.Named.{Named}
use Rattle.plan_text.specs.Names.{Text}
use Rattle.plan_text.specs.Requests.{request_of}
use Rattle.plan_text.specs.Script.{Answers, answers_from}
use Rattle.plan_text.specs.ScriptLaws.{RecordsAreAnswered, RecordsAreRead, ScriptsAreOfRecords, StartsAreOfDigits}
use Rattle.plan_text.specs.Starts.{are_places, is_flag, is_one}
use Rattle.plan_text.specs.declared.calls.Verb.{Verb}
use Rattle.plan_text.specs.declared.request.Request.{Request}
use Rattle.plan_text.proofs.Answering.{answers_of-bad, answers_of-long, answers_of-more, answers_of-none}

either_none : {A : Type 0} (b : Bool) (o : Option A) → o ≡ None → (if b then None else o) ≡ None
either_none true o e = refl
either_none false o e = e

stranger : (n : Named) (who : Text) (rest : Row) → caller_of n who ≡ None → request_of n (who ∷ rest) ≡ None
unfolding field_at
stranger n who rest e = either_none (nat_lt 3 (length (who ∷ rest))) _ (rw e refl)

pub records_read : (n : Named) (machine : ℕ) (who word name : Text) (verb : Verb) (call : Call) (rest : Row) → RecordsAreRead n machine who word name verb call rest
unfolding field_at
records_read n machine who word name verb call rest = record {
  of_object = λ a b c. rw (a, b, c) refl;
  of_stop = λ a. rw a refl;
  of_resume = λ a. rw a refl;
  no_caller = stranger n who rest;
  no_verb = λ a b. rw (a, b) refl;
  no_object = λ a b c. rw (a, b, c) refl;
}

pub records_answered : (n : Named) (done : ℕ) (s : State) (row : Row) (rows : List Row) (r : Request) → RecordsAreAnswered n done s row rows r
records_answered n done s row rows r = record {
  of_call = λ few good. let e = answers_of-more n done s row rows r few good in record { text = ap (λ (a : Answers). a.text) e; outcome = ap (λ (a : Answers). a.outcome) e };
  no_call = λ few bad. let e = answers_of-bad n done s row rows few bad in record { text = ap (λ (a : Answers). a.text) e; outcome = ap (λ (a : Answers). a.outcome) e };
  too_many = let e = answers_of-long n s row rows in record { text = ap (λ (a : Answers). a.text) e; outcome = ap (λ (a : Answers). a.outcome) e };
  none = let e = answers_of-none n done s in record { text = ap (λ (a : Answers). a.text) e; outcome = ap (λ (a : Answers). a.outcome) e };
}

-- ---- starts

both_true : (a b : Bool) → a ≡ true → b ≡ true → (a && b) ≡ true
both_true a b e f = rw (e, f) refl

second_false : (a b : Bool) → b ≡ false → (a && b) ≡ false
second_false true b e = e
second_false false b e = refl

are_flags : (count : ℕ) (digits : Text) → length digits ≡ count → IsTrue (list_all is_flag digits) → are_places count digits ≡ true
are_flags count digits same all = both_true (nat_eq (length digits) count) (list_all is_flag digits) (eq-eqb (length digits) count same) all

pub starts_of_digits : (count : ℕ) (digits field : Text) (stamp : ℕ) → StartsAreOfDigits count digits field stamp
unfolding field_at
starts_of_digits count digits field stamp = record {
  stamped = λ same all is within. rw (is, are_flags count digits same all, le-leb stamp 1048575 within) refl;
  not_stamped = λ same all. rw (are_flags count digits same all) refl;
  place = λ place few within.
      let there : nat_lt place (length digits) ≡ true = lt-ltb place (length digits) within in
      get_or-map-range_with_len (is_one digits) 0 16 place place false few (omega arith) ∙ rw there refl;
  no_place = λ place few past.
      let none : nat_lt place (length digits) ≡ false = le-ltb place (length digits) past in
      get_or-map-range_with_len (is_one digits) 0 16 place place false few (omega arith) ∙ rw none refl;
  other_count = λ other.
      let wrong : nat_eq (length digits) count ≡ false = ne_eqb (length digits) count other in
      rw wrong refl;
  no_digit = λ wrong. rw (second_false (nat_eq (length digits) count) (list_all is_flag digits) wrong) refl;
  late = λ is past.
      let over : nat_le stamp 1048575 ≡ false = lt-leb stamp 1048575 past in
      rw (is, second_false (are_places count digits) (nat_le stamp 1048575) over) refl;
}

pub scripts_of_records : (n : Named) (s : State) (row : Row) (rows : List Row) (fault : ScriptFault) (script : Text) → ScriptsAreOfRecords n s row rows fault script
scripts_of_records n s row rows fault script = record {
  answers = refl;
  start = refl;
  first = refl;
  from_start = λ e. let h = ap (λ start. answers_from n start rows) e in record { text = ap (λ (a : Answers). a.text) h; outcome = ap (λ (a : Answers). a.outcome) h };
  no_record = record { text = refl; outcome = refl };
  no_first = refl;
  no_start = λ e. let h = ap (λ start. answers_from n start rows) e in record { text = ap (λ (a : Answers). a.text) h; outcome = ap (λ (a : Answers). a.outcome) h };
}
