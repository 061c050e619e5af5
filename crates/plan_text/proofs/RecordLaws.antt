-- Which records are calls and starts, of all; and why one is no call.
use Rattle.std.proofs.Common.{◌≡◌, ◌≢◌, ◌∙◌, inl, inr, ℕ, ◌<◌, Bool, true, false, ◌&&◌, [], ◌∷◌, codes, length, All, nat_eq, nat_le, Option, Some, None, Ok, Err, refl, sym, ap, subst, arith}
use Rattle.std.specs.Prelude.{nat_lt, if◌then◌else◌}
use Rattle.std.specs.List.{list_all}
use Rattle.std.specs.Option.{ok_or, option_and_then, option_map}
use Rattle.std.specs.Str.{bytes_eq}
use Rattle.std.proofs.lemmas.Bool.{and_parts, eqb-true, false_from_ne_true, le-ltb, leb-true, lt-ltb, or_cases}
use Rattle.std.proofs.lemmas.List.Elements.{All-weaker}
use Rattle.std.proofs.lemmas.List.Sums.{AllPass-from_list_all}
use Rattle.std.proofs.lemmas.Option.{same_Some}
use Rattle.std.proofs.lemmas.Slice.Eq.{bytes_eq-Decides}
use Rattle.csv.specs.Records.{field_at}
use Rattle.csv_rows.specs.Numbers.{number_in}
use Rattle.csv_rows.specs.Rows.{Row}
use Rattle.csv_rows.specs.declared.script_end.ScriptFault.{ScriptFault}
use Rattle.csv_rows.specs.declared.script_end.ScriptFault.TheVariants.{BadStart, NoStart}
use Rattle.plan_types.specs.declared.call.Call.{Call}
use Rattle.plan_types.specs.declared.call.Call.TheVariants.{Stop, Resume}
use Rattle.plan_rules.specs.declared.state.State.{State}
use Rattle.plan_rules.specs.State.{last_stamp, start_state}
use Rattle.plan_text.specs.Calls.{call_of, caller_of, verb_of}
use Rattle.plan_text.specs.Named.{Named}
use Rattle.plan_text.specs.Names.{Text}
use Rattle.plan_text.specs.Reasons.{no_object, why_no_call}
use Rattle.plan_text.specs.RecordLaws.{IsCallAbout, IsCallAlone, IsZeroOrOne, ReasonsAreOfFields, RecordsAreCalls, RecordsAreStarts}
use Rattle.plan_text.specs.Requests.{call_in, request, request_by, request_of, stop_by}
use Rattle.plan_text.specs.Starts.{are_places, full_places, is_flag, stamp_in, start_fields, start_in, start_of}
use Rattle.plan_text.specs.declared.calls.Verb.{Verb}
use Rattle.plan_text.specs.declared.calls.Verb.TheVariants.{Claim, Give, Yield, Take, Release, Inquire, Pose, Advance}
use Rattle.plan_text.specs.declared.request.Request.{Request}
use Rattle.plan_text.proofs.TextLaws.{of_verb}

-- ---- calls

otherwise : {A : Type 0} (b : Bool) (o : Option A) (x : A) → (if b then None else o) ≡ Some x → o ≡ Some x
otherwise true o x e = absurd (cc)
otherwise false o x e = e

-- what there is comes of something
comes_of : {A B : Type 0} (f : A → Option B) (o : Option A) (y : B) → option_and_then f o ≡ Some y → (x : A) × (o ≡ Some x) × (f x ≡ Some y)
comes_of f None y e = absurd (cc)
comes_of f (Some x) y e = (x, refl, e)

asked : (machine : ℕ) (o : Option Call) (r : Request) → option_map (request machine) o ≡ Some r → (machine ≡ r.machine) × (o ≡ Some r.call)
asked machine None r e = absurd (cc)
asked machine (Some call) r e = let same = same_Some (request machine call) r e in (ap (λ (q : Request). q.machine) same, ap (λ (q : Request). Some q.call) same)

calls_alone : (word : Text) (call : Call) → stop_by word ≡ Some call → IsCallAlone word call
calls_alone word call e = by (bytes_eq word (codes "stop")) (bytes_eq word (codes "resume")) refl refl e
  where
    by : (a b : Bool) → bytes_eq word (codes "stop") ≡ a → bytes_eq word (codes "resume") ≡ b
        → (if a then Some Stop else (if b then Some Resume else None)) ≡ Some call → IsCallAlone word call
    by true b stop resume is = inl ((bytes_eq-Decides word (codes "stop")).0 stop, sym (same_Some Stop call is))
    by false true stop resume is = inr ((bytes_eq-Decides word (codes "resume")).0 resume, sym (same_Some Resume call is))
    by false false stop resume is = absurd (cc)

calls_about : (n : Named) (machine : ℕ) (word name : Text) (call : Call) → call_in n machine word (Some name) ≡ Some call → IsCallAbout n machine word name call
calls_about n machine word name call e =
    let h = comes_of (λ verb. call_of n machine verb name) (verb_of word) call e in
    (h.0, of_verb word h.0 h.1, h.2)

too_short : (n : Named) (row : Row) → length row < 2 → request_of n row ≡ None
unfolding field_at
too_short n [] few = refl
too_short n (who ∷ []) few = by (caller_of n who)
  where
    by : (o : Option ℕ) → option_and_then (request_by n (who ∷ [])) o ≡ None
    by None = refl
    by (Some machine) = refl
too_short n (who ∷ word ∷ rest) few = absurd (omega arith)

of_caller : (n : Named) (who : Text) (rest : Row) (r : Request) → request_of n (who ∷ rest) ≡ Some r → caller_of n who ≡ Some r.machine
unfolding field_at
of_caller n who rest r e =
    let h = comes_of (request_by n (who ∷ rest)) (caller_of n who) r (otherwise _ _ r e) in
    let w = comes_of (λ word. option_map (request h.0) (call_in n h.0 word (field_at (who ∷ rest) 2))) (field_at (who ∷ rest) 1) r h.2 in
    h.1 ∙ ap Some (asked h.0 _ r w.2).0

of_alone : (n : Named) (who word : Text) (r : Request) → request_of n (who ∷ word ∷ []) ≡ Some r → IsCallAlone word r.call
unfolding field_at
of_alone n who word r e =
    let h = comes_of (request_by n (who ∷ word ∷ [])) (caller_of n who) r e in
    calls_alone word r.call (asked h.0 (stop_by word) r h.2).1

of_about : (n : Named) (who word name : Text) (r : Request) → request_of n (who ∷ word ∷ name ∷ []) ≡ Some r → IsCallAbout n r.machine word name r.call
unfolding field_at
of_about n who word name r e =
    let h = comes_of (request_by n (who ∷ word ∷ name ∷ [])) (caller_of n who) r e in
    let a = asked h.0 (call_in n h.0 word (Some name)) r h.2 in
    calls_about n r.machine word name r.call (subst (λ machine. call_in n machine word (Some name) ≡ Some r.call) a.0 a.1)

pub records_are_calls : (n : Named) (row rest : Row) (who word name : Text) (r : Request) → RecordsAreCalls n row rest who word name r
records_are_calls n row rest who word name r = record {
  longer = λ l. rw (lt-ltb 3 (length row) l) refl;
  shorter = too_short n row;
  caller = of_caller n who rest r;
  alone = of_alone n who word r;
  about = of_about n who word name r;
}

-- ---- starts

given : {A E : Type 0} (o : Option A) (fault : E) (x : A) → ok_or o fault ≡ Ok x → o ≡ Some x
given None fault x e = absurd (cc)
given (Some y) fault x e = let same : y ≡ x = cc in ap Some same

-- a start is that of its digits and its stamp
record IsMade (count : ℕ) (digits : Text) (stamp : Option ℕ) (s : State) : Type 0 where
  told : stamp ≡ Some s.stamp
  places : are_places count digits ≡ true
  within : nat_le s.stamp last_stamp ≡ true

made : (count : ℕ) (digits : Text) (stamp : Option ℕ) (s : State) → start_of count digits stamp ≡ Some s → IsMade count digits stamp s
made count digits None s e = absurd (cc)
made count digits (Some stamp) s e = by (are_places count digits && nat_le stamp last_stamp) refl e
  where
    by : (b : Bool) → (are_places count digits && nat_le stamp last_stamp) ≡ b → (if b then Some (start_state (full_places digits) stamp) else None) ≡ Some s → IsMade count digits (Some stamp) s
    by true is same =
        let e : stamp ≡ s.stamp = ap (λ (x : State). x.stamp) (same_Some (start_state (full_places digits) stamp) s same) in
        let h = and_parts (are_places count digits) (nat_le stamp last_stamp) is in
        record { told = ap Some e; places = h.0; within = subst (λ k. nat_le k last_stamp ≡ true) e h.1 }
    by false is same = absurd (cc)

started : (count : ℕ) (digits : Text) (rest : Row) (s : State) → start_in count (codes "start" ∷ digits ∷ rest) ≡ Ok s → IsMade count digits (stamp_in (field_at (codes "start" ∷ digits ∷ rest) 2)) s
unfolding field_at
started count digits rest s e =
    made count digits (stamp_in (field_at (codes "start" ∷ digits ∷ rest) 2)) s
    (otherwise _ _ s (given (start_fields count (codes "start" ∷ digits ∷ rest)) BadStart s e))

zero_or_one : (digit : ℕ) → is_flag digit ≡ true → IsZeroOrOne digit
zero_or_one digit e = elim (or_cases (nat_eq digit 48) (nat_eq digit 49) e) [
  | inl h ↦ inl (eqb-true digit 48 h)
  | inr h ↦ inr (eqb-true digit 49 h)
]

no_start : (count : ℕ) (word : Text) (rest : Row) → word ≢ codes "start" → start_in count (word ∷ rest) ≡ Err NoStart
unfolding field_at
no_start count word rest other =
    let no : bytes_eq word (codes "start") ≡ false = false_from_ne_true _ (λ is. other ((bytes_eq-Decides word (codes "start")).0 is)) in
    rw no refl

too_long : (count : ℕ) (rest : Row) → 2 < length rest → start_in count (codes "start" ∷ rest) ≡ Err BadStart
unfolding field_at
too_long count rest l =
    let long : nat_lt 3 (length (codes "start" ∷ rest)) ≡ true = lt-ltb 3 (length (codes "start" ∷ rest)) (omega arith) in
    rw long refl

too_little : (count : ℕ) → start_in count (codes "start" ∷ []) ≡ Err BadStart
unfolding field_at
too_little count = refl

stamped : (count : ℕ) (digits field : Text) (s : State) → start_in count (codes "start" ∷ digits ∷ field ∷ []) ≡ Ok s → number_in field ≡ Some s.stamp
unfolding field_at
stamped count digits field s e = (started count digits (field ∷ []) s e).told

-- a record that begins so is a start, or a wrong one
wrong_or_start : (count : ℕ) (rest : Row) (fault : ScriptFault) → start_in count (codes "start" ∷ rest) ≡ Err fault → fault ≡ BadStart
unfolding field_at
wrong_or_start count rest fault e = by (start_fields count (codes "start" ∷ rest)) e
  where
    by : (o : Option State) → ok_or o BadStart ≡ Err fault → fault ≡ BadStart
    by None is = cc
    by (Some s) is = absurd (cc)

wrong_unless : (count : ℕ) (rest : Row) → ((s : State) → start_in count (codes "start" ∷ rest) ≡ Ok s → ⊥) → start_in count (codes "start" ∷ rest) ≡ Err BadStart
unfolding field_at
wrong_unless count rest none = by (start_fields count (codes "start" ∷ rest)) none
  where
    by : (o : Option State) → ((s : State) → ok_or o BadStart ≡ Ok s → ⊥) → ok_or o BadStart ≡ Err BadStart
    by None never = refl
    by (Some s) never = absurd (never s refl)

digits_of : (count : ℕ) (digits : Text) (rest : Row) (s : State) → start_in count (codes "start" ∷ digits ∷ rest) ≡ Ok s → (length digits ≡ count) × All IsZeroOrOne digits
digits_of count digits rest s e =
    let h = and_parts (nat_eq (length digits) count) (list_all is_flag digits) (started count digits rest s e).places in
    (eqb-true (length digits) count h.0, All-weaker (λ d. is_flag d ≡ true) IsZeroOrOne zero_or_one digits (AllPass-from_list_all is_flag digits h.1))

pub records_are_starts : (count : ℕ) (rest : Row) (word digits field : Text) (s : State) → RecordsAreStarts count rest word digits field s
records_are_starts count rest word digits field s = record {
  other_word = no_start count word rest;
  longer = too_long count rest;
  shorter = too_little count;
  places = λ e. (digits_of count digits rest s e).0;
  digit = λ e. (digits_of count digits rest s e).1;
  stamp = stamped count digits field s;
  last = λ e. leb-true s.stamp last_stamp (started count digits (field ∷ []) s e).within;
  other_count = λ other. wrong_unless count (digits ∷ rest) (λ k e. other (digits_of count digits rest k e).0);
  other_digit = λ other. wrong_unless count (digits ∷ rest) (λ k e. other (digits_of count digits rest k e).1);
  fault = wrong_or_start count rest;
}

-- ---- reasons

no_caller : (n : Named) (who : Text) (rest : Row) → caller_of n who ≡ None → length rest < 3 → why_no_call n (who ∷ rest) ≡ codes "field 1: no machine has this name"
unfolding field_at
no_caller n who rest none few =
    let short : nat_lt 3 (length (who ∷ rest)) ≡ false = le-ltb 3 (length (who ∷ rest)) (omega arith) in
    rw (short, none) refl

no_zone : (verb : Verb) → verb ≢ Pose → verb ≢ Advance → no_object (Some verb) ≡ codes "field 3: no zone has this name"
no_zone Claim other end = refl
no_zone Give other end = refl
no_zone Yield other end = refl
no_zone Take other end = refl
no_zone Release other end = refl
no_zone Inquire other end = refl
no_zone Pose other end = absurd (other refl)
no_zone Advance other end = absurd (end refl)

pub reasons_are_of_fields : (n : Named) (row rest : Row) (who word name : Text) (machine : ℕ) (verb : Verb) → ReasonsAreOfFields n row rest who word name machine verb
unfolding field_at
reasons_are_of_fields n row rest who word name machine verb = record {
  longer = λ l. rw (lt-ltb 3 (length row) l) refl;
  no_field = refl;
  no_caller = no_caller n who rest;
  no_word = λ a. rw a refl;
  other_word = λ a b. rw (a, b) refl;
  no_name = λ a b. rw (a, b) refl;
  other_verb = λ a b. rw (a, b) refl;
  no_pose = λ a b. rw (a, b) refl;
  no_zone = λ a b other end. rw (a, b) (no_zone verb other end);
  no_place = λ a b. rw (a, b) refl;
}
