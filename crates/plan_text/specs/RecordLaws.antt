-- Laws of any record, of any length: which records are calls, which are starts, and why one is no call.
use Rattle.std.specs.Prelude.{◌≡◌, ◌≢◌, ◌⊎◌, ℕ, ◌<◌, ◌≤◌, [], ◌∷◌, ◌++◌, codes, length, All, Some, None, Ok, Err}
use Rattle.csv_rows.specs.Numbers.{number_in}
use Rattle.csv_rows.specs.Rows.{Row}
use Rattle.csv_rows.specs.declared.script_end.ScriptFault.{ScriptFault}
use Rattle.csv_rows.specs.declared.script_end.ScriptFault.TheVariants.{BadStart, NoStart}
use Rattle.plan_types.specs.declared.call.Call.{Call}
use Rattle.plan_types.specs.declared.call.Call.TheVariants.{Stop, Resume}
use Rattle.plan_rules.specs.declared.state.State.{State}
use Rattle.plan_text.specs.Calls.{call_of, caller_of, verb_of, verb_word}
use Rattle.plan_text.specs.Named.{Named}
use Rattle.plan_text.specs.Names.{Text}
use Rattle.plan_text.specs.Reasons.{why_no_call}
use Rattle.plan_text.specs.Requests.{request_of}
use Rattle.plan_text.specs.Starts.{start_in}
use Rattle.plan_text.specs.declared.calls.Verb.{Verb}
use Rattle.plan_text.specs.declared.calls.Verb.TheVariants.{Pose, Advance}
use Rattle.plan_text.specs.declared.request.Request.{Request}

-- ---- calls

-- a word alone stops or resumes
abbrev pub IsCallAlone : Text → Call → Type 0
IsCallAlone word call = ((word ≡ codes "stop") × (call ≡ Stop)) ⊎ ((word ≡ codes "resume") × (call ≡ Resume))

-- a verb's word before a name is the call of this verb about this name
abbrev pub IsCallAbout : Named → ℕ → Text → Text → Call → Type 0
IsCallAbout n machine word name call =
    (verb : Verb) × (word ≡ verb_word verb) × (call_of n machine verb name ≡ Some call)

-- no record of more than three fields is a call, whatever its fields, nor one of fewer than two; of the others, who
-- calls, and what
pub record RecordsAreCalls (n : Named) (row rest : Row) (who word name : Text) (r : Request) : Type 0 where
  pub longer : 3 < length row → request_of n row ≡ None
  pub shorter : length row < 2 → request_of n row ≡ None
  pub caller : request_of n (who ∷ rest) ≡ Some r → caller_of n who ≡ Some r.machine
  pub alone : request_of n (who ∷ word ∷ []) ≡ Some r → IsCallAlone word r.call
  pub about : request_of n (who ∷ word ∷ name ∷ []) ≡ Some r → IsCallAbout n r.machine word name r.call

-- ---- starts

abbrev pub IsZeroOrOne : ℕ → Type 0
IsZeroOrOne digit = (digit ≡ 48) ⊎ (digit ≡ 49)

-- no record of more than three fields is a start, nor one of another first word; a start has a digit 0 or 1 for each
-- place, and a stamp up to the last; with other digits it is a wrong start, whatever stamp follows
pub record RecordsAreStarts (count : ℕ) (rest : Row) (word digits field : Text) (s : State) : Type 0 where
  pub other_word : word ≢ codes "start" → start_in count (word ∷ rest) ≡ Err NoStart
  pub longer : 2 < length rest → start_in count (codes "start" ∷ rest) ≡ Err BadStart
  pub shorter : start_in count (codes "start" ∷ []) ≡ Err BadStart
  pub places : start_in count (codes "start" ∷ digits ∷ rest) ≡ Ok s → length digits ≡ count
  pub digit : start_in count (codes "start" ∷ digits ∷ rest) ≡ Ok s → All IsZeroOrOne digits
  pub stamp : start_in count (codes "start" ∷ digits ∷ field ∷ []) ≡ Ok s → number_in field ≡ Some s.stamp
  pub last : start_in count (codes "start" ∷ digits ∷ field ∷ []) ≡ Ok s → s.stamp ≤ 1048575
  pub other_count : length digits ≢ count → start_in count (codes "start" ∷ digits ∷ rest) ≡ Err BadStart
  pub other_digit : ¬ All IsZeroOrOne digits → start_in count (codes "start" ∷ digits ∷ rest) ≡ Err BadStart
  pub fault : (fault : ScriptFault) → start_in count (codes "start" ∷ rest) ≡ Err fault → fault ≡ BadStart

-- ---- reasons

-- what is told of a record that is no call, by its first wrong field
pub record ReasonsAreOfFields (n : Named) (row rest : Row) (who word name : Text) (machine : ℕ) (verb : Verb)
    : Type 0 where
  pub longer : 3 < length row → why_no_call n row ≡ codes "field 4: a record has at most three fields"
  pub no_field : why_no_call n [] ≡ codes "field 1: no machine has this name"
  pub no_caller : caller_of n who ≡ None → length rest < 3
      → why_no_call n (who ∷ rest) ≡ codes "field 1: no machine has this name"
  pub no_word : caller_of n who ≡ Some machine → why_no_call n (who ∷ []) ≡ codes "field 2: a verb is missing"
  pub other_word : caller_of n who ≡ Some machine → verb_of word ≡ None
      → why_no_call n (who ∷ word ∷ [])
      ≡ codes "field 2: this isn't a verb; known: stop, resume, "
      ++ codes "and with a name claim, give, yield, take, release, inquire, pose, advance"
  pub no_name : caller_of n who ≡ Some machine → verb_of word ≡ Some verb
      → why_no_call n (who ∷ word ∷ []) ≡ codes "field 3: a name is missing"
  pub other_verb : caller_of n who ≡ Some machine → verb_of word ≡ None
      → why_no_call n (who ∷ word ∷ name ∷ [])
      ≡ codes "field 2: this isn't a verb that takes a name; "
      ++ codes "known: claim, give, yield, take, release, inquire, pose, advance"
  pub no_pose : caller_of n who ≡ Some machine → verb_of word ≡ Some Pose
      → why_no_call n (who ∷ word ∷ name ∷ []) ≡ codes "field 3: no pose has this name"
  pub no_place : caller_of n who ≡ Some machine → verb_of word ≡ Some Advance
      → why_no_call n (who ∷ word ∷ name ∷ []) ≡ codes "field 3: no place has this name"
  pub no_zone : caller_of n who ≡ Some machine → verb_of word ≡ Some verb → verb ≢ Pose → verb ≢ Advance
      → why_no_call n (who ∷ word ∷ name ∷ []) ≡ codes "field 3: no zone has this name"
