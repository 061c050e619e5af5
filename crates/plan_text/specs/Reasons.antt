-- Why a record of a script has no call: the first field that is wrong, and how.
use Rattle.std.specs.Prelude.{ℕ, ◌++◌, length, nat_lt, codes, Option, Some, None, if◌then◌else◌}
use Rattle.std.specs.Option.{option_and_then}
use Rattle.csv.specs.Records.{field_at}
use Rattle.csv_rows.specs.Rows.{Row}
use Rattle.plan_text.specs.Names.{Text}
use Rattle.plan_text.specs.Named.{Named}
use Rattle.plan_text.specs.Calls.{caller_of, verb_of}
use Rattle.plan_text.specs.declared.calls.Verb.{Verb}
use Rattle.plan_text.specs.declared.calls.Verb.TheVariants.{Pose, Advance}

-- a verb about a name that no zone has, or no pose
abbrev pub no_object : Option Verb → Text
no_object None =
    codes "field 2: this isn't a verb that takes a name; "
    ++ codes "known: claim, give, yield, take, release, inquire, pose, advance"
no_object (Some Pose) = codes "field 3: no pose has this name"
no_object (Some Advance) = codes "field 3: no place has this name"
no_object (Some _) = codes "field 3: no zone has this name"

-- a verb alone
abbrev pub no_name : Option Verb → Text
no_name None =
    codes "field 2: this isn't a verb; known: stop, resume, "
    ++ codes "and with a name claim, give, yield, take, release, inquire, pose, advance"
no_name (Some _) = codes "field 3: a name is missing"

abbrev pub wrong_words : Option Text → Option Text → Text
wrong_words None name = codes "field 2: a verb is missing"
wrong_words (Some word) None = no_name (verb_of word)
wrong_words (Some word) (Some name) = no_object (verb_of word)

abbrev pub wrong_caller : Option ℕ → Row → Text
wrong_caller None fields = codes "field 1: no machine has this name"
wrong_caller (Some machine) fields = wrong_words (field_at fields 1) (field_at fields 2)

abbrev pub why_no_call : Named → Row → Text
why_no_call n fields =
    if nat_lt 3 (length fields) then codes "field 4: a record has at most three fields"
    else wrong_caller (option_and_then (caller_of n) (field_at fields 0)) fields
