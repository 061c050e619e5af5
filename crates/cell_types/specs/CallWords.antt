-- How a call is written: the fields of a record after the machine's word.
use Rattle.std.specs.Prelude.{ℕ, List, [], ◌∷◌, ◌++◌, codes, Option, Some, None}
use Rattle.cell_types.specs.declared.call.Call.{Call}
use Rattle.cell_types.specs.declared.call.Call.TheVariants.{Claim, Give, Yield, Take, Release, SetPose, Advance}
use Rattle.cell_types.specs.declared.call.Call.TheVariants.{Inquire, Stop, Resume}
use Rattle.cell_types.specs.Words.{pose_word, zone_word}

abbrev pub verb_of : Call → List ℕ
verb_of (Claim _) = codes "claim"
verb_of (Give _) = codes "give"
verb_of (Yield _) = codes "yield"
verb_of (Take _) = codes "take"
verb_of (Release _) = codes "release"
verb_of (SetPose _) = codes "pose"
verb_of Advance = codes "advance"
verb_of (Inquire _) = codes "inquire"
verb_of Stop = codes "stop"
verb_of Resume = codes "resume"

-- the zone or the pose that a call names
abbrev pub object_of : Call → Option (List ℕ)
object_of (Claim z) = Some (zone_word z)
object_of (Give z) = Some (zone_word z)
object_of (Yield z) = Some (zone_word z)
object_of (Take z) = Some (zone_word z)
object_of (Release z) = Some (zone_word z)
object_of (SetPose p) = Some (pose_word p)
object_of Advance = None
object_of (Inquire z) = Some (zone_word z)
object_of Stop = None
object_of Resume = None

-- a verb, and the field after it if there is one
abbrev pub with_object : List ℕ → Option (List ℕ) → List (List ℕ)
with_object verb None = verb ∷ []
with_object verb (Some object) = verb ∷ object ∷ []

abbrev pub call_fields : Call → List (List ℕ)
call_fields call = with_object (verb_of call) (object_of call)

-- a call in one line of text, with a blank between verb and object
abbrev pub with_blank : List ℕ → Option (List ℕ) → List ℕ
with_blank verb None = verb
with_blank verb (Some object) = verb ++ 32 ∷ object

abbrev pub call_text : Call → List ℕ
call_text call = with_blank (verb_of call) (object_of call)
