-- Answers as texts, by the names of a plan.
use Rattle.std.specs.Prelude.{ℕ, Bool, true, false, List, [], ◌∷◌, ◌++◌, codes, find, Option, Some, None}
use Rattle.std.specs.Str.{bytes_eq}
use Rattle.plan_types.specs.declared.posture.Posture.{Posture}
use Rattle.plan_types.specs.declared.posture.Posture.TheVariants.{Closed, Moving, OpenIn, OpenOut}
use Rattle.plan_types.specs.declared.answer.Answer.{Answer}
use Rattle.plan_types.specs.declared.answer.Answer.TheVariants.{Done, Shown, Refused}
use Rattle.plan_types.specs.declared.answer.Refusal.{Refusal}
use Rattle.plan_types.specs.declared.answer.Refusal.TheVariants.{NotParty, Held, AlreadyMine, Shut, NotOwner}
use Rattle.plan_types.specs.declared.answer.Refusal.TheVariants.{PlateInZone, NoPlate, PlaceFull, WrongWay, Jump}
use Rattle.plan_types.specs.declared.answer.Refusal.TheVariants.{NoPose, Worn, Stopped, NotStopped}
use Rattle.plan_text.specs.Names.{Text, name_in}
use Rattle.plan_text.specs.Named.{Named}

abbrev pub posture_word : Posture → Text
posture_word Closed = codes "closed"
posture_word Moving = codes "moving"
posture_word OpenIn = codes "openin"
posture_word OpenOut = codes "openout"

abbrev pub all_postures : List Posture
all_postures = Closed ∷ Moving ∷ OpenIn ∷ OpenOut ∷ []

-- the posture with this word
abbrev pub posture_of : Text → Option Posture
posture_of word = find (λ posture. bytes_eq word (posture_word posture)) all_postures

abbrev pub flag_text : Bool → Text
flag_text true = codes " 1 "
flag_text false = codes " 0 "

abbrev pub owner_word : Named → Option ℕ → Text
owner_word n (Some machine) = name_in n.machines machine
owner_word n None = codes "free"

abbrev pub refusal_text : Named → Refusal → Text
refusal_text n NotParty = codes "notparty"
refusal_text n (Held machine) = codes "held " ++ name_in n.machines machine
refusal_text n AlreadyMine = codes "already"
refusal_text n (Shut posture) = codes "shut " ++ posture_word posture
refusal_text n (NotOwner owner) = codes "notowner " ++ owner_word n owner
refusal_text n (PlateInZone zone) = codes "platein " ++ name_in n.zones zone
refusal_text n NoPlate = codes "noplate"
refusal_text n PlaceFull = codes "placefull"
refusal_text n WrongWay = codes "wrongway"
refusal_text n Jump = codes "jump"
refusal_text n NoPose = codes "nopose"
refusal_text n Worn = codes "worn"
refusal_text n Stopped = codes "stopped"
refusal_text n NotStopped = codes "notstopped"

abbrev pub answer_text : Named → Answer → Text
answer_text n Done = codes "done"
answer_text n (Shown owner flag posture) =
    codes "zone " ++ owner_word n owner ++ flag_text flag ++ posture_word posture
answer_text n (Refused refusal) = refusal_text n refusal
