-- The words of refusals and answers.
use Rattle.std.specs.Prelude.{ℕ, Bool, true, false, List, ◌∷◌, ◌++◌, codes, Option, Some, None}
use Rattle.cell_types.specs.declared.machine.Machine.{Machine}
use Rattle.cell_types.specs.declared.answer.Refusal.{Refusal}
use Rattle.cell_types.specs.declared.answer.Refusal.TheVariants.{NotParty, Held, AlreadyMine, Shut, NotOwner}
use Rattle.cell_types.specs.declared.answer.Refusal.TheVariants.{PlateInZone, NoPlate, PlaceFull, WrongWay, Jump}
use Rattle.cell_types.specs.declared.answer.Refusal.TheVariants.{NotAtWork, NoPose, Worn, Stopped, NotStopped, InUse}
use Rattle.cell_types.specs.declared.answer.Answer.{Answer}
use Rattle.cell_types.specs.declared.answer.Answer.TheVariants.{Done, Shown, Refused}
use Rattle.cell_types.specs.Words.{machine_word, zone_word, posture_word}

-- who owns a zone
abbrev pub owner_word : Option Machine → List ℕ
owner_word None = codes "free"
owner_word (Some m) = machine_word m

-- whether a plate is in a zone
abbrev pub flag_word : Bool → List ℕ
flag_word true = codes "1"
flag_word false = codes "0"

abbrev pub refusal_word : Refusal → List ℕ
refusal_word NotParty = codes "notparty"
refusal_word (Held m) = codes "held " ++ machine_word m
refusal_word AlreadyMine = codes "already"
refusal_word (Shut p) = codes "shut " ++ posture_word p
refusal_word (NotOwner o) = codes "notowner " ++ owner_word o
refusal_word (PlateInZone z) = codes "platein " ++ zone_word z
refusal_word NoPlate = codes "noplate"
refusal_word PlaceFull = codes "placefull"
refusal_word WrongWay = codes "wrongway"
refusal_word Jump = codes "jump"
refusal_word NotAtWork = codes "notatwork"
refusal_word NoPose = codes "nopose"
refusal_word Worn = codes "worn"
refusal_word Stopped = codes "stopped"
refusal_word NotStopped = codes "notstopped"
refusal_word InUse = codes "inuse"

abbrev pub answer_text : Answer → List ℕ
answer_text Done = codes "done"
answer_text (Shown o f p) = codes "zone " ++ (owner_word o ++ 32 ∷ (flag_word f ++ 32 ∷ posture_word p))
answer_text (Refused r) = refusal_word r
