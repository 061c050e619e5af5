-- What C gets back from a call: numbers for the answer and for what it names, and the word after it.
use Rattle.std.specs.Prelude.{ℕ, Bool, false, Option, Some, None}
use Rattle.plan_types.specs.declared.answer.Refusal.{Refusal}
use Rattle.plan_types.specs.declared.answer.Refusal.TheVariants.{NotParty, Held, AlreadyMine, Shut, NotOwner}
use Rattle.plan_types.specs.declared.answer.Refusal.TheVariants.{PlateInZone, NoPlate, PlaceFull, WrongWay, Jump}
use Rattle.plan_types.specs.declared.answer.Refusal.TheVariants.{NoPose, Worn, Stopped, NotStopped}
use Rattle.plan_types.specs.declared.answer.Answer.{Answer}
use Rattle.plan_types.specs.declared.answer.Answer.TheVariants.{Done, Shown, Refused}
use Rattle.plan_c.specs.Numbers.{posture_number}
use Rattle.plan_c.specs.declared.reply.Reply.{Reply}

-- the same as the cell's; 11 and 16 are refusals that plans don't have
abbrev pub refusal_number : Refusal → ℕ
refusal_number NotParty = 1
refusal_number (Held _) = 2
refusal_number AlreadyMine = 3
refusal_number (Shut _) = 4
refusal_number (NotOwner _) = 5
refusal_number (PlateInZone _) = 6
refusal_number NoPlate = 7
refusal_number PlaceFull = 8
refusal_number WrongWay = 9
refusal_number Jump = 10
refusal_number NoPose = 12
refusal_number Worn = 13
refusal_number Stopped = 14
refusal_number NotStopped = 15

abbrev pub answer_number : Answer → ℕ
answer_number Done = 0
answer_number (Refused r) = refusal_number r
answer_number (Shown _ _ _) = 32

-- where an answer names nothing, or nobody: no number of a machine, a zone or a posture
abbrev pub nothing : ℕ
nothing = 255

abbrev pub owner_number : Option ℕ → ℕ
owner_number None = nothing
owner_number (Some m) = m

-- the machine that an answer names
abbrev pub owner_in : Answer → ℕ
owner_in (Refused (Held m)) = m
owner_in (Refused (NotOwner o)) = owner_number o
owner_in (Shown o _ _) = owner_number o
owner_in _ = nothing

-- the zone that it names
abbrev pub zone_in : Answer → ℕ
zone_in (Refused (PlateInZone z)) = z
zone_in _ = nothing

-- the posture that it names
abbrev pub posture_in : Answer → ℕ
posture_in (Refused (Shut q)) = posture_number q
posture_in (Shown _ _ q) = posture_number q
posture_in _ = nothing

-- whether it shows a plate in the zone
abbrev pub plate_in : Answer → Bool
plate_in (Shown _ f _) = f
plate_in _ = false

-- the reply of an answer and of the word after it
abbrev pub reply_of : Answer → ℕ → Reply
reply_of a next = record {
  next = next;
  answer = answer_number a;
  owner = owner_in a;
  zone = zone_in a;
  posture = posture_in a;
  plate = plate_in a;
}

-- a reply that names nothing
abbrev pub bare_reply : ℕ → ℕ → Reply
bare_reply answer next = record {
  next = next;
  answer = answer;
  owner = nothing;
  zone = nothing;
  posture = nothing;
  plate = false;
}

-- the answers where numbers name no call, where a word is no state's, and where bytes are no plan
abbrev pub no_call : ℕ
no_call = 64

abbrev pub no_state : ℕ
no_state = 65

abbrev pub no_plan : ℕ
no_plan = 67

-- no word: bits 63 and 1 are set, so the first zone is closed and its guest's, or the word is too long for a plan
-- without zones; and no stamp: all bits are set
abbrev pub no_word : ℕ
no_word = 9223372036854775810

abbrev pub no_stamp : ℕ
no_stamp = 4294967295
