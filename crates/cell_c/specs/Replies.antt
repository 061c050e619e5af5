-- What C gets back from a call: numbers for the answer and for what it names, and the word after it.
use Rattle.std.specs.Prelude.{ℕ, Bool, false}
use Rattle.cell_rules.specs.Types.{Held, Shut, NotOwner, PlateInZone, Answer, Done, Shown, Refused, number_of}
use Rattle.cell_c.specs.Numbers.{owner_number, machine_number, zone_number, posture_number}
use Rattle.cell_c.specs.declared.reply.Reply.{Reply}

-- an answer's number: for a refusal its own
abbrev pub answer_number : Answer → ℕ
answer_number Done = 0
answer_number (Refused r) = number_of r
answer_number (Shown _ _ _) = 32

-- the machine that an answer names, or 0
abbrev pub owner_in : Answer → ℕ
owner_in (Refused (Held m)) = machine_number m
owner_in (Refused (NotOwner o)) = owner_number o
owner_in (Shown o _ _) = owner_number o
owner_in _ = 0

-- the zone that an answer names, or 0
abbrev pub zone_in : Answer → ℕ
zone_in (Refused (PlateInZone z)) = zone_number z
zone_in _ = 0

-- the posture that an answer names, or 0
abbrev pub posture_in : Answer → ℕ
posture_in (Refused (Shut q)) = posture_number q
posture_in (Shown _ _ q) = posture_number q
posture_in _ = 0

-- whether an answer shows a plate in the zone
abbrev pub plate_in : Answer → Bool
plate_in (Shown _ f _) = f
plate_in _ = false

-- the reply of an answer and of the word after it
abbrev pub reply_of : Answer → ℕ → Reply
reply_of a next = record {
  next = next;
  answer = answer_number a;
  owner = owner_in a;
  zone = zone_in a;
  posture = posture_in a;
  plate = plate_in a;
}

-- a reply that names nothing
abbrev pub bare_reply : ℕ → ℕ → Reply
bare_reply answer next = record { next = next; answer = answer; owner = 0; zone = 0; posture = 0; plate = false }

-- the answer where numbers name no machine or no call
abbrev pub no_call : ℕ
no_call = 64

-- the answer where a word is no sound state's
abbrev pub no_state : ℕ
no_state = 65

-- the word that no state has: all bits are set
abbrev pub no_word : ℕ
no_word = 18446744073709551615
