-- What `ask` answers, by cases.
use Rattle.std.specs.Prelude.{◌≡◌, ℕ, ◌<◌, ◌≤◌, ⊤}
use Rattle.cell_types.specs.declared.answer.Answer.{Answer}
use Rattle.cell_types.specs.declared.answer.Answer.TheVariants.{Done}
use Rattle.cell_types.specs.declared.reply.Reply.{Reply}
use Rattle.cell_types.specs.declared.reply.Reply.TheVariants.{Settled, Busy}

-- if a call was answered, this holds of the answer
abbrev pub IfSettled : Reply → (Answer → Type 0) → Type 0
IfSettled (Settled answer stamp) holds = holds answer
IfSettled (Busy lost stamp) holds = ⊤

-- if it wasn't made, this holds of the number of exchanges that it lost
abbrev pub IfBusy : Reply → (ℕ → Type 0) → Type 0
IfBusy (Settled answer stamp) holds = ⊤
IfBusy (Busy lost stamp) holds = holds lost

-- the stamp in a reply
abbrev pub stamp_in : Reply → ℕ
stamp_in (Settled answer stamp) = stamp
stamp_in (Busy lost stamp) = stamp

-- a reply has at least this stamp, and a higher one if the call is Done
abbrev pub IsStampedAfter : ℕ → Reply → Type 0
IsStampedAfter told (Settled answer stamp) = (told ≤ stamp) × (answer ≡ Done → told < stamp)
IsStampedAfter told (Busy lost stamp) = told ≤ stamp
