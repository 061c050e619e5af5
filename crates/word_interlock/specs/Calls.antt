-- What `ask` answers, by cases.
use Rattle.std.specs.Prelude.{◌≡◌, ℕ, ◌<◌, ◌≤◌, true, List, ⊤}
use Rattle.word_interlock.specs.RuleBook.{RuleBook}
use Rattle.word_interlock.specs.History.{after, Settles, Waits}
use Rattle.word_interlock.specs.declared.reply.Reply.{Reply}
use Rattle.word_interlock.specs.declared.reply.Reply.TheVariants.{Settled, Busy}

module _ {A : Type 0} where
  -- if a call was answered, this holds of the answer
  abbrev pub IfSettled : Reply A → (A → Type 0) → Type 0
  IfSettled (Settled answer stamp) holds = holds answer
  IfSettled (Busy lost stamp) holds = ⊤

  -- if it wasn't made, this holds of the number of exchanges that it lost
  abbrev pub IfBusy : Reply A → (ℕ → Type 0) → Type 0
  IfBusy (Settled answer stamp) holds = ⊤
  IfBusy (Busy lost stamp) holds = holds lost

  -- the stamp in a reply
  abbrev pub stamp_in : Reply A → ℕ
  stamp_in (Settled answer stamp) = stamp
  stamp_in (Busy lost stamp) = stamp

module _ {S M C A E : Type 0} (b : RuleBook S M C A E) where
  -- what a caller has seen after a call, by what came back; the stamp is the one in the state after that
  abbrev pub SeenAfter : M → C → Reply A → S → List E → List E → Type 0
  SeenAfter m c (Settled a stamp) s before now = Settles b m c a before now × (stamp ≡ b.stamp (after b s now))
  SeenAfter m c (Busy lost stamp) s before now = Waits b m before now × (stamp ≡ b.stamp (after b s now))

  -- a reply has at least this stamp, and a higher one if the call is done
  abbrev pub IsStampedAfter : ℕ → Reply A → Type 0
  IsStampedAfter told (Settled answer stamp) = (told ≤ stamp) × (b.is_done answer ≡ true → told < stamp)
  IsStampedAfter told (Busy lost stamp) = told ≤ stamp
