-- Order by message, as by Lamport's "happened before": a call that is made after a receipt was accepted comes after all
-- that the receipt tells.
use Rattle.std.specs.Prelude.{◌≡◌, List, [], ◌∷◌, ◌++◌}
use Rattle.word_interlock.specs.RuleBook.{RuleBook}
use Rattle.word_interlock.specs.History.{IsLegal, own_events, BeginsWith, Settles}
use Rattle.word_interlock.specs.Calls.{SeenAfter, stamp_in, IsStampedAfter}
use Rattle.word_interlock.specs.declared.reply.Reply.{Reply}

module _ {S M C A E : Type 0} (b : RuleBook S M C A E) where
  -- In a history an event stands before its last one. It is the first of its actor after what that had seen.
  pub record StandsBefore (seen : List E) (e last : E) (history : List E) : Type 0 where
    pub point : List E
    pub between : List E
    pub is : history ≡ point ++ e ∷ between ++ last ∷ []
    pub begins : BeginsWith point seen
    pub new : own_events b point (b.actor_of e) ≡ own_events b seen (b.actor_of e)

  -- A call was answered, and then its caller, or one who knew of it by receipts, took a receipt. Another caller
  -- accepted that, and has seen more since. If a call of it is answered now, then in what it sees the first call's
  -- event stands before it.
  abbrev pub ReceiptsOrderCalls : Type 0
  ReceiptsOrderCalls =
      (m n : M) (c d : C) (x y : A) (seen answered receipt accepted heard now : List E)
      → Settles b m c x seen answered → BeginsWith receipt answered → BeginsWith accepted receipt
      → BeginsWith heard accepted → Settles b n d y heard now
      → StandsBefore seen (b.event m c x) (b.event n d y) now

  -- The same steps, in any interlock: the later call gets no lower stamp than the first one, and a higher one if it is
  -- done.
  abbrev pub ReceiptsRaiseStamps : Type 0
  ReceiptsRaiseStamps =
      (opening : S) (m n : M) (c d : C) (x y : Reply A) (seen answered receipt accepted heard now : List E)
      → SeenAfter b m c x opening seen answered → BeginsWith receipt answered → BeginsWith accepted receipt
      → BeginsWith heard accepted → SeenAfter b n d y opening heard now → IsLegal b opening now
      → IsStampedAfter b (stamp_in x) y
