-- Order by message, as by Lamport's "happened before": a call that is made after a receipt was accepted comes after all
-- that the receipt tells.
use Rattle.std.specs.Prelude.{◌≡◌, List, [], ◌∷◌, ◌++◌, Ok}
use Rattle.cell_types.specs.declared.machine.Machine.{Machine}
use Rattle.cell_types.specs.declared.call.Call.{Call}
use Rattle.cell_types.specs.declared.answer.Answer.{Answer}
use Rattle.cell_types.specs.declared.answer.Event.{Event}
use Rattle.cell_types.specs.declared.reply.Reply.{Reply}
use Rattle.cell_rules.specs.ModelState.{ModelState}
use Rattle.cell_rules.specs.History.{IsLegal, own_events}
use Rattle.cell_rules.specs.Seen.{event, BeginsWith, Settles, SeenAfter}
use Rattle.cell_interlock.specs.Calls.{stamp_in, IsStampedAfter}

-- In a history an event stands before its last one. It is the first of its machine after what that had seen.
pub record StandsBefore (seen : List Event) (e last : Event) (history : List Event) : Type 0 where
  pub point : List Event
  pub between : List Event
  pub is : history ≡ point ++ e ∷ between ++ last ∷ []
  pub begins : BeginsWith point seen
  pub new : own_events point e.machine ≡ own_events seen e.machine

-- A call was answered, and then its caller, or one who knew of it by receipts, took a receipt. Another caller accepted
-- that, and has seen more since. If a call of it is answered now, then in what it sees the first call's event stands
-- before it.
abbrev pub ReceiptsOrderCalls : Type 0
ReceiptsOrderCalls =
    (m n : Machine) (c d : Call) (a b : Answer) (seen answered receipt accepted heard now : List Event)
    → Settles m c a seen answered → BeginsWith receipt answered → BeginsWith accepted receipt
    → BeginsWith heard accepted → Settles n d b heard now
    → StandsBefore seen (event m c a) (event n d b) now

-- The same steps, in any interlock: the later call gets no lower stamp than the first one, and a higher one if it is
-- Done.
abbrev pub ReceiptsRaiseStamps : Type 0
ReceiptsRaiseStamps =
    (opening : ModelState) (m n : Machine) (c d : Call) (x y : Reply)
    (seen answered receipt accepted heard now : List Event)
    → SeenAfter m c (Ok x) opening seen answered → BeginsWith receipt answered → BeginsWith accepted receipt
    → BeginsWith heard accepted → SeenAfter n d (Ok y) opening heard now → IsLegal opening now
    → IsStampedAfter (stamp_in x) y
